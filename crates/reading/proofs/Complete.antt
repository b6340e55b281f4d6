-- Demand 2, one half: where the grammar has a reading, the cursor gives that reading. By induction on the script. Assumes nothing.
use Prim.Native.Nat.{ℕ, zero, suc, ◌+◌}
use mathlib.Core.Path.{◌≡◌, refl, sym, ap, ◌∙◌}
use mathlib.Core.List.{List, [], ◌++◌}
use native.Mathlib.Omega.{arith}
use native.Mathlib.Nat.{add-zero, add_assoc}
use borrow.Author.Tests.{le-leb}
use lib.ListN.{length, take, drop, length-append}
use Rattle.reading.specs.Bytes.{be8}
use Rattle.reading.specs.Script.{octet_count, Value, Found, Item, word, tested, long, int, block, opaque, string, Script, give, refuse, here, item, within, repeat}
use Rattle.reading.specs.Cursor.{Place, Out, got, Reader, then, read_opaque, read_item, times, inside, follow}
use Rattle.reading.specs.Grammar.{IsItem, Meaning, Many, Is}
use Rattle.reading.proofs.Stands.{place, Stands, be4_at, be4_here, front, back, opaque_there, payload_there, bytes_there, held}

pub complete_item : (i : Item) {s b rest : List ℕ} {v : Value} (o k : ℕ) → IsItem i o b v → Stands s o b rest → read_item i s (place o k) ≡ got v (place (o + length b) (k + 1))
unfolding IsItem read_item be8
complete_item word {s} o k (len, e) h = simp (e, len, be4_here o h (omega arith), le-leb (o + 4) (length s) (omega (arith, h.fits)))
complete_item (tested ok code) {s} o k (len, t, e) h = simp (e, len, be4_here o h (omega arith), t, le-leb (o + 4) (length s) (omega (arith, h.fits)))
complete_item long {s} o k (len, e) h = simp (e, len, be4_here o h (omega arith), be4_at o h 4 (omega arith), le-leb (o + 8) (length s) (omega (arith, h.fits)))
complete_item int {s} o k (len, e) h = simp (e, len, be4_here o h (omega arith), le-leb (o + 4) (length s) (omega (arith, h.fits)))
complete_item (block w) {s} {b} o k (len, e) h =
    let t : take (octet_count w) (drop o s) ≡ b = ap (λ (n : ℕ). take n (drop o s)) (sym len) ∙ bytes_there o h in
    simp (e, t, ← len, le-leb (o + length b) (length s) h.fits)
complete_item opaque o k (x, q, e) h = simp (e, opaque_there o k q h)
complete_item string {s} o k (x, q, t, e) h =
    let y : take (length x) (drop (o + 4) s) ≡ x = bytes_there (o + 4) (payload_there o q h).1 in
    simp (e, opaque_there o k q h, y, t)

-- a reader gives what a meaning says
abbrev pub Gives : Reader Found → Meaning → Type 0
Gives r P = (s b rest : List ℕ) (f : Found) (o k n : ℕ) → P o b f n → Stands s o b rest → r s (place o k) ≡ got f (place (o + length b) (k + n))

pub complete_many : (r : Reader Found) (P : Meaning) → Gives r P → (c : ℕ) → Gives (times c r) (Many c P)
unfolding times Many
complete_many r P each zero s b rest f o k n (e, g, m) h = simp (e, g, m, add-zero)
complete_many r P each (suc c) s b rest f o k n (x, y, g, g', m, l, e, eg, en, px, py) h =
    let a : r s (place o k) ≡ got g (place (o + length x) (k + m)) = each s x (y ++ rest) g o k m px (front x y e h) in
    let b' : times c r s (place (o + length x) (k + m)) ≡ got g' (place (o + length x + length y) (k + m + l)) = complete_many r P each c s y rest g' (o + length x) (k + m) l py (back x y e h) in
    simp (a, b', e, eg, en, length-append, add_assoc)

follow_repeat : (c : ℕ) (body : Script) (j : Found → Script) (s : List ℕ) (p : Place) → follow (repeat c body j) s p ≡ then (times c (follow body) s p) (λ a q. follow (j a) s q)
unfolding follow
follow_repeat c body j s p = refl

pub complete : (sc : Script) → Gives (follow sc) (Is sc)
unfolding follow Is inside
complete (give a) s b rest f o k n (e, g, m) h = simp (e, g, m, add-zero)
complete (refuse code) s b rest f o k n none h = absurd none
complete (here j) s b rest f o k n i h = complete (j o) s b rest f o k n i h
complete (item i j) s b rest f o k n (x, y, v, m, e, en, ix, iy) h =
    let a : read_item i s (place o k) ≡ got v (place (o + length x) (k + 1)) = complete_item i o k ix (front x y e h) in
    let c : follow (j v) s (place (o + length x) (k + 1)) ≡ got f (place (o + length x + length y) (k + 1 + m)) = complete (j v) s y rest f (o + length x) (k + 1) m iy (back x y e h) in
    simp (a, c, e, en, length-append, add_assoc)
complete (within body j) s b rest f o k n (u, y, x, i, over, a, m, l, e, en, q, ex, ii, iy) h =
    let hu = front u y e h in
    let hx = (payload_there o q hu).1 in
    let c : read_opaque s (place o k) ≡ got (record { start = o + 4; count = length x }) (place (o + length u) (k + 1)) = opaque_there o k q hu in
    let d : follow body (take (o + 4 + length x) s) (place (o + 4) (k + 1)) ≡ got a (place (o + 4 + length i) (k + 1 + m)) = complete body (take (o + 4 + length x) s) i (over ++ []) a (o + 4) (k + 1) m ii (front i over ex (held (o + 4) hx)) in
    let z : follow (j (record { start = o + 4; count = length x }) a) s (place (o + length u) (k + 1 + m)) ≡ got f (place (o + length u + length y) (k + 1 + m + l)) = complete (j (record { start = o + 4; count = length x }) a) s y rest f (o + length u) (k + 1 + m) l iy (back u y e h) in
    rw (c, d, z) (simp (e, en, length-append, add_assoc))
complete (repeat c body j) s b rest f o k n (x, y, a, m, l, e, en, ix, iy) h =
    let d : times c (follow body) s (place o k) ≡ got a (place (o + length x) (k + m)) = complete_many (follow body) (Is body) (complete body) c s x (y ++ rest) a o k m ix (front x y e h) in
    let z : follow (j a) s (place (o + length x) (k + m)) ≡ got f (place (o + length x + length y) (k + m + l)) = complete (j a) s y rest f (o + length x) (k + m) l iy (back x y e h) in
    follow_repeat c body j s (place o k) ∙ ap (λ (t : Out Found). then t (λ a q. follow (j a) s q)) d ∙ z ∙ simp (e, en, length-append, add_assoc)
