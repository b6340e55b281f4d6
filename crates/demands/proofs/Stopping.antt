-- What the cursor answers where the grammar has no item, no opaque or not so many in a row: that refusal, at that place. Assumes nothing.
use Prim.Native.Nat.{ℕ, zero, suc, ◌+◌, ◌-◌, ◌≤◌, ◌<◌}
use mathlib.Core.Path.{◌≡◌, sym, ap, ◌∙◌}
use mathlib.Core.Bool.{false}
use mathlib.Core.List.{List, ◌++◌}
use native.Mathlib.Omega.{arith}
use borrow.Author.Tests.{le-leb, lt-leb}
use lib.ListN.{length, drop, length-drop, length-append}
use Rattle.reading.specs.Sizes.{longest_opaque}
use Rattle.reading.specs.Bytes.{be4, padded}
use Rattle.reading.specs.Script.{octet_count, Found, ◌⊞◌, Item, string}
use Rattle.reading.specs.Cursor.{Place, got, stop, Reader, then, fixed, bytes, read_opaque, read_item, times}
use Rattle.reading.specs.Utf8.{Longest}
use Rattle.reading.proofs.Utf8Longest.{longest, longest_is, short_ill}
use Rattle.reading.proofs.Items.{split}
use Rattle.reading.proofs.Stands.{place, Stands, opaque_there, payload_there, bytes_there}
use Rattle.demands.specs.Stops.{NoOpaque, no_length, too_long, cut, NoItem, no_word, no_tested, failed, no_long, no_int, no_block, no_part, no_string, Opens}
use Rattle.demands.proofs.Pieces.{behind, word_drop}

-- b is what is left of s at o
pub record Left (s : List ℕ) (o : ℕ) (b : List ℕ) : Type 0 where
  pub there : drop o s ≡ b
  pub fits : o ≤ length s

left_long : {s b : List ℕ} {o : ℕ} → Left s o b → length b ≡ length s - o
left_long {s} {b} {o} h = ap length (sym h.there) ∙ length-drop o s

-- its first word
left_word : {s b : List ℕ} {o : ℕ} → Left s o b → be4 s o ≡ be4 b 0
left_word {s} {b} {o} h = word_drop s o ∙ ap (λ (l : List ℕ). be4 l 0) h.there

-- a part of it, and what is left behind that
module _ {s b : List ℕ} {o : ℕ} (x y : List ℕ) (e : b ≡ x ++ y) (h : Left s o b) where
  pub part_stands : Stands s o x y
  part_stands =
      let l = left_long h in
      let m : length b ≡ length x + length y = ap length e ∙ length-append x y in
      record { there = h.there ∙ e; fits = omega (arith, l, m, h.fits) }

  pub left_behind : Left s (o + length x) y
  left_behind = record { there = behind o part_stands; fits = part_stands.fits }

-- ---- one item

module _ {s b : List ℕ} {o : ℕ} (h : Left s o b) (k : ℕ) where
  fixed_missing : {A : Type 0} (m : ℕ) (a : A) → length b < m → fixed m a s (place o k) ≡ stop 2 o k
  unfolding fixed
  fixed_missing m a l = let z = left_long h in rw (lt-leb (o + m) (length s) (omega (arith, z, h.fits)))

  pub opaque_missing : {c : ℕ} → NoOpaque b c → read_opaque s (place o k) ≡ stop c o k
  unfolding read_opaque fixed
  opaque_missing (no_length l e) = let z = left_long h in rw (lt-leb (o + 4) (length s) (omega (arith, z, h.fits)), e)
  opaque_missing (too_long f l e) =
      let z = left_long h in
      let w = left_word h in
      rw (le-leb (o + 4) (length s) (omega (arith, z, h.fits)), lt-leb (be4 s o) longest_opaque (omega (arith, w)), e)
  opaque_missing (cut f l m e) =
      let z = left_long h in
      let w = left_word h in
      rw (le-leb (o + 4) (length s) (omega (arith, z, h.fits)), le-leb (be4 s o) longest_opaque (omega (arith, w)), e) (fixed_missing (4 + padded (be4 s o)) _ (rw w m))

  pub item_missing : {c : ℕ} {i : Item} → NoItem b c i → read_item i s (place o k) ≡ stop c o k
  unfolding read_item
  item_missing (no_word l e) = rw e (fixed_missing 4 _ l)
  item_missing (no_tested l e) = let z = left_long h in rw (lt-leb (o + 4) (length s) (omega (arith, z, h.fits)), e)
  item_missing (failed {ok} f l e) =
      let z = left_long h in
      let w : ok (be4 s o) ≡ false = ap ok (left_word h) ∙ l in
      rw (le-leb (o + 4) (length s) (omega (arith, z, h.fits)), w, e)
  item_missing (no_long l e) = rw e (fixed_missing 8 _ l)
  item_missing (no_int l e) = rw e (fixed_missing 4 _ l)
  item_missing (no_block {w} l e) = rw e (fixed_missing (octet_count w) _ l)
  item_missing (no_part n) = rw (opaque_missing n)
  item_missing (no_string n) = rw (opaque_missing n)

  -- a string that is there, and is ill-formed behind its first j bytes
  pub string_ill : {x : List ℕ} {j : ℕ} → Opens x b → Longest x j → j < length x → read_item string s (place o k) ≡ stop 7 (o + 4 + j) k
  unfolding read_item
  string_ill {x} {j} q l m =
      let st = part_stands q.read q.rest q.joined h in
      let g : bytes s (record { start = o + 4; count = length x }) ≡ x = bytes_there (o + 4) (payload_there o q.is st).1 in
      rw (opaque_there o k q.is st, g, short_ill l m, longest_is (longest x) l)

-- of so many in a row, one that stops
pub many_stop : (r : Reader Found) (s : List ℕ) (j c : ℕ) (p : Place) {a : Found} {q : Place} {code at n : ℕ} → j < c → times j r s p ≡ got a q → r s q ≡ stop code at n → times c r s p ≡ stop code at n
unfolding times
many_stop r s j zero p l e f = absurd (omega arith)
many_stop r s zero (suc c) p {a} {q} l e f = let z : p ≡ q = cc in rw (z, f)
many_stop r s (suc j) (suc c) p {a} {q} {code} {at} {n} l e f =
    let w = split (r s p) _ e in
    let v = split (times j r s w.place) _ w.second in
    let z : v.place ≡ q = place_is v.second in
    let g = many_stop r s j c w.place (omega arith) v.first (ap (r s) z ∙ f) in
    go w.first g
  where
    place_is : {b : Found} {i : Place} → got b i ≡ got a q → i ≡ q
    place_is e = cc

    go : {b : Found} {i : Place} → r s p ≡ got b i → times c r s i ≡ stop code at n → then (r s p) (λ b i. then (times c r s i) (λ d u. got (b ⊞ d) u)) ≡ stop code at n
    go e g = rw (e, g)
