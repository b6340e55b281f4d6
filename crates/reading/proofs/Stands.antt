-- Bytes that stand at a place of the input, and what an item that they are is read as. Assumes nothing.
use Prim.Native.Nat.{ℕ, zero, suc, ◌+◌, ◌≤◌, ◌<◌}
use mathlib.Core.Path.{◌≡◌, refl, sym, ap, ◌∙◌, subst}
use mathlib.Core.List.{List, [], ◌∷◌, ◌++◌, append_assoc, append-nil}
use native.Mathlib.Omega.{arith}
use native.Mathlib.Nat.{add-zero, zero-add, suc-add, add_assoc}
use borrow.Author.Tests.{le-leb}
use lib.ListN.{length, take, drop, get_or, length-append, get_or-append, take-append-drop}
use lib.Seq.{get_or-drop, drop-drop, drop-append-le, drop_at, take_at, length-take-le, take-nil, drop-nil}
use Rattle.reading.specs.Bytes.{be4, padded}
use Rattle.reading.specs.Cursor.{Place, got, fixed, awaited, read_opaque}
use Rattle.reading.specs.Sizes.{longest_opaque}
use Rattle.reading.specs.Grammar.{Opaque}

abbrev pub place : ℕ → ℕ → Place
place a n = record { at = a; steps = n }

-- the bytes b stand at o in s, with `rest` behind them
pub record Stands (s : List ℕ) (o : ℕ) (b rest : List ℕ) : Type 0 where
  pub there : drop o s ≡ b ++ rest
  pub fits : o + length b ≤ length s

pub byte_at : {s b rest : List ℕ} (o : ℕ) → Stands s o b rest → (i : ℕ) → i < length b → get_or s (o + i) 0 ≡ get_or b i 0
byte_at {s} {b} {rest} o h i l = sym (get_or-drop o s i 0) ∙ ap (λ (t : List ℕ). get_or t i 0) h.there ∙ get_or-append b rest 0 i l

pub be4_at : {s b rest : List ℕ} (o : ℕ) → Stands s o b rest → (i : ℕ) → i + 4 ≤ length b → be4 s (o + i) ≡ be4 b i
unfolding be4
be4_at {s} {b} {rest} o h i l =
    let e0 : get_or s (o + i) 0 ≡ get_or b i 0 = byte_at o h i (omega arith) in
    let e1 : get_or s (o + i + 1) 0 ≡ get_or b (i + 1) 0 = ap (λ (k : ℕ). get_or s k 0) (add_assoc o i 1) ∙ byte_at o h (i + 1) (omega arith) in
    let e2 : get_or s (o + i + 2) 0 ≡ get_or b (i + 2) 0 = ap (λ (k : ℕ). get_or s k 0) (add_assoc o i 2) ∙ byte_at o h (i + 2) (omega arith) in
    let e3 : get_or s (o + i + 3) 0 ≡ get_or b (i + 3) 0 = ap (λ (k : ℕ). get_or s k 0) (add_assoc o i 3) ∙ byte_at o h (i + 3) (omega arith) in
    cc

pub be4_here : {s b rest : List ℕ} (o : ℕ) → Stands s o b rest → 4 ≤ length b → be4 s o ≡ be4 b 0
be4_here {s} o h l = ap (λ (k : ℕ). be4 s k) (sym (add-zero o)) ∙ be4_at o h 0 (omega arith)

-- what stands at o in two parts
module _ {s b rest : List ℕ} {o : ℕ} (x y : List ℕ) (e : b ≡ x ++ y) (h : Stands s o b rest) where
  pub both : Stands s o (x ++ y) rest
  both = subst (λ (t : List ℕ). Stands s o t rest) e h

  pub front : Stands s o x (y ++ rest)
  front = record {
    there = both.there ∙ append_assoc x y rest;
    fits = omega (arith, simp length-append at both.fits);
  }

  pub back : Stands s (o + length x) y rest
  back = record {
    there = sym (drop-drop (length x) o s) ∙ ap (λ (t : List ℕ). drop (length x) t) (both.there ∙ append_assoc x y rest) ∙ drop_at x (y ++ rest) (length x) refl;
    fits = omega (arith, simp length-append at both.fits);
  }

-- an item of n bytes that are there
pub fixed_there : {A : Type 0} (s : List ℕ) (n : ℕ) (a : A) (o k : ℕ) → o + n ≤ length s → fixed n a s (place o k) ≡ got a (place (o + n) (k + 1))
unfolding fixed
fixed_there s n a o k h = simp (le-leb _ _ h)

pub opaque_there : {s u rest x : List ℕ} (o k : ℕ) → Opaque x u → Stands s o u rest
    → read_opaque s (place o k) ≡ got (record { start = o + 4; count = length x }) (place (o + length u) (k + 1))
unfolding read_opaque
opaque_there {s} {u} {rest} {x} o k q h =
    let len : length u ≡ 4 + padded (length x) = ap length q.joined ∙ simp (length-append, q.four, q.filled) (omega arith) in
    let n : be4 s o ≡ length x = be4_here o (front q.size (x ++ q.pad) q.joined h) (omega (arith, q.four)) ∙ q.counts in
    rw (le-leb (o + 4) (length s) (omega (arith, h.fits)), n, le-leb (length x) longest_opaque (omega (arith, q.small)), le-leb (o + awaited (length x)) (length s) (omega (arith, len, h.fits)))
    (ap (λ (j : ℕ). got (record { start = o + 4; count = length x }) (place (o + j) (k + 1))) (sym len))

pub payload_there : {s u rest x : List ℕ} (o : ℕ) → Opaque x u → Stands s o u rest → (e : List ℕ) × Stands s (o + 4) x e
payload_there {s} {u} {rest} {x} o q h =
    let b = back q.size (x ++ q.pad) q.joined h in
    (q.pad ++ rest, front x q.pad refl (subst (λ (k : ℕ). Stands s (o + k) (x ++ q.pad) rest) q.four b))

pub bytes_there : {s x rest : List ℕ} (o : ℕ) → Stands s o x rest → take (length x) (drop o s) ≡ x
bytes_there {s} {x} {rest} o h = ap (λ (t : List ℕ). take (length x) t) h.there ∙ take_at x rest (length x) refl

pub drop_take : (o n : ℕ) (s : List ℕ) → drop o (take (o + n) s) ≡ take n (drop o s)
drop_take zero n s = rw zero-add
drop_take (suc o) n [] = simp (take-nil, drop-nil)
drop_take (suc o) n (x ∷ s) = rw suc-add (drop_take o n s)

-- x, held to its own end
pub held : {s x rest : List ℕ} (o : ℕ) → Stands s o x rest → Stands (take (o + length x) s) o x []
held {s} {x} {rest} o h = record {
  there = drop_take o (length x) s ∙ bytes_there o h ∙ sym (append-nil x);
  fits = rw (length-take-le (o + length x) s h.fits) (omega arith);
}

-- what stands in the first m bytes stands in all of them
pub wider : {s x rest : List ℕ} (m o : ℕ) → m ≤ length s → o ≤ m → Stands (take m s) o x rest → Stands s o x (rest ++ drop m s)
wider {s} {x} {rest} m o i j h =
    let k : length (take m s) ≡ m = length-take-le m s i in
    record {
      there =
          ap (λ (t : List ℕ). drop o t) (sym (take-append-drop m s)) ∙ drop-append-le o (take m s) (drop m s) (omega arith)
          ∙ ap (λ (t : List ℕ). t ++ drop m s) h.there ∙ append_assoc x rest (drop m s);
      fits = omega (arith, h.fits);
    }
