-- Descriptors written into a store: one run of words after another, a parent's own under its children's, and the rest of a store lent on.
-- Assumes nothing.
use Prim.Native.Nat.{ℕ, suc, ◌+◌, ◌*◌, ◌-◌, ◌≤◌, ◌<◌}
use mathlib.Core.Path.{◌≡◌, refl, sym, ap, ◌∙◌}
use mathlib.Core.List.{List, [], ◌∷◌, ◌++◌, append-nil, append_assoc}
use native.Mathlib.Omega.{arith}
use native.Mathlib.Nat.{add-zero, zero-add, suc-add}
use lib.ListN.{length, set, take, drop, length-append, length-drop, take-append-drop, drop_of_length-le}
use lib.Seq.{sets, length-sets, sets-eq, set_comm, take_all, length-take-le}
use Rattle.reading.specs.Script.{Range, Forest, bare, tree, ◌⊕◌}
use Rattle.reading.specs.Answer.{size, row_of, rows}
use Rattle.reading.specs.Sizes.{descriptor_words}

-- the list l with ws stored from place i on
unfoldable pub write : List ℕ → ℕ → List ℕ → List ℕ
write l i ws = sets l i ws

sets_below : (vs l : List ℕ) (k i a : ℕ) → k < i → set (sets l i vs) k a ≡ sets (set l k a) i vs
sets_below [] l k i a h = refl
sets_below (v ∷ vs) l k i a h = sets_below vs (set l i v) k (suc i) a (omega arith) ∙ ap (λ (m : List ℕ). sets m (suc i) vs) (set_comm l i k v a (λ e. omega arith))

sets_app : (a b l : List ℕ) (i : ℕ) → sets (sets l i a) (i + length a) b ≡ sets l i (a ++ b)
sets_app [] b l i = ap (λ (k : ℕ). sets l k b) (add-zero i)
sets_app (x ∷ a) b l i = ap (λ (k : ℕ). sets (sets (set l i x) (suc i) a) k b) (omega arith) ∙ sets_app a b (set l i x) (suc i)

sets_under : (a b l : List ℕ) (i : ℕ) → sets (sets l (i + length a) b) i a ≡ sets l i (a ++ b)
sets_under [] b l i = ap (λ (k : ℕ). sets l k b) (add-zero i)
sets_under (x ∷ a) b l i =
    ap (λ (m : List ℕ). sets m (suc i) a) (sets_below b l i (i + suc (length a)) x (omega arith))
    ∙ ap (λ (k : ℕ). sets (sets (set l i x) k b) (suc i) a) (omega arith)
    ∙ sets_under a b (set l i x) (suc i)

pub write_length : (l : List ℕ) (i : ℕ) (ws : List ℕ) → length (write l i ws) ≡ length l
unfolding write
write_length l i ws = length-sets l i ws

pub write_none : (l : List ℕ) (i : ℕ) → write l i [] ≡ l
unfolding write
write_none l i = refl

-- one run after another
pub write_then : (a b l : List ℕ) (i j : ℕ) → j ≡ i + length a → write (write l i a) j b ≡ write l i (a ++ b)
unfolding write
write_then a b l i j e = rw e (sets_app a b l i)

-- one run before another that was written first
pub write_under : (a b l : List ℕ) (i j : ℕ) → j ≡ i + length a → write (write l j b) i a ≡ write l i (a ++ b)
unfolding write
write_under a b l i j e = rw e (sets_under a b l i)

-- all that is written from the first word on, and what stays behind it
pub write_all : (l ws : List ℕ) → length ws ≤ length l → write l 0 ws ≡ ws ++ drop (length ws) l
unfolding write
write_all l ws h = sets-eq ws l 0 (omega arith) ∙ ap (λ (k : ℕ). ws ++ drop k l) (zero-add (length ws))

-- ---- the rest of a store, lent on
set_right : (p q : List ℕ) (i a : ℕ) → set (p ++ q) (length p + i) a ≡ p ++ set q i a
set_right [] q i a = rw zero-add
set_right (x ∷ p) q i a = rw suc-add (ap (λ (m : List ℕ). x ∷ m) (set_right p q i a))

sets_right : (p q : List ℕ) (i : ℕ) (ws : List ℕ) → sets (p ++ q) (length p + i) ws ≡ p ++ sets q i ws
sets_right p q i [] = refl
sets_right p q i (w ∷ ws) =
    ap (λ (m : List ℕ). sets m (suc (length p + i)) ws) (set_right p q i w)
    ∙ ap (λ (k : ℕ). sets (p ++ set q i w) k ws) (omega arith)
    ∙ sets_right p (set q i w) (suc i) ws

abbrev pub rest : List ℕ → ℕ → List ℕ
rest l m = take (length l - m) (drop m l)

pub rest_is : (l : List ℕ) (m : ℕ) → rest l m ≡ drop m l
rest_is l m = take_all (length l - m) (drop m l) (omega (arith, length-drop m l))

pub write_rest : (l : List ℕ) (m : ℕ) (ws : List ℕ) → m ≤ length l → take m l ++ (write (rest l m) 0 ws ++ drop (length l - m) (drop m l)) ≡ write l m ws
unfolding write
write_rest l m ws h =
    let n : drop (length l - m) (drop m l) ≡ [] = drop_of_length-le (drop m l) {i = length l - m} (omega (arith, length-drop m l)) in
    let k : length (take m l) + 0 ≡ m = omega (arith, length-take-le m l h) in
    rw (n, append-nil, rest_is) (sym (sets_right (take m l) (drop m l) 0 ws) ∙ ap (λ (j : ℕ). sets (take m l ++ drop m l) j ws) k ∙ ap (λ (x : List ℕ). sets x m ws) (take-append-drop m l))

-- ---- rows of descriptors
pub rows_length : (i p : ℕ) (f : Forest) → length (rows i p f) ≡ descriptor_words * size f
unfolding rows size
rows_length i p bare = refl
rows_length i p (tree r inner after) =
    let a : (q : ℕ) → length (rows (i + 1) q inner) ≡ descriptor_words * size inner = λ q. rows_length (i + 1) q inner in
    let b = rows_length (i + 1 + size inner) p after in
    simp (length-append, a, b) (omega arith)

pub rows_joined : (i p : ℕ) (f g : Forest) → rows i p (f ⊕ g) ≡ rows i p f ++ rows (i + size f) p g
unfolding rows size
rows_joined i p bare g = ap (λ (k : ℕ). rows k p g) (sym (add-zero i))
rows_joined i p (tree r inner after) g =
    let k : i + 1 + size inner + size after ≡ i + (1 + size inner + size after) = omega arith in
    let e : rows (i + 1 + size inner) p (after ⊕ g) ≡ rows (i + 1 + size inner) p after ++ rows (i + (1 + size inner + size after)) p g = rows_joined (i + 1 + size inner) p after g ∙ ap (λ (m : ℕ). rows (i + 1 + size inner) p after ++ rows m p g) k in
    simp (e, append_assoc)

-- one range: its own words, and those of what is inside it
pub rows_one : (i p : ℕ) (r : Range) (inner : Forest) → rows i p (tree r inner bare) ≡ row_of p r ++ rows (i + 1) i inner
unfolding rows
rows_one i p r inner = ap (λ (t : List ℕ). row_of p r ++ t) (append-nil (rows (i + 1) i inner))
