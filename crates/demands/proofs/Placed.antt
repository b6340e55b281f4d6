-- Demand 3, of the descriptors in the store: a descriptor's range lies inside its parent's with its pad, and of two with one parent the second's
-- first byte is at or after the end of the first's pad. For one datagram, and for a run. Assumes nothing.
use Prim.Native.Nat.{ℕ, zero, suc, ◌+◌, ◌*◌, ◌-◌, ◌≤◌, ◌<◌}
use mathlib.Core.Logic.{◌⊎◌, inl, inr}
use mathlib.Core.Path.{◌≡◌, refl, sym, ap, ◌∙◌, subst}
use mathlib.Core.Bool.{Bool, true, false, cond}
use mathlib.Core.List.{List, ◌++◌, append_assoc}
use native.Mathlib.Omega.{arith}
use borrow.Author.Tests.{leb-true, leb-false}
use lib.Dec.{leb}
use lib.ListN.{length, drop}
use Rattle.reading.specs.Script.{Value, Forest, bare, tree, Found}
use Rattle.reading.specs.Cursor.{Place, Out, got, stop, follow}
use Rattle.reading.specs.Layout.{Mode, datagram}
use Rattle.reading.specs.Sizes.{longest_input, descriptor_words, depth_limit}
use Rattle.reading.specs.Answer.{limited, from, nobody, size, rows, room, Header, header_of, no_header, Answer, refused, stored, one, datagrams, run}
use Rattle.reading.proofs.Items.{either}
use Rattle.reading.proofs.Stored.{rows_length}
use Rattle.reading.proofs.Room.{datagram_on}
use Rattle.reading.proofs.Runs.{thrifty_datagrams}
use Rattle.reading.proofs.Descriptors.{entry, entry_past_one, entry_past}
use Rattle.reading.proofs.Faults.{Sure, fault}
use Rattle.reading.proofs.Codes.{sure_datagram, sure_run}
use Rattle.demands.proofs.Quarter.{one_size, run_size}
use Rattle.demands.specs.Nested.{end, last, top, Nested, Row, row, Under, child, deeper, InPlace}
use Rattle.demands.proofs.Nested.{later, datagram_nested, run_nested}
use Rattle.demands.proofs.Siblings.{In, this, within, behind, Parent, own, before, parted, in_bounds, Outside, over, root_parent, root_first, root_kind, Held, parent_holds, siblings_apart}
use Rattle.demands.proofs.Ordered.{in_order, Block, block}

same : (v w : List ℕ) (i j : ℕ) → ((k : ℕ) → entry v i k ≡ entry w j k) → row v i ≡ row w j
unfolding row
same v w i j e = λ t. record { kind = e 0 t; span = record { start = e 2 t; count = e 3 t }; parent = e 4 t; first = e 6 t }

stands_in : (f : Forest) (j p i k : ℕ) (rest : List ℕ) → i < size f → k ≡ j + i → In f j p k (row (rows j p f ++ rest) i)
unfolding rows size row
stands_in bare j p i k rest h e = absurd (omega arith)
stands_in (tree r a b) j p zero k rest h e = let z : k ≡ j = omega arith in this z
stands_in (tree r a b) j p (suc i) k rest h e =
    let x = rows (j + 1) j a in
    let y = rows (j + 1 + size a) p b ++ rest in
    let z = (x ++ rows (j + 1 + size a) p b) ++ rest in
    subst (In (tree r a b) j p k)
    (sym (same (rows j p (tree r a b) ++ rest) z (suc i) i (entry_past_one p r i z)
    ∙ ap (λ (l : List ℕ). row l i) (append_assoc x (rows (j + 1 + size a) p b) rest)))
    (go (λ l. stands_in a (j + 1) j i k y l (omega arith)) (λ l. stands_in b (j + 1 + size a) p (i - size a) k rest l) (λ l. same (x ++ y) y i (i - size a) (entry_past x y (size a) i (rows_length (j + 1) j a) l)) (leb (size a) i) refl)
  where
    go : {u v : Row} → (i < size a → In a (j + 1) j k u) → (i - size a < size b → k ≡ j + 1 + size a + (i - size a) → In b (j + 1 + size a) p k v)
        → (size a ≤ i → u ≡ v) → (t : Bool) → leb (size a) i ≡ t → In (tree r a b) j p k u
    go f g q false t = within (f (omega (arith, leb-false)))
    go f g q true t = let l : size a ≤ i = leb-true (size a) i t in subst (In (tree r a b) j p k) (sym (q l)) (behind (g (omega arith) (omega arith)))

module _ (f : Forest) {lo hi : ℕ} (nested : Nested top lo hi f) (few : size f ≤ nobody) (rest : List ℕ) where
  listed : (i : ℕ) → i < size f → In f 0 nobody i (row (rows 0 nobody f ++ rest) i)
  listed i h = stands_in f 0 nobody i i rest h (omega arith)

  outside : Outside f 0 nobody
  outside = over (omega arith)

  first : (i : ℕ) → i < size f → ((row (rows 0 nobody f ++ rest) i).kind ≡ 0 → ⊥) → (row (rows 0 nobody f ++ rest) i).parent < i
  first i h z = go (parted (listed i h)).parent
    where
      go : Parent nobody 0 i (row (rows 0 nobody f ++ rest) i).parent → (row (rows 0 nobody f ++ rest) i).parent < i
      go (own e) = absurd (z (root_kind nested outside (listed i h) e))
      go (before u v) = v

  held : (i : ℕ) → i < size f → ((row (rows 0 nobody f ++ rest) i).kind ≡ 0 → ⊥) → Held (row (rows 0 nobody f ++ rest) i) (row (rows 0 nobody f ++ rest) (row (rows 0 nobody f ++ rest) i).parent)
  held i h z = let l = first i h z in parent_holds nested outside (listed i h) (listed (row (rows 0 nobody f ++ rest) i).parent (omega arith)) refl

  -- what is in its block is under it
  under : {i : ℕ} (b : Block f 0 nobody i (row (rows 0 nobody f ++ rest) i)) (n k : ℕ) → k ≤ n → i < k → k ≤ i + b.count → Under (rows 0 nobody f ++ rest) i k
  under b zero k q l h = absurd (omega arith)
  under {i} b (suc n) k q l h =
      let z = b.inner (listed k (omega (arith, b.fits))) l h in
      let u : (row (rows 0 nobody f ++ rest) k).kind ≡ 0 → ⊥ = λ e. omega (arith, z.0) in
      let v = first k (omega (arith, b.fits)) u in
      go u z.1 (λ j. under b n (row (rows 0 nobody f ++ rest) k).parent (omega arith) j (omega arith)) (leb (row (rows 0 nobody f ++ rest) k).parent i) refl
    where
      go : ((row (rows 0 nobody f ++ rest) k).kind ≡ 0 → ⊥) → i ≤ (row (rows 0 nobody f ++ rest) k).parent
          → (i < (row (rows 0 nobody f ++ rest) k).parent → Under (rows 0 nobody f ++ rest) i (row (rows 0 nobody f ++ rest) k).parent)
          → (t : Bool) → leb (row (rows 0 nobody f ++ rest) k).parent i ≡ t → Under (rows 0 nobody f ++ rest) i k
      go u v again true e = child u (omega (arith, leb-true))
      go u v again false e = deeper u (again (leb-false _ i e))

  either_way : (i k : ℕ) → i < k → k < size f → Block f 0 nobody i (row (rows 0 nobody f ++ rest) i)
      → Under (rows 0 nobody f ++ rest) i k ⊎ (last (row (rows 0 nobody f ++ rest) i).span ≤ (row (rows 0 nobody f ++ rest) k).first)
  either_way i k l h b = go (leb k (i + b.count)) refl
    where
      go : (t : Bool) → leb k (i + b.count) ≡ t → Under (rows 0 nobody f ++ rest) i k ⊎ (last (row (rows 0 nobody f ++ rest) i).span ≤ (row (rows 0 nobody f ++ rest) k).first)
      go true e = inl (under b k k (omega arith) l (leb-true k (i + b.count) e))
      go false e = inr (b.outer (listed k h) (leb-false k (i + b.count) e))

  pub rows_in_place : InPlace (rows 0 nobody f ++ rest) (size f) hi
  rows_in_place =
      record {
        no_parent = λ i h z. root_parent nested (listed i h) z;
        parent_before = first;
        parent_holds = λ i h z. let e = held i h z in (omega (arith, e.from, e.leads), omega (arith, e.to));
        pad_inside = λ i h z. (held i h z).to;
        own_first = λ i h z. root_first nested (listed i h) z;
        first_inside = λ i h z. let e = held i h z in (e.from, omega (arith, e.leads, e.to));
        first_before = λ i h. (in_bounds nested (listed i h)).1;
        all_there = λ i h. (in_bounds nested (listed i h)).2;
        siblings_apart = λ i k l h z. siblings_apart nested outside (listed i (omega arith)) (listed k h) l z;
        in_order = λ i k l h. let o = in_order nested (listed i (omega arith)) (listed k h) l in omega arith;
        under_or_behind = λ i k l h. either_way i k l h (block nested (listed i (omega arith)));
      }

-- what is under a descriptor begins and ends in its range; so the descriptors between the two are under it too
module _ {w : List ℕ} {n size : ℕ} (p : InPlace w n size) where
  pub under_inside : {i k : ℕ} → Under w i k → k < n → ((row w k).first < end (row w i).span) × (last (row w k).span ≤ end (row w i).span)
  under_inside {k = k} (child u e) h = let a = p.first_inside k h u in let b = p.pad_inside k h u in (rw (← e) a.1, rw (← e) b)
  under_inside {k = k} (deeper u m) h =
      let a = p.first_inside k h u in
      let b = p.pad_inside k h u in
      let c = p.parent_before k h u in
      let z = under_inside m (omega arith) in
      (omega (arith, a.1, z.1), omega (arith, b, z.1))

  pub together : (i j k : ℕ) → i < j → j < k → k < n → Under w i k → Under w i j
  together i j k l m h u = go (p.under_or_behind i j l (omega arith))
    where
      go : Under w i j ⊎ (last (row w i).span ≤ (row w j).first) → Under w i j
      go (inl v) = v
      go (inr v) = let a = under_inside u h in let b = p.in_order j k m h in absurd (omega (arith, a.0, b))

-- ---- of an answer

abbrev pub Placed : List ℕ → Answer → Type 0
Placed s a = a.code ≡ 0 → InPlace a.store a.needed (length s)

module _ (mode : Mode) (s w : List ℕ) where
  stored_placed : (head : List Value → Header) (o : Out Found) → Sure o → ((a : Found) (q : Place) → o ≡ got a q → Nested top 0 (length s) a.ranges)
      → ((a : Found) (q : Place) → o ≡ got a q → 4 * size a.ranges ≤ length s) → length s ≤ longest_input → Placed s (stored head o w)
  unfolding stored
  stored_placed head (got a q) t n f short =
      let k = f a q refl in
      either (Placed s) (leb (size a.ranges) (room w)) (λ z. rows_in_place a.ranges (n a q refl) (omega arith) (drop (descriptor_words * size a.ranges) w)) (λ z. absurd (omega arith))
  stored_placed head (stop c a n) (fault k) m f short = λ z. absurd (omega arith)

  within_limit : (x : Answer) → (length s ≤ longest_input → Placed s x) → Placed s (limited s x (refused 1 0 0 0 w))
  within_limit x h = go (leb (length s) longest_input) refl
    where
      go : (b : Bool) → leb (length s) longest_input ≡ b → Placed s (cond b x (refused 1 0 0 0 w))
      go true e = h (leb-true (length s) longest_input e)
      go false e = λ z. absurd (omega arith)

  pub one_placed : Placed s (one mode s w)
  unfolding one
  one_placed =
      within_limit _ (stored_placed header_of (follow (datagram mode) s (from 0)) (sure_datagram mode s (from 0))
      (λ a q e. later (length s) (datagram_on mode depth_limit s (from 0) (omega arith) e).1 (datagram_nested mode depth_limit s (from 0) a q (omega arith) e)) (one_size mode s))

  pub run_placed : Placed s (run mode s w)
  unfolding run
  run_placed =
      within_limit _ (stored_placed (λ _. no_header) (datagrams mode (length s) s (from 0)) (sure_run mode (length s) s (from 0))
      (λ a q e. later (length s) (thrifty_datagrams mode s (length s) (from 0) (omega arith) e).1 (run_nested mode (length s) s (from 0) a q (omega arith) e)) (run_size mode s))
