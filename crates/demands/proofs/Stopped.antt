-- Where the cursor stops, the grammar's reading stops: with the same code, at the same position, after as many items as it has steps. By induction
-- on the script. Assumes nothing.
use Prim.Native.Nat.{ℕ, ◌+◌, ◌≤◌, ◌<◌}
use mathlib.Core.Path.{◌≡◌, refl, sym, ap, ◌∙◌, subst}
use mathlib.Core.List.{List}
use native.Mathlib.Omega.{arith}
use native.Mathlib.Nat.{add-zero}
use lib.ListN.{length, drop}
use Rattle.reading.specs.Script.{Span, Value, Found, Item, Script, give, refuse, here, item, within, repeat}
use Rattle.reading.specs.Cursor.{Place, Out, got, stop, then, read_opaque, read_item, times, inside, follow}
use Rattle.reading.specs.Grammar.{Many, Is}
use Rattle.reading.proofs.Items.{never}
use Rattle.reading.proofs.Stands.{place, Stands}
use Rattle.reading.proofs.Sound.{sound}
use Rattle.reading.proofs.SoundRows.{Read, sound_many}
use Rattle.demands.specs.Stops.{Stops, barred, standing, no_item, not_text, past_item, no_opaque, inside_it, past_it, among, past_all}
use Rattle.demands.proofs.Pieces.{behind, ItemThere, item_there, stop_as, opaque_short, Short, missing, ill, item_short}
use Rattle.demands.proofs.Enclosed.{SpanThere, span_there, held, held_is, held_fits, some}

-- the script stops at p, where the rest of s is left; n counts the steps before p and the items behind it
pub record Stopped (sc : Script) (s : List ℕ) (p : Place) (c a n : ℕ) : Type 0 where
  pub items : ℕ
  pub steps : n ≡ p.steps + items
  pub stops : Stops sc p.at (drop p.at s) c a items

abbrev Halts : Script → Type 0
Halts sc = (s : List ℕ) (p : Place) (c a n : ℕ) → p.at ≤ length s → follow sc s p ≡ stop c a n → Stopped sc s p c a n

moved : {sc : Script} {o i c a n : ℕ} {b d : List ℕ} → o ≡ i → b ≡ d → Stops sc o b c a n → Stops sc i d c a n
moved {sc} {o} {i} {c} {a} {n} {b} {d} e f h = subst (λ (j : ℕ). Stops sc j d c a n) e (subst (λ (l : List ℕ). Stops sc o l c a n) f h)

-- behind bytes that stand at p
next : {sc : Script} {s x y : List ℕ} {q : Place} {c a n : ℕ} (o : ℕ) → Stands s o x y → q.at ≡ o + length x → (h : Stopped sc s q c a n) → Stops sc (o + length x) y c a h.items
next {s = s} o st e h = moved e (ap (λ (j : ℕ). drop j s) e ∙ behind o st) h.stops

-- an item that is refused
short : {i : Item} (k : Value → Script) {s : List ℕ} {p : Place} {c a n : ℕ} → Short s p c a n i → Stopped (item i k) s p c a n
short k (missing r) = record { items = 0; steps = r.steps ∙ sym (add-zero _); stops = no_item r.why r.at refl }
short k (ill x j q l g z y w) = record { items = 0; steps = w ∙ sym (add-zero _); stops = not_text x j q l g z y refl }

-- each form of a script, given that the scripts in it halt so
module _ (i : Item) (k : Value → Script) (ih : (v : Value) → Halts (k v)) where
  item_past : {v : Value} {q : Place} {s : List ℕ} {p : Place} {c a n : ℕ} → ItemThere i s p v q → Stopped (k v) s q c a n → Stopped (item i k) s p c a n
  item_past {v} {p = p} t r =
      record {
        items = 1 + r.items;
        steps = omega (arith, r.steps, t.steps);
        stops = past_item t.read t.rest v r.items t.stands.there refl t.is (next p.at t.stands t.at r);
      }

  halts_item : Halts (item i k)
  unfolding follow
  halts_item s p c a n h e = go (read_item i s p) refl e
    where
      go : (o : Out Value) → read_item i s p ≡ o → then o (λ v q. follow (k v) s q) ≡ stop c a n → Stopped (item i k) s p c a n
      go (got v q) f e = let t = item_there i s p v q f in item_past t (ih v s q c a n (rw t.at t.stands.fits) e)
      go (stop d b m) f e = short k (item_short s p h i (f ∙ stop_as e))

module _ (body : Script) (k : Span → Found → Script) (inner : Halts body) (ih : (x : Span) (a : Found) → Halts (k x a)) where
  within_in : {s : List ℕ} {p q : Place} {x : Span} {c a n : ℕ} (t : SpanThere s p x q)
      → Stopped body (held t) (place (p.at + 4) q.steps) c a n → Stopped (within body k) s p c a n
  within_in {s} {p} t r =
      record {
        items = 1 + r.items;
        steps = omega (arith, r.steps, t.steps);
        stops = inside_it {b = drop p.at s} t.payload r.items refl (record { read = t.read; rest = t.rest; joined = rw t.stands.there; is = t.is }) (moved refl (held_is t) r.stops);
      }

  within_past : {s : List ℕ} {p q : Place} {x : Span} {c a n : ℕ} {f : Found} {i : Place} (t : SpanThere s p x q)
      → Read (Is body) (held t) (place (p.at + 4) q.steps) f i
      → Stopped (k (record { start = p.at + 4; count = length t.payload }) f) s (place q.at i.steps) c a n → Stopped (within body k) s p c a n
  within_past {p = p} {f = f} t d r =
      record {
        items = 1 + d.items + r.items;
        steps = omega (arith, r.steps, d.steps, t.steps);
        stops = past_it t.payload t.read t.rest d.read d.rest f d.items r.items t.stands.there refl t.is
            (sym (held_is t) ∙ d.stands.there) d.is (next p.at t.stands t.at r);
      }

  halts_within : Halts (within body k)
  unfolding follow inside held
  halts_within s p c a n h e = go (read_opaque s p) refl e
    where
      opened : (x : Span) (q : Place) (t : SpanThere s p x q) (o : Out Found) → follow body (held t) (place (p.at + 4) q.steps) ≡ o
          → then (then o (λ f i. got f (record { at = q.at; steps = i.steps }))) (λ f d. follow (k (record { start = p.at + 4; count = length t.payload }) f) s d) ≡ stop c a n
          → Stopped (within body k) s p c a n
      opened x q t (stop d b m) g e = within_in t (inner (held t) (place (p.at + 4) q.steps) c a n (held_fits t) (g ∙ e))
      opened x q t (got f i) g e =
          within_past t (sound body (held t) (place (p.at + 4) q.steps) f i (held_fits t) g)
          (ih _ f s (place q.at i.steps) c a n (rw t.at t.stands.fits) e)

      go : (o : Out Span) → read_opaque s p ≡ o → then o (λ x q. then (inside x (follow body) s q) (λ f d. follow (k x f) s d)) ≡ stop c a n → Stopped (within body k) s p c a n
      go (got x q) f e =
          let t = span_there s p x q f in
          opened x q t (follow body (held t) (place (p.at + 4) q.steps)) refl (subst (λ (y : Span). then (inside y (follow body) s q) (λ f d. follow (k y f) s d) ≡ stop c a n) t.span e)
      go (stop d b m) f e =
          let r = opaque_short s p h (f ∙ stop_as e) in
          record { items = 0; steps = r.steps ∙ sym (add-zero _); stops = no_opaque r.why r.at refl }

module _ (c : ℕ) (body : Script) (k : Found → Script) (inner : Halts body) (ih : (a : Found) → Halts (k a)) where
  repeat_in : {s : List ℕ} {p q : Place} {f : Found} {d a n : ℕ} (j : ℕ) → j < c → Read (Many j (Is body)) s p f q → Stopped body s q d a n → Stopped (repeat c body k) s p d a n
  repeat_in {p = p} {f = f} j l t r =
      record {
        items = t.items + r.items;
        steps = omega (arith, r.steps, t.steps);
        stops = among j t.read t.rest f t.items r.items l t.stands.there refl t.is (next p.at t.stands t.at r);
      }

  repeat_past : {s : List ℕ} {p q : Place} {f : Found} {d a n : ℕ} → Read (Many c (Is body)) s p f q → Stopped (k f) s q d a n → Stopped (repeat c body k) s p d a n
  repeat_past {p = p} {f = f} t r =
      record {
        items = t.items + r.items;
        steps = omega (arith, r.steps, t.steps);
        stops = past_all t.read t.rest f t.items r.items t.stands.there refl t.is (next p.at t.stands t.at r);
      }

  halts_repeat : Halts (repeat c body k)
  unfolding follow
  halts_repeat s p d a n h e = go (times c (follow body) s p) refl e
    where
      go : (o : Out Found) → times c (follow body) s p ≡ o → then o (λ f q. follow (k f) s q) ≡ stop d a n → Stopped (repeat c body k) s p d a n
      go (got f q) g e = let t = sound_many (follow body) (Is body) (sound body) c s p f q h g in repeat_past t (ih f s q d a n (rw t.at t.stands.fits) e)
      go (stop i j m) g e =
          let u = some (follow body) s c p d a n (g ∙ e) in
          let t = sound_many (follow body) (Is body) (sound body) u.count s p u.found u.last h u.before in
          repeat_in u.count u.fewer t (inner s u.last d a n (rw t.at t.stands.fits) u.here_it)

halts_refuse : (code : ℕ) → Halts (refuse code)
unfolding follow
halts_refuse code s p c a n h e =
    let x : c ≡ code = cc in
    let y : a ≡ p.at = cc in
    let z : n ≡ p.steps = cc in
    record { items = 0; steps = z ∙ sym (add-zero _); stops = barred x y refl }

halts_here : (k : ℕ → Script) → ((o : ℕ) → Halts (k o)) → Halts (here k)
unfolding follow
halts_here k ih s p c a n h e = let r = ih p.at s p c a n h e in record { items = r.items; steps = r.steps; stops = standing r.stops }

halts_give : (f : Found) → Halts (give f)
unfolding follow
halts_give f s p c a n h e = never (sym e)

pub stopped : (sc : Script) → Halts sc
stopped (give f) = halts_give f
stopped (refuse code) = halts_refuse code
stopped (here k) = halts_here k (λ o. stopped (k o))
stopped (item i k) = halts_item i k (λ v. stopped (k v))
stopped (within body k) = halts_within body k (stopped body) (λ x a. stopped (k x a))
stopped (repeat c body k) = halts_repeat c body k (stopped body) (λ a. stopped (k a))
