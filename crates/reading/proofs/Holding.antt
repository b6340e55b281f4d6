-- What the range of a descriptor holds: where its kind and format are read here, the fields of its layout, and then what its row has behind them.
-- Assumes nothing.
use Prim.Native.Nat.{ℕ, zero, suc, ◌+◌, ◌-◌, ◌≤◌}
use mathlib.Core.Path.{◌≡◌, refl, sym, ap, ◌∙◌}
use mathlib.Core.Bool.{Bool, true, false, cond}
use mathlib.Core.List.{List, [], ◌∷◌}
use native.Mathlib.Omega.{arith}
use lib.Dec.{eqb}
use lib.ListN.{length, take, length-take}
use lib.Seq.{take-take}
use Rattle.reading.specs.Script.{Value, Range, Forest, bare, tree, ◌⊕◌, Found, nothing, Script, give, repeat}
use Rattle.reading.specs.Cursor.{Place, got, times, follow}
use Rattle.reading.specs.Layout.{Mode, fields, Row, memo, last_number, opened, fixed_rows, pdu, flows, flow, counters, samples, sample}
use Rattle.reading.specs.Sizes.{depth_limit}
use Rattle.reading.specs.Answer.{from, layout_at, layout_of}
use Rattle.reading.proofs.Fields.{fields_out}
use Rattle.reading.proofs.Counts.{repeat_is}

-- ---- what is read here

-- whether a table has a row of this format
abbrev pub has_row : List Row → ℕ → Bool
has_row [] f = false
has_row (r ∷ rest) f = cond (eqb r.format f) true (has_row rest f)

-- what follows the fields in that row
abbrev pub more_at : List Row → ℕ → List Value → Script
more_at [] f = λ _. give nothing
more_at (r ∷ rest) f = cond (eqb r.format f) r.more (more_at rest f)

-- the kinds and formats whose fields are read: a datagram, and what a table has a row of; they are the same in both modes
unfoldable pub read_here : (kind format : ℕ) → Bool
read_here zero f = eqb f 0
read_here (suc zero) f = has_row (samples memo depth_limit) f
read_here (suc (suc zero)) f = has_row (flows memo (give nothing)) f
read_here (suc (suc (suc zero))) f = has_row (fixed_rows counters) f
read_here (suc (suc (suc (suc k)))) f = false

-- what is read behind the fields, by their values: a datagram's samples, and what the row has; a flow record's PDUs have its depth
unfoldable pub behind : Mode → (kind format depth : ℕ) → List Value → Script
behind mode zero f d vs = repeat (last_number vs) (sample mode depth_limit) (λ a. give a)
behind mode (suc zero) f d vs = more_at (samples mode depth_limit) f vs
behind mode (suc (suc zero)) f d vs = more_at (flows mode (pdu d (flow mode depth_limit (depth_limit - d)))) f vs
behind mode (suc (suc (suc zero))) f d vs = more_at (fixed_rows counters) f vs
behind mode (suc (suc (suc (suc k)))) f d vs = give nothing

-- what a frame of each kind opens, where it is read here, is the fields and what is behind them
opened_is : (rows : List Row) (f : ℕ) → has_row rows f ≡ true → opened rows f ≡ fields (layout_at rows f) (more_at rows f)
unfolding opened
opened_is [] f h = let z : ◌≡◌ {A = ℕ} 0 1 = cc in absurd (omega arith)
opened_is (r ∷ rest) f h = go (eqb r.format f) h (opened_is rest f)
  where
    go : (b : Bool) → cond b true (has_row rest f) ≡ true → (has_row rest f ≡ true → opened rest f ≡ fields (layout_at rest f) (more_at rest f))
        → cond b (fields r.layout r.more) (opened rest f) ≡ fields (cond b r.layout (layout_at rest f)) (cond b r.more (more_at rest f))
    go true k again = refl
    go false k again = again k

pub sample_is : (mode : Mode) (f : ℕ) → read_here 1 f ≡ true → opened (samples mode depth_limit) f ≡ fields (layout_of mode 1 f) (behind mode 1 f 0)
unfolding read_here layout_of behind samples
sample_is mode f h = opened_is (samples mode depth_limit) f h

pub flow_is : (mode : Mode) (d f : ℕ) → read_here 2 f ≡ true → opened (flows mode (pdu d (flow mode depth_limit (depth_limit - d)))) f ≡ fields (layout_of mode 2 f) (behind mode 2 f d)
unfolding read_here layout_of behind flows
flow_is mode d f h = opened_is (flows mode (pdu d (flow mode depth_limit (depth_limit - d)))) f h

pub counter_is : (mode : Mode) (f : ℕ) → read_here 3 f ≡ true → opened (fixed_rows counters) f ≡ fields (layout_of mode 3 f) (behind mode 3 f 1)
unfolding read_here layout_of behind
counter_is mode f h = opened_is (fixed_rows counters) f h

-- ---- what a range holds

-- the input up to the end of a range
abbrev pub up_to : List ℕ → Range → List ℕ
up_to s r = take (r.span.start + r.span.count) s

-- r lies in s, and its layout, read alone from its start and held to it, gives vs and ends at q
pub record FieldsOf (mode : Mode) (s : List ℕ) (r : Range) (vs : List Value) (q : Place) : Type 0 where
  pub lies : r.span.start + r.span.count ≤ length s
  pub reads : fields_out (layout_of mode r.kind r.format) (up_to s r) (from r.span.start) ≡ got vs q

-- r has the fields vs, and what is read behind them with these values, held to r, has the ranges `inner`
pub record Holds (mode : Mode) (s : List ℕ) (r : Range) (vs : List Value) (inner : Forest) : Type 0 where
  pub next : Place
  pub fields : FieldsOf mode s r vs next
  pub found : Found
  pub last : Place
  pub rest : follow (behind mode r.kind r.format r.depth vs) (up_to s r) next ≡ got found last
  pub ranges : inner ≡ found.ranges

module _ {mode : Mode} {s : List ℕ} {r : Range} {vs : List Value} {inner : Forest} (h : Holds mode s r vs inner) where
  -- with nothing behind the fields, nothing is inside
  pub holds_bare : behind mode r.kind r.format r.depth vs ≡ give nothing → inner ≡ bare
  unfolding follow
  holds_bare e =
      let z : got nothing h.next ≡ got h.found h.last = ap (λ (sc : Script). follow sc (up_to s r) h.next) (sym e) ∙ h.rest in
      let x : nothing ≡ h.found = cc in
      h.ranges ∙ ap (λ (a : Found). a.ranges) (sym x)

  -- where their last number counts what is behind them, so many are inside
  pub holds_each : (body : Script) → behind mode r.kind r.format r.depth vs ≡ repeat (last_number vs) body (λ a. give a) → times (last_number vs) (follow body) (up_to s r) h.next ≡ got h.found h.last
  holds_each body e = sym (repeat_is (last_number vs) body (up_to s r) h.next) ∙ ap (λ (sc : Script). follow sc (up_to s r) h.next) (sym e) ∙ h.rest

-- so it is of each range of a forest that is read here
pub data Readable (mode : Mode) (s : List ℕ) : Forest → Type 0 where
  none : Readable mode s bare
  also : {r : Range} {inner after : Forest} → (read_here r.kind r.format ≡ true → (vs : List Value) × Holds mode s r vs inner) → Readable mode s inner → Readable mode s after
      → Readable mode s (tree r inner after)

pub joined : {mode : Mode} {s : List ℕ} {f g : Forest} → Readable mode s f → Readable mode s g → Readable mode s (f ⊕ g)
joined none k = k
joined (also h i j) k = also h i (joined j k)

-- what is readable in a part of the input is readable in it
module _ (mode : Mode) (s : List ℕ) (m : ℕ) where
  holds_wide : {r : Range} {vs : List Value} {inner : Forest} → Holds mode (take m s) r vs inner → Holds mode s r vs inner
  holds_wide {r} {vs} h =
      let l = length-take m s in
      let e : up_to (take m s) r ≡ up_to s r = take-take (r.span.start + r.span.count) m s (omega (arith, h.fields.lies)) in
      record {
        next = h.next;
        fields = record { lies = omega (arith, h.fields.lies); reads = rw e at h.fields.reads };
        found = h.found;
        last = h.last;
        rest = rw e at h.rest;
        ranges = h.ranges;
      }

  pub wide : {f : Forest} → Readable mode (take m s) f → Readable mode s f
  wide none = none
  wide (also h i j) = also (λ k. let v = h k in (v.0, holds_wide v.1)) (wide i) (wide j)
