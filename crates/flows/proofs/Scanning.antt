-- The first pass over flow records: a law for each way out of its functions. Assumes nothing.
use Rattle.std.proofs.Common.{ℕ, zero, suc, ◌+◌, ◌-◌, ◌≡◌, refl, sym, ap, ◌∙◌, List}
use native.Mathlib.Numerals.{sub-one}
use borrow.Author.Tests.{ne_eqb}
use Rattle.reading.specs.Sizes.{depth_limit}
use Rattle.reading.specs.Script.{Span, number, nothing, word, Script, give}
use Rattle.reading.specs.Cursor.{Place, Out, got, stop, read_item, held_to, times, follow}
use Rattle.reading.specs.Layout.{Mode, words, last_number, opened, flows, flow, pdu}
use Rattle.reading.proofs.Counts.{counted, counted_stop, counted_none, resumed, framing, frame_at, frame_stop, frame_held, fields_stop, each_held}
use Rattle.reading.proofs.Fields.{field_out, sole_gives, sole_halts}
use Rattle.reading.proofs.Room.{thrifty_flow, thrifty_pdu}
use Rattle.reading.proofs.Stands.{place}
use Rattle.layout.proofs.Scan.{Thrift}

-- ---- flow records and PDUs pass four bytes for each descriptor
pub flow_thrift : (mode : Mode) (limit left : ℕ) → Thrift (flow mode limit left)
flow_thrift mode limit left = record { is = thrifty_flow mode limit left }

pub pdu_thrift : (mode : Mode) (depth limit left : ℕ) → Thrift (pdu depth (flow mode limit left))
pdu_thrift mode depth limit left = record { is = thrifty_pdu depth (flow mode limit left) (thrifty_flow mode limit left) }

-- ---- a record, by its frame

-- what a record of this format holds, with `left` levels left below it
abbrev pub holds : Mode → (left : ℕ) → ℕ → Script
holds mode left f = opened (flows mode (pdu (depth_limit - left) (flow mode depth_limit left))) f

module _ (mode : Mode) (left : ℕ) (s : List ℕ) (p : Place) (k : ℕ) where
  pub record_deep : left ≡ 0 → stop 8 p.at p.steps ≡ counted k (follow (flow mode depth_limit left) s p)
  unfolding counted follow flow
  record_deep z = rw z

  module _ (some : left ≡ 0 → ⊥) where
    pub record_cut : {c a n : ℕ} → stop c a n ≡ frame_at s p → stop c a n ≡ counted k (follow (flow mode depth_limit left) s p)
    unfolding flow
    record_cut {c} {a} {n} e = go left some
      where
        go : (l : ℕ) → (l ≡ 0 → ⊥) → stop c a n ≡ counted k (follow (flow mode depth_limit l) s p)
        go zero z = absurd (z refl)
        go (suc l) z = frame_stop 2 (8 - l) (holds mode l) s p k e

    module _ {f : ℕ} {x : Span} {q : Place} (e : got (framing f x) q ≡ frame_at s p) where
      within : (o : Out ℕ) → o ≡ counted (k + 1) (follow (holds mode (left - 1) f) (held_to x s) (place x.start q.steps)) → resumed q.at o ≡ counted k (follow (flow mode depth_limit left) s p)
      unfolding flow
      within o i = sym (go left some i)
        where
          go : (l : ℕ) → (l ≡ 0 → ⊥) → o ≡ counted (k + 1) (follow (holds mode (l - 1) f) (held_to x s) (place x.start q.steps)) → counted k (follow (flow mode depth_limit l) s p) ≡ resumed q.at o
          go zero z i = absurd (z refl)
          go (suc l) z i = frame_held 2 (8 - l) (holds mode l) s p k e ∙ ap (resumed q.at) (sym (rw sub-one at i))

      pub record_stop : {c a n : ℕ} → stop c a n ≡ counted (k + 1) (follow (holds mode (left - 1) f) (held_to x s) (place x.start q.steps)) → stop c a n ≡ counted k (follow (flow mode depth_limit left) s p)
      unfolding resumed
      record_stop i = within _ i

      pub record_got : {j : ℕ} {r : Place} → got j r ≡ counted (k + 1) (follow (holds mode (left - 1) f) (held_to x s) (place x.start q.steps)) → got j (place q.at r.steps) ≡ counted k (follow (flow mode depth_limit left) s p)
      unfolding resumed
      record_got i = within _ i

-- ---- what a record holds that is no aggregation: no other row looks at the PDUs
module _ (mode : Mode) (inner : Script) (f : ℕ) (s : List ℕ) (p : Place) (k : ℕ) (z : f ≡ 1016 → ⊥) where
  same : follow (opened (flows mode inner) f) s p ≡ follow (opened (flows mode (give nothing)) f) s p
  unfolding opened flows
  same = ap (λ (x : Script). follow x s p) (simp (ne_eqb 1016 f (λ e. z (sym e))))

  pub data_stop : {c a n : ℕ} → stop c a n ≡ follow (opened (flows mode (give nothing)) f) s p → stop c a n ≡ counted k (follow (opened (flows mode inner) f) s p)
  data_stop h = counted_stop k _ (h ∙ sym same)

  pub data_got : {q : Place} → got nothing q ≡ follow (opened (flows mode (give nothing)) f) s p → got k q ≡ counted k (follow (opened (flows mode inner) f) s p)
  data_got h = counted_none k _ (h ∙ sym same)

-- ---- an aggregation, by its PDU count
module _ (mode : Mode) (inner : Script) (s : List ℕ) (p : Place) (k : ℕ) where
  pub aggregation_cut : {c a n : ℕ} → stop c a n ≡ read_item word s p → stop c a n ≡ counted k (follow (opened (flows mode inner) 1016) s p)
  unfolding opened flows field_out
  aggregation_cut e = fields_stop (words 1) s p k _ (sole_halts _ s p (sym e))

  pub aggregation_held : {n : ℕ} {q : Place} → got (number n) q ≡ read_item word s p → {o : Out ℕ} → o ≡ counted k (times n (follow inner) s q) → o ≡ counted k (follow (opened (flows mode inner) 1016) s p)
  unfolding opened flows field_out last_number
  aggregation_held e h = h ∙ sym (each_held (words 1) s p k inner (sole_gives _ s p (sym e)))
