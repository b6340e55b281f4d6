-- What is read of frames, and of a datagram's header, passes whole words: its bytes are a multiple of four. So the range of a PDU or of a
-- datagram needs no pad. Assumes nothing.
use Prim.Native.Nat.{ℕ, zero, suc, ◌+◌, ◌*◌, ◌-◌, ◌/◌}
use mathlib.Core.Path.{◌≡◌, ap}
use mathlib.Core.Bool.{Bool, true, false, cond}
use mathlib.Core.List.{List, [], ◌∷◌}
use native.Mathlib.Omega.{arith}
use lib.Dec.{leb}
use lib.ListN.{length}
use Rattle.reading.specs.Bytes.{be4, padded}
use Rattle.reading.specs.Script.{number, four, sixteen, word, tested, block, Script}
use Rattle.reading.specs.Cursor.{Place, got, stop, Reader, on, read_item, times, follow}
use Rattle.reading.specs.Layout.{Mode, num, Field, plain, addr, opened, framed, pdu, flows, flow, samples, sample, header}
use Rattle.reading.proofs.Items.{never, split, fixed_read}
use Rattle.reading.proofs.Fields.{address_out, field_out, fields_out}
use Rattle.reading.proofs.Frames.{word_read, frame_read}
use Rattle.reading.proofs.Room.{last_place}

-- so many words from one position to another
pub record Words (a b : ℕ) : Type 0 where
  pub count : ℕ
  pub is : b ≡ a + 4 * count

-- whole words need no pad
pub no_pad : {a b : ℕ} → Words a b → padded (b - a) ≡ b - a
no_pad w = omega (arith, w.is)

pub and_then : {a b c : ℕ} → Words a b → Words b c → Words a c
and_then v w = record { count = v.count + w.count; is = omega (arith, v.is, w.is) }

stays : {A : Type 0} {a b : A} {p q : Place} → got a p ≡ got b q → Words p.at q.at
stays {p = p} {q} e = let z = ap (λ (r : Place). r.at) (last_place e) in record { count = 0; is = omega (arith, z) }

abbrev pub Aligned : {A : Type 0} → Reader A → Type 0
Aligned {A} r = (s : List ℕ) (p : Place) (a : A) (q : Place) → r s p ≡ got a q → Words p.at q.at

-- ---- frames, so many in a row

aligned_framed : (kind depth : ℕ) (body : ℕ → Script) → Aligned (follow (framed kind depth body))
aligned_framed kind depth body s p a q e =
    let f = frame_read kind depth body s p e in
    record { count = 2 + (f.span.count + 3) / 4; is = omega (arith, f.end) }

pub aligned_flow : (mode : Mode) (limit left : ℕ) → Aligned (follow (flow mode limit left))
unfolding flow follow
aligned_flow mode limit zero = λ s p a q e. never e
aligned_flow mode limit (suc left) = aligned_framed 2 (limit - left) (opened (flows mode (pdu (limit - left) (flow mode limit left))))

pub aligned_sample : (mode : Mode) (limit : ℕ) → Aligned (follow (sample mode limit))
aligned_sample mode limit = aligned_framed 1 0 (opened (samples mode limit))

pub aligned_times : (sc : Script) → Aligned (follow sc) → (n : ℕ) → Aligned (times n (follow sc))
unfolding times
aligned_times sc h zero s p a q e = stays e
aligned_times sc h (suc n) s p a q e =
    let w = split (follow sc s p) _ e in
    let v = split (times n (follow sc) s w.place) _ w.second in
    and_then (h s p w.value w.place w.first) (and_then (aligned_times sc h n s w.place v.value v.place v.first) (stays v.second))

-- ---- a datagram's header

-- fields that are words: plain ones, those with a rule, and addresses
data OfWords : List Field → Type 0 where
  over : OfWords []
  a_word : {l : List Field} → OfWords l → OfWords (plain word ∷ l)
  a_tested : {ok : ℕ → Bool} {code : ℕ} {l : List Field} → OfWords l → OfWords (plain (tested ok code) ∷ l)
  an_address : {l : List Field} → OfWords l → OfWords (addr ∷ l)

aligned_word : Aligned (read_item word)
aligned_word s p v q e = let r = word_read s p v q e in record { count = 1; is = omega (arith, r.at) }

aligned_tested : (ok : ℕ → Bool) (code : ℕ) → Aligned (read_item (tested ok code))
unfolding read_item
aligned_tested ok code s p v q e = go (leb (p.at + 4) (length s)) (ok (be4 s p.at)) e
  where
    go : (b y : Bool) → cond b (cond y (got (number (be4 s p.at)) (on 4 p)) (stop code p.at p.steps)) (stop 2 p.at p.steps) ≡ got v q → Words p.at q.at
    go true true e = and_then (record { count = 1; is = omega arith }) (stays e)
    go true false e = never e
    go false y e = never e

aligned_address : (t : ℕ) → Aligned (address_out t)
unfolding address_out read_item
aligned_address zero s p v q e = stays e
aligned_address (suc zero) s p v q e =
    let w = split (read_item (block four) s p) _ e in
    and_then (record { count = 1; is = (fixed_read 4 _ s p w.first).2 }) (stays w.second)
aligned_address (suc (suc t)) s p v q e =
    let w = split (read_item (block sixteen) s p) _ e in
    and_then (record { count = 4; is = (fixed_read 16 _ s p w.first).2 }) (stays w.second)

aligned_addr : Aligned (field_out addr)
unfolding field_out
aligned_addr s p v q e =
    let w = split (read_item (tested (λ t. leb t 2) 4) s p) _ e in
    and_then (aligned_tested (λ t. leb t 2) 4 s p w.value w.place w.first) (aligned_address (num w.value) s w.place v q w.second)

-- a field, and then the rest
aligned_next : (f : Field) (l : List Field) → Aligned (field_out f) → Aligned (fields_out l) → Aligned (fields_out (f ∷ l))
unfolding fields_out
aligned_next f l h k s p a q e =
    let w = split (field_out f s p) _ e in
    let v = split (fields_out l s w.place) _ w.second in
    and_then (h s p w.value w.place w.first) (and_then (k s w.place v.value v.place v.first) (stays v.second))

aligned_fields : {l : List Field} → OfWords l → Aligned (fields_out l)
unfolding fields_out field_out
aligned_fields over = λ s p a q e. stays e
aligned_fields (a_word {l} t) = aligned_next (plain word) l aligned_word (aligned_fields t)
aligned_fields (a_tested {ok} {code} {l} t) = aligned_next (plain (tested ok code)) l (aligned_tested ok code) (aligned_fields t)
aligned_fields (an_address {l} t) = aligned_next addr l aligned_addr (aligned_fields t)

pub aligned_header : Aligned (fields_out header)
aligned_header = aligned_fields (a_tested (an_address (a_word (a_word (a_word (a_word over))))))
