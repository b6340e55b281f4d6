-- A string of one byte with three of pad: what the pad holds does not matter, and the byte before it does. Computed. Assumes nothing.
use Prim.Native.Nat.{ℕ, ◌*◌}
use mathlib.Core.Path.{◌≡◌, refl}
use mathlib.Core.List.{List, ◌∷◌, ◌++◌}
use lib.ListN.{replicate}
use Rattle.reading.specs.Sizes.{descriptor_words}
use Rattle.reading.specs.Bytes.{be4}
use Rattle.reading.specs.Utf8.{utf8, longest_to, among}
use Rattle.reading.specs.Numbers.{known, header_protocols}
use Rattle.reading.specs.Cursor.{read_item, follow}
use Rattle.reading.specs.Layout.{Mode, address_of, run_of, field, fields, last_number, opened, flows, flow, samples, datagram_to}
use Rattle.reading.specs.Answer.{size, rows, header_of, no_header, stored, one}

-- a datagram with one flow sample with one record of format 1008, an MPLS tunnel, whose name is `a`, and its pad `b`, `c` and `d`; a at 76
pub input : (a b c d : ℕ) → List ℕ
input a b c d =
    0 ∷ 0 ∷ 0 ∷ 5 ∷ replicate 11 0 ++ 1 ∷ replicate 7 0 ++ 1 ∷ 0 ∷ 0 ∷ 0 ∷ 1 ∷ 0 ∷ 0 ∷ 0 ∷ 56 ∷ replicate 31 0 ++ 1 ∷ 0 ∷ 0 ∷ 3 ∷ 240 ∷ 0 ∷ 0 ∷ 0 ∷ 16 ∷ 0 ∷ 0 ∷ 0 ∷ 1
    ∷ a ∷ b ∷ c ∷ d ∷ replicate 8 0

pub store : List ℕ
store = replicate (3 * descriptor_words) 165

-- three zeros, and three other bytes
pub pad_free : (mode : Mode) → one mode (input 97 1 128 255) store ≡ one mode (input 97 0 0 0) store
unfolding input store be4 known header_protocols follow read_item address_of run_of field fields last_number opened flows flow samples datagram_to size rows header_of no_header stored one utf8 longest_to among
pad_free mode = refl

-- accepted; and with 0xff for the one byte of the name, refused there
pub payload_not : (mode : Mode) → ((one mode (input 97 0 0 0) store).code ≡ 0) × ((one mode (input 255 0 0 0) store).code ≡ 7) × ((one mode (input 255 0 0 0) store).at ≡ 76)
unfolding input store be4 known header_protocols follow read_item address_of run_of field fields last_number opened flows flow samples datagram_to size rows header_of no_header stored one utf8 longest_to among
payload_not mode = (refl, refl, refl)
