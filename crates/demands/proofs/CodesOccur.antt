-- Each code of a call's table is answered to some input. Computed, but for code 1. Assumes nothing.
use Prim.Native.Nat.{ℕ, ◌<◌}
use mathlib.Core.Path.{◌≡◌, refl, ap}
use mathlib.Core.List.{List, [], ◌∷◌}
use native.Mathlib.Omega.{arith}
use lib.ListN.{length, replicate, length-replicate}
use Rattle.reading.specs.Bytes.{be4}
use Rattle.reading.specs.Utf8.{utf8, longest_to, among}
use Rattle.reading.specs.Numbers.{known, header_protocols}
use Rattle.reading.specs.Cursor.{read_item, follow}
use Rattle.reading.specs.Layout.{Mode, address_of, run_of, field, fields, last_number, opened, flows, flow, samples, datagram_to}
use Rattle.reading.specs.Values.{valued, reading}
use Rattle.reading.specs.Answer.{size, rows, header_of, no_header, Answer, Fields, stored, one, tried, datagrams, run, layout_of, answered, read}
use Rattle.reading.specs.Sizes.{longest_input, descriptor_words}
use Rattle.demands.specs.Codes.{one_codes, run_codes, field_codes, Each, none, also}
use Rattle.demands.proofs.Itemised.{long_refused}
use Rattle.demands.proofs.Accepted.{one_reads}
use Rattle.demands.proofs.RunItemised.{run_reads}
use Rattle.demands.proofs.FieldsItemised.{fields_too_long}
use Rattle.demands.proofs.Impostors.{bytes_of, p2}

-- an input of more than the limit
some_long : (n : ℕ) → longest_input < n → (s : List ℕ) × (longest_input < length s)
some_long n h = (replicate n 0, rw (length-replicate {A = ℕ} n 0) h)

long : (s : List ℕ) × (longest_input < length s)
long = some_long 16777217 (omega arith)

-- a datagram with a flow sample of so many bytes, of one record
abbrev with : ℕ → List ℕ → List ℕ
with n r = bytes_of (5 ∷ 0 ∷ 0 ∷ 1 ∷ 0 ∷ 1 ∷ 1 ∷ n ∷ 0 ∷ 0 ∷ 0 ∷ 0 ∷ 0 ∷ 0 ∷ 0 ∷ 1 ∷ r)

-- what is refused with 3, 4, 5, 6, 7 and 8: a version, an address type, the length of an opaque, a header protocol, a string and a record at depth 9
abbrev no_version : List ℕ
no_version = bytes_of (4 ∷ [])

abbrev no_address : List ℕ
no_address = bytes_of (5 ∷ 3 ∷ [])

abbrev no_length : List ℕ
no_length = bytes_of (5 ∷ 0 ∷ 0 ∷ 1 ∷ 0 ∷ 1 ∷ 1 ∷ 104857601 ∷ [])

abbrev no_protocol : List ℕ
no_protocol = with 44 (1 ∷ 4 ∷ 0 ∷ [])

abbrev no_text : List ℕ
no_text = with 48 (1008 ∷ 8 ∷ 1 ∷ 4278190080 ∷ [])

abbrev too_deep : List ℕ
too_deep =
    with 160
    (1016 ∷ 120 ∷ 1 ∷ 1 ∷ 1016 ∷ 104 ∷ 1 ∷ 1 ∷ 1016 ∷ 88 ∷ 1 ∷ 1 ∷ 1016 ∷ 72 ∷ 1 ∷ 1 ∷ 1016 ∷ 56 ∷ 1 ∷ 1 ∷ 1016 ∷ 40 ∷ 1 ∷ 1 ∷ 1016 ∷ 24 ∷ 1 ∷ 1 ∷ 1016 ∷ 8 ∷ 1 ∷ 1 ∷ [])

abbrev store : List ℕ
store = replicate descriptor_words 165

pub one_occur : (mode : Mode) → Each (λ c. (s w : List ℕ) × ((one mode s w).code ≡ c)) one_codes
unfolding be4 known header_protocols follow read_item address_of run_of field fields last_number opened flows flow samples datagram_to size rows header_of no_header stored one utf8 longest_to among
one_occur mode =
    also (p2, store, refl) (also (long.0, store, ap (λ (a : Answer). a.code) (long_refused (one_reads mode) long.0 store long.1)) (also ([], store, refl) (also (no_version, store, refl) (also (no_address, store, refl)
    (also (no_length, store, refl) (also (no_protocol, store, refl) (also (no_text, store, refl) (also (too_deep, store, refl) (also (p2, [], refl) none)))))))))

pub run_occur : (mode : Mode) → Each (λ c. (s w : List ℕ) × ((run mode s w).code ≡ c)) run_codes
unfolding be4 known header_protocols follow read_item address_of run_of field fields last_number opened flows flow samples datagram_to size rows header_of no_header stored tried datagrams run utf8 longest_to among
run_occur mode =
    also (p2, store, refl) (also (long.0, store, ap (λ (a : Answer). a.code) (long_refused (run_reads mode) long.0 store long.1)) (also (no_version, store, refl) (also (no_address, store, refl)
    (also (no_length, store, refl) (also (no_protocol, store, refl) (also (no_text, store, refl) (also (too_deep, store, refl) (also (p2, [], refl) none))))))))

pub field_occur : (mode : Mode) → Each (λ c. (ak af : ℕ) × (s : List ℕ) × (k f start extent : ℕ) × ((read mode ak af s k f start extent).code ≡ c)) field_codes
unfolding be4 known header_protocols follow read_item address_of run_of field fields last_number flows samples layout_of valued reading answered read utf8 longest_to among
field_occur mode =
    also (0, 0, p2, 0, 0, 0, 24, refl)
    (also (0, 0, long.0, 0, 0, 0, 0, ap (λ (a : Fields). a.code) (fields_too_long mode 0 0 long.0 0 0 0 0 long.1))
    (also (0, 0, p2, 0, 0, 0, 0, refl)
    (also (0, 0, no_version, 0, 0, 0, 4, refl)
    (also (0, 0, no_address, 0, 0, 0, 8, refl)
    (also (2, 1013, bytes_of (0 ∷ 104857601 ∷ []), 2, 1013, 0, 8, refl)
    (also (2, 1, bytes_of (0 ∷ []), 2, 1, 0, 4, refl)
    (also (2, 1008, bytes_of (1 ∷ 4278190080 ∷ []), 2, 1008, 0, 8, refl)
    (also (0, 0, [], 0, 0, 0, 1, refl)
    (also (0, 0, [], 1, 0, 0, 0, refl) none)))))))))
