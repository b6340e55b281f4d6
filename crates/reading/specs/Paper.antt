-- The sessions on paper (docs/RULES.md, 13), as one tabulated fact. Assumes nothing.
use Rattle.std.specs.Prelude.{ℕ, zero, suc, ◌+◌, ◌*◌, ◌-◌, ◌/◌, ◌%◌, ◌≡◌, refl, List, [], ◌∷◌, ◌++◌, map, length, take, replicate}
use Rattle.reading.specs.Bytes.{be4}
use Rattle.reading.specs.Numbers.{known, header_protocols}
use Rattle.reading.specs.Cursor.{read_item, follow}
use Rattle.reading.specs.Layout.{Mode, address_of, run_of, field, fields, last_number, total, Fixed, opened, flows, flow, counters, samples, datagram_to}
use Rattle.reading.specs.Answer.{size, rows, Header, header_of, no_header, Answer, refused, stored, one, tried, datagrams, run}
use Rattle.reading.specs.Sizes.{descriptor_words}

-- ---- inputs

-- big-endian words
w : List ℕ → List ℕ
w [] = []
w (v ∷ rest) = v / 16777216 ∷ v / 65536 % 256 ∷ v / 256 % 256 ∷ v % 256 ∷ w rest

-- H
h : ℕ → List ℕ
h n = 5 ∷ 0 ∷ 0 ∷ 1 ∷ 0 ∷ n ∷ []

-- a format 1 sample with one record, of these words
flow1 : List ℕ → List ℕ
unfolding h
flow1 r = h 1 ++ 1 ∷ (32 + 4 * length r) ∷ 0 ∷ 0 ∷ 0 ∷ 0 ∷ 0 ∷ 0 ∷ 0 ∷ 1 ∷ r

-- d aggregations, each in the other's PDU; the innermost PDU counts n records and has none
nest : (d n : ℕ) → List ℕ
nest zero n = []
nest (suc zero) n = 1016 ∷ 8 ∷ 1 ∷ n ∷ []
nest (suc (suc d)) n = 1016 ∷ (8 + 16 * suc d) ∷ 1 ∷ 1 ∷ nest (suc d) n

-- ---- the bytes of a counter record, format by format

pub counter_sizes : map (λ (x : Fixed). total x.sizes) counters ≡ 88 ∷ 52 ∷ 72 ∷ 80 ∷ 28 ∷ 28 ∷ []
unfolding counters
counter_sizes = refl

-- ---- answers

-- the header of H
seen : ℕ → Header
seen n = record { address_type = 0; address = replicate 16 0; sub_agent = 0; sequence = 1; uptime = 0; sample_count = n }

-- a word of a store that nobody has written
abbrev unwritten : ℕ
unwritten = 165

-- a store's words, before the call
lent : ℕ → List ℕ
lent n = replicate n unwritten

-- the words of a store for so many descriptors
abbrev holding : ℕ → ℕ
holding n = descriptor_words * n

desc : (kind format start extent parent depth first : ℕ) → List ℕ
desc k f s l p e o = k ∷ f ∷ s ∷ l ∷ p ∷ e ∷ o ∷ []

joined : List (List ℕ) → List ℕ
joined [] = []
joined (x ∷ xs) = x ++ joined xs

pub record Session : Type 0 where
  pub call : Mode → List ℕ → List ℕ → Answer
  pub input : List ℕ
  pub store : List ℕ
  pub answer : Answer

-- accepted into a store that holds these descriptors and has one word more, which stays
accepts : (Mode → List ℕ → List ℕ → Answer) → List ℕ → (at steps needed : ℕ) → Header → List (List ℕ) → Session
unfolding lent joined
accepts call s a n k head ds =
    let room = length (joined ds) in
    record { call = call; input = s; store = lent (room + 1); answer = record { code = 0; at = a; steps = n; needed = k; head = head; store = joined ds ++ unwritten ∷ [] } }

-- refused, with a store of so many words, which stay
refuses : (Mode → List ℕ → List ℕ → Answer) → List ℕ → (words code at steps needed : ℕ) → Session
unfolding lent
refuses call s m c a n k = record { call = call; input = s; store = lent m; answer = refused c a n k (lent m) }

-- ---- the table

p12_descriptors : List (List ℕ)
unfolding desc
p12_descriptors =
    desc 0 0 0 192 4294967295 0 0
    ∷ desc 1 1 32 160 0 0 24
    ∷ desc 2 1016 72 120 1 1 64
    ∷ desc 4 0 80 112 2 1 76
    ∷ desc 2 1016 88 104 3 2 80
    ∷ desc 4 0 96 96 4 2 92
    ∷ desc 2 1016 104 88 5 3 96
    ∷ desc 4 0 112 80 6 3 108
    ∷ desc 2 1016 120 72 7 4 112
    ∷ desc 4 0 128 64 8 4 124
    ∷ desc 2 1016 136 56 9 5 128
    ∷ desc 4 0 144 48 10 5 140
    ∷ desc 2 1016 152 40 11 6 144
    ∷ desc 4 0 160 32 12 6 156
    ∷ desc 2 1016 168 24 13 7 160
    ∷ desc 4 0 176 16 14 7 172
    ∷ desc 2 1016 184 8 15 8 176
    ∷ desc 4 0 192 0 16 8 188
    ∷ []

pub sessions : List Session
unfolding w h flow1 nest seen desc accepts refuses p12_descriptors
sessions =
    -- P1
    refuses one [] (holding 1) 2 0 0 0
    -- P2, with three more bytes, and that as a run
    ∷ accepts one (w (h 0)) 24 6 1 (seen 0) (desc 0 0 0 24 4294967295 0 0 ∷ [])
    ∷ accepts one (w (h 0) ++ 1 ∷ 2 ∷ 3 ∷ []) 24 6 1 (seen 0) (desc 0 0 0 24 4294967295 0 0 ∷ [])
    ∷ accepts run (w (h 0) ++ 1 ∷ 2 ∷ 3 ∷ []) 24 6 1 no_header (desc 0 0 0 24 4294967295 0 0 ∷ [])
    -- P3, P4
    ∷ refuses one (w (4 ∷ [])) (holding 1) 3 0 0 0
    ∷ refuses one (w (5 ∷ 3 ∷ [])) (holding 1) 4 4 1 0
    -- P5, P6, P7, P8
    ∷ accepts one (w (h 1 ++ 4097 ∷ 1 ∷ 0 ∷ [])) 36 8 2 (seen 1) (desc 0 0 0 36 4294967295 0 0 ∷ desc 1 4097 32 1 0 0 24 ∷ [])
    ∷ refuses one (take 35 (w (h 1 ++ 4097 ∷ 1 ∷ 0 ∷ []))) (holding 2) 2 28 7 0
    ∷ refuses one (w (h 1 ++ 4097 ∷ 104857601 ∷ 0 ∷ [])) (holding 2) 5 28 7 0
    ∷ refuses one (w (h 1 ++ 4097 ∷ 104857600 ∷ 0 ∷ [])) (holding 2) 2 28 7 0
    -- P9, P10, and P10 followed by P2 as a run
    ∷ accepts one (w (h 1 ++ 2 ∷ 12 ∷ 1 ∷ 0 ∷ 0 ∷ [])) 44 11 2 (seen 1) (desc 0 0 0 44 4294967295 0 0 ∷ desc 1 2 32 12 0 0 24 ∷ [])
    ∷ refuses one (w (h 1 ++ 2 ∷ 8 ∷ 1 ∷ 0 ∷ [])) (holding 2) 2 40 10 0
    ∷ accepts run (w (h 1 ++ 2 ∷ 8 ∷ 1 ∷ 0 ∷ h 0)) 0 10 0 no_header []
    -- P11, and with a store of three descriptors, the larger of them a word short of four
    ∷ accepts one (w (flow1 (nest 1 0))) 80 20 4 (seen 1)
    (desc 0 0 0 80 4294967295 0 0 ∷ desc 1 1 32 48 0 0 24 ∷ desc 2 1016 72 8 1 1 64 ∷ desc 4 0 80 0 2 1 76 ∷ [])
    ∷ refuses one (w (flow1 (nest 1 0))) (holding 3) 9 0 20 4
    ∷ refuses one (w (flow1 (nest 1 0))) (holding 4 - 1) 9 0 20 4
    -- P12, and with the innermost record count 1
    ∷ accepts one (w (flow1 (nest 8 0))) 192 48 18 (seen 1) p12_descriptors
    ∷ refuses one (w (flow1 (nest 8 1))) (holding 18) 8 192 48 0
    -- P13
    ∷ refuses one (w (flow1 (1 ∷ 8 ∷ 4294967295 ∷ 0 ∷ []))) (holding 4) 6 72 18 0
    ∷ []

-- in both modes: no session has a sampled Ethernet record
pub the_paper_holds : (mode : Mode) → map (λ (t : Session). t.call mode t.input t.store) sessions ≡ map (λ (t : Session). t.answer) sessions
unfolding sessions be4 known header_protocols follow read_item address_of run_of field fields last_number opened flows flow counters samples datagram_to size rows header_of no_header stored one tried datagrams run
the_paper_holds mode = refl
