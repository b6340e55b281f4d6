-- Made by tests/examples/make, from the memo's structures: a datagram's header and the answers to the calls by the names of their fields, as the
-- examples of `reading` have them. Assumes nothing.
use Rattle.std.specs.Prelude.{◌≡◌, refl, List, [], ◌∷◌, ◌++◌, map}
use Rattle.reading.specs.Examples.{Result, of_fields, of_input, Example, headers, inputs}
use Rattle.reading.specs.Answer.{header_of, no_header}
use Rattle.xdr.specs.Shown.{answer_of}
use Rattle.layout.specs.declared.record.Reading.{Reading}
use Rattle.datagram.specs.Shown.{header_fields, decoded, ran}
use Rattle.datagram.specs.declared.header.Header.{Header}
use Rattle.datagram.specs.declared.decode.Decoded.{Decoded}
use Rattle.datagram.specs.declared.decode.Answer.{Answer}

-- a header with an address of type 1
header_1 : Reading Header
header_1 = record { outcome = record { code = 0; at = 32; steps = 7 }; fields = record { version = 5; agent_address = record { kind = 1; bytes = (0x11 ∷ 0x12 ∷ 0x13 ∷ 0x14 ∷ 0 ∷ 0 ∷ 0 ∷ 0 ∷ 0 ∷ 0 ∷ 0 ∷ 0 ∷ 0 ∷ 0 ∷ 0 ∷ 0 ∷ []) }; sub_agent_id = 0x15161718; sequence_number = 0x191a1b1c; uptime = 0x1d1e1f20; num_samples = 0x21222324 } }

-- a header with an address of type 2
header_2 : Reading Header
header_2 = record { outcome = record { code = 0; at = 44; steps = 7 }; fields = record { version = 5; agent_address = record { kind = 2; bytes = (0x11 ∷ 0x12 ∷ 0x13 ∷ 0x14 ∷ 0x15 ∷ 0x16 ∷ 0x17 ∷ 0x18 ∷ 0x19 ∷ 0x1a ∷ 0x1b ∷ 0x1c ∷ 0x1d ∷ 0x1e ∷ 0x1f ∷ 0x20 ∷ []) }; sub_agent_id = 0x21222324; sequence_number = 0x25262728; uptime = 0x292a2b2c; num_samples = 0x2d2e2f30 } }

-- a header with an address of type 0
header_0 : Reading Header
header_0 = record { outcome = record { code = 0; at = 28; steps = 6 }; fields = record { version = 5; agent_address = record { kind = 0; bytes = (0 ∷ 0 ∷ 0 ∷ 0 ∷ 0 ∷ 0 ∷ 0 ∷ 0 ∷ 0 ∷ 0 ∷ 0 ∷ 0 ∷ 0 ∷ 0 ∷ 0 ∷ 0 ∷ []) }; sub_agent_id = 0x11121314; sequence_number = 0x15161718; uptime = 0x191a1b1c; num_samples = 0x1d1e1f20 } }

-- a datagram whose agent has an address of type 1
decoded_1 : Decoded
decoded_1 = record { answer = record { code = 0; at = 52; steps = 11; needed = 3 }; agent_address = record { kind = 1; bytes = (0x11 ∷ 0x12 ∷ 0x13 ∷ 0x14 ∷ 0 ∷ 0 ∷ 0 ∷ 0 ∷ 0 ∷ 0 ∷ 0 ∷ 0 ∷ 0 ∷ 0 ∷ 0 ∷ 0 ∷ []) }; sub_agent_id = 0x15161718; sequence_number = 0x191a1b1c; uptime = 0x1d1e1f20; num_samples = 2 }

-- a datagram whose agent has an address of type 2
decoded_2 : Decoded
decoded_2 = record { answer = record { code = 0; at = 76; steps = 13; needed = 4 }; agent_address = record { kind = 2; bytes = (0x11 ∷ 0x12 ∷ 0x13 ∷ 0x14 ∷ 0x15 ∷ 0x16 ∷ 0x17 ∷ 0x18 ∷ 0x19 ∷ 0x1a ∷ 0x1b ∷ 0x1c ∷ 0x1d ∷ 0x1e ∷ 0x1f ∷ 0x20 ∷ []) }; sub_agent_id = 0x21222324; sequence_number = 0x25262728; uptime = 0x292a2b2c; num_samples = 3 }

-- a datagram whose agent has an address of type 0
decoded_0 : Decoded
decoded_0 = record { answer = record { code = 0; at = 92; steps = 21; needed = 4 }; agent_address = record { kind = 0; bytes = (0 ∷ 0 ∷ 0 ∷ 0 ∷ 0 ∷ 0 ∷ 0 ∷ 0 ∷ 0 ∷ 0 ∷ 0 ∷ 0 ∷ 0 ∷ 0 ∷ 0 ∷ 0 ∷ []) }; sub_agent_id = 0x11121314; sequence_number = 0x15161718; uptime = 0x191a1b1c; num_samples = 1 }

-- the first of these as a run
ran_1 : Answer
ran_1 = record { code = 0; at = 52; steps = 11; needed = 3 }

-- a run that ends in the middle of a header
ran_2 : Answer
ran_2 = record { code = 0; at = 52; steps = 12; needed = 3 }

-- what they are in the terms of the reading
pub shown : List Result
unfolding header_1 header_2 header_0 decoded_1 decoded_2 decoded_0 ran_1 ran_2
shown =
    of_fields (answer_of header_1.outcome (header_fields header_1.fields))
    ∷ of_fields (answer_of header_2.outcome (header_fields header_2.fields))
    ∷ of_fields (answer_of header_0.outcome (header_fields header_0.fields))
    ∷ of_input (decoded decoded_1 (0 ∷ 0 ∷ 0 ∷ 52 ∷ 4294967295 ∷ 0 ∷ 0 ∷ 1 ∷ 4097 ∷ 36 ∷ 1 ∷ 0 ∷ 0 ∷ 28 ∷ 1 ∷ 4098 ∷ 48 ∷ 1 ∷ 0 ∷ 0 ∷ 40 ∷ []))
    ∷ of_input (decoded decoded_2 (0 ∷ 0 ∷ 0 ∷ 76 ∷ 4294967295 ∷ 0 ∷ 0 ∷ 1 ∷ 4097 ∷ 48 ∷ 1 ∷ 0 ∷ 0 ∷ 40 ∷ 1 ∷ 4098 ∷ 60 ∷ 1 ∷ 0 ∷ 0 ∷ 52 ∷ 1 ∷ 4099 ∷ 72 ∷ 1 ∷ 0 ∷ 0 ∷ 64 ∷ []))
    ∷ of_input (decoded decoded_0 (0 ∷ 0 ∷ 0 ∷ 92 ∷ 4294967295 ∷ 0 ∷ 0 ∷ 1 ∷ 2 ∷ 32 ∷ 60 ∷ 0 ∷ 0 ∷ 24 ∷ 3 ∷ 5 ∷ 52 ∷ 28 ∷ 1 ∷ 1 ∷ 44 ∷ 3 ∷ 4101 ∷ 88 ∷ 4 ∷ 1 ∷ 1 ∷ 80 ∷ []))
    ∷ of_input (ran ran_1 (0 ∷ 0 ∷ 0 ∷ 52 ∷ 4294967295 ∷ 0 ∷ 0 ∷ 1 ∷ 4097 ∷ 36 ∷ 1 ∷ 0 ∷ 0 ∷ 28 ∷ 1 ∷ 4098 ∷ 48 ∷ 1 ∷ 0 ∷ 0 ∷ 40 ∷ []))
    ∷ of_input (ran ran_2 (0 ∷ 0 ∷ 0 ∷ 52 ∷ 4294967295 ∷ 0 ∷ 0 ∷ 1 ∷ 4097 ∷ 36 ∷ 1 ∷ 0 ∷ 0 ∷ 28 ∷ 1 ∷ 4098 ∷ 48 ∷ 1 ∷ 0 ∷ 0 ∷ 40 ∷ []))
    ∷ []

pub the_names_hold : shown ≡ map (λ (e : Example). e.result) (headers ++ inputs)
unfolding shown headers inputs header_of no_header
the_names_hold = refl
