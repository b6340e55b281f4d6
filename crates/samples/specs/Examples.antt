-- Made by tests/examples/make, from the memo's structures: the samples by the names of their fields, as the
-- examples of `reading` have them. Assumes nothing.
use Rattle.std.specs.Prelude.{◌≡◌, refl, List, [], ◌∷◌, map}
use Rattle.reading.specs.Examples.{Result, of_fields, Example, sample_fields}
use Rattle.xdr.specs.Shown.{answer_of}
use Rattle.layout.specs.declared.record.Reading.{Reading}
use Rattle.samples.specs.Shown.{flow_sample, counters_sample, flow_sample_expanded, counters_sample_expanded, discarded_packet}
use Rattle.samples.specs.declared.heads.FlowSample.{FlowSample}
use Rattle.samples.specs.declared.heads.CountersSample.{CountersSample}
use Rattle.samples.specs.declared.heads.FlowSampleExpanded.{FlowSampleExpanded}
use Rattle.samples.specs.declared.heads.CountersSampleExpanded.{CountersSampleExpanded}
use Rattle.samples.specs.declared.heads.DiscardedPacket.{DiscardedPacket}

-- flow_sample, format 1
sample_1 : Reading FlowSample
sample_1 = record { outcome = record { code = 0; at = 36; steps = 8 }; fields = record { sequence_number = 0x11121314; source_id = record { 0 = 0x15161718 }; sampling_rate = 0x191a1b1c; sample_pool = 0x1d1e1f20; drops = 0x21222324; input = record { 0 = 0x25262728 }; output = record { 0 = 0x292a2b2c }; num_records = 0x2d2e2f30 } }

-- counters_sample, format 2
sample_2 : Reading CountersSample
sample_2 = record { outcome = record { code = 0; at = 16; steps = 3 }; fields = record { sequence_number = 0x11121314; source_id = record { 0 = 0x15161718 }; num_records = 0x191a1b1c } }

-- flow_sample_expanded, format 3
sample_3 : Reading FlowSampleExpanded
sample_3 = record { outcome = record { code = 0; at = 48; steps = 11 }; fields = record { sequence_number = 0x11121314; source_id = record { source_id_type = 0x15161718; source_id_index = 0x191a1b1c }; sampling_rate = 0x1d1e1f20; sample_pool = 0x21222324; drops = 0x25262728; input = record { format = 0x292a2b2c; value = 0x2d2e2f30 }; output = record { format = 0x31323334; value = 0x35363738 }; num_records = 0x393a3b3c } }

-- counters_sample_expanded, format 4
sample_4 : Reading CountersSampleExpanded
sample_4 = record { outcome = record { code = 0; at = 20; steps = 4 }; fields = record { sequence_number = 0x11121314; source_id = record { source_id_type = 0x15161718; source_id_index = 0x191a1b1c }; num_records = 0x1d1e1f20 } }

-- discarded_packet, format 5
sample_5 : Reading DiscardedPacket
sample_5 = record { outcome = record { code = 0; at = 36; steps = 8 }; fields = record { sequence_number = 0x11121314; source_id = record { source_id_type = 0x15161718; source_id_index = 0x191a1b1c }; drops = 0x1d1e1f20; input_ifindex = 0x21222324; output_ifindex = 0x25262728; reason = 0x292a2b2c; num_records = 0x2d2e2f30 } }

-- what they are in the terms of the reading
pub shown : List Result
unfolding sample_1 sample_2 sample_3 sample_4 sample_5
shown =
    of_fields (answer_of sample_1.outcome (flow_sample sample_1.fields))
    ∷ of_fields (answer_of sample_2.outcome (counters_sample sample_2.fields))
    ∷ of_fields (answer_of sample_3.outcome (flow_sample_expanded sample_3.fields))
    ∷ of_fields (answer_of sample_4.outcome (counters_sample_expanded sample_4.fields))
    ∷ of_fields (answer_of sample_5.outcome (discarded_packet sample_5.fields))
    ∷ []

pub the_names_hold : shown ≡ map (λ (e : Example). e.result) sample_fields
unfolding shown sample_fields
the_names_hold = refl
