-- What this crate's records are in terms of the reading: the values of their fields, in the order of the layout. Assumes nothing.
use Rattle.std.specs.Prelude.{List, [], ◌∷◌}
use Rattle.reading.specs.Script.{Value, number}
-- made by layouts/make from layouts/table: from here
use Rattle.samples.specs.declared.heads.FlowSample.{FlowSample}
use Rattle.samples.specs.declared.heads.CountersSample.{CountersSample}
use Rattle.samples.specs.declared.heads.FlowSampleExpanded.{FlowSampleExpanded}
use Rattle.samples.specs.declared.heads.CountersSampleExpanded.{CountersSampleExpanded}
use Rattle.samples.specs.declared.heads.DiscardedPacket.{DiscardedPacket}

abbrev pub flow_sample : FlowSample → List Value
flow_sample r = number r.sequence_number ∷ number r.source_id.0 ∷ number r.sampling_rate ∷ number r.sample_pool ∷ number r.drops ∷ number r.input.0 ∷ number r.output.0 ∷ number r.num_records ∷ []

abbrev pub counters_sample : CountersSample → List Value
counters_sample r = number r.sequence_number ∷ number r.source_id.0 ∷ number r.num_records ∷ []

abbrev pub flow_sample_expanded : FlowSampleExpanded → List Value
flow_sample_expanded r = number r.sequence_number ∷ number r.source_id.source_id_type ∷ number r.source_id.source_id_index ∷ number r.sampling_rate ∷ number r.sample_pool ∷ number r.drops ∷ number r.input.format ∷ number r.input.value ∷ number r.output.format ∷ number r.output.value ∷ number r.num_records ∷ []

abbrev pub counters_sample_expanded : CountersSampleExpanded → List Value
counters_sample_expanded r = number r.sequence_number ∷ number r.source_id.source_id_type ∷ number r.source_id.source_id_index ∷ number r.num_records ∷ []

abbrev pub discarded_packet : DiscardedPacket → List Value
discarded_packet r = number r.sequence_number ∷ number r.source_id.source_id_type ∷ number r.source_id.source_id_index ∷ number r.drops ∷ number r.input_ifindex ∷ number r.output_ifindex ∷ number r.reason ∷ number r.num_records ∷ []

-- made by layouts/make: to here
