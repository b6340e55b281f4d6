-- What this crate's records are in terms of the reading: the values of their fields, in the order of the layout. Assumes nothing.
use Rattle.std.specs.Prelude.{List, [], ◌∷◌}
use Rattle.reading.specs.Script.{Value, number}
-- made by layouts/make from layouts/table: from here
use Rattle.counters.specs.declared.polled.GenericInterfaceCounters.{GenericInterfaceCounters}
use Rattle.counters.specs.declared.polled.EthernetInterfaceCounters.{EthernetInterfaceCounters}
use Rattle.counters.specs.declared.polled.TokenRingCounters.{TokenRingCounters}
use Rattle.counters.specs.declared.polled.Vg100InterfaceCounters.{Vg100InterfaceCounters}
use Rattle.counters.specs.declared.polled.VlanCounters.{VlanCounters}
use Rattle.counters.specs.declared.polled.ProcessorCounters.{ProcessorCounters}

abbrev pub generic_interface_counters : GenericInterfaceCounters → List Value
generic_interface_counters r = number r.if_index ∷ number r.if_type ∷ number r.if_speed ∷ number r.if_direction ∷ number r.if_status ∷ number r.if_in_octets ∷ number r.if_in_ucast_pkts ∷ number r.if_in_multicast_pkts ∷ number r.if_in_broadcast_pkts ∷ number r.if_in_discards ∷ number r.if_in_errors ∷ number r.if_in_unknown_protos ∷ number r.if_out_octets ∷ number r.if_out_ucast_pkts ∷ number r.if_out_multicast_pkts ∷ number r.if_out_broadcast_pkts ∷ number r.if_out_discards ∷ number r.if_out_errors ∷ number r.if_promiscuous_mode ∷ []

abbrev pub ethernet_interface_counters : EthernetInterfaceCounters → List Value
ethernet_interface_counters r = number r.dot3_stats_alignment_errors ∷ number r.dot3_stats_fcs_errors ∷ number r.dot3_stats_single_collision_frames ∷ number r.dot3_stats_multiple_collision_frames ∷ number r.dot3_stats_sqe_test_errors ∷ number r.dot3_stats_deferred_transmissions ∷ number r.dot3_stats_late_collisions ∷ number r.dot3_stats_excessive_collisions ∷ number r.dot3_stats_internal_mac_transmit_errors ∷ number r.dot3_stats_carrier_sense_errors ∷ number r.dot3_stats_frame_too_longs ∷ number r.dot3_stats_internal_mac_receive_errors ∷ number r.dot3_stats_symbol_errors ∷ []

abbrev pub token_ring_counters : TokenRingCounters → List Value
token_ring_counters r = number r.dot5_stats_line_errors ∷ number r.dot5_stats_burst_errors ∷ number r.dot5_stats_ac_errors ∷ number r.dot5_stats_abort_trans_errors ∷ number r.dot5_stats_internal_errors ∷ number r.dot5_stats_lost_frame_errors ∷ number r.dot5_stats_receive_congestions ∷ number r.dot5_stats_frame_copied_errors ∷ number r.dot5_stats_token_errors ∷ number r.dot5_stats_soft_errors ∷ number r.dot5_stats_hard_errors ∷ number r.dot5_stats_signal_loss ∷ number r.dot5_stats_transmit_beacons ∷ number r.dot5_stats_recoverys ∷ number r.dot5_stats_lobe_wires ∷ number r.dot5_stats_removes ∷ number r.dot5_stats_singles ∷ number r.dot5_stats_freq_errors ∷ []

abbrev pub vg100_interface_counters : Vg100InterfaceCounters → List Value
vg100_interface_counters r = number r.dot12_in_high_priority_frames ∷ number r.dot12_in_high_priority_octets ∷ number r.dot12_in_norm_priority_frames ∷ number r.dot12_in_norm_priority_octets ∷ number r.dot12_in_ipm_errors ∷ number r.dot12_in_oversize_frame_errors ∷ number r.dot12_in_data_errors ∷ number r.dot12_in_null_addressed_frames ∷ number r.dot12_out_high_priority_frames ∷ number r.dot12_out_high_priority_octets ∷ number r.dot12_transition_into_trainings ∷ number r.dot12_hc_in_high_priority_octets ∷ number r.dot12_hc_in_norm_priority_octets ∷ number r.dot12_hc_out_high_priority_octets ∷ []

abbrev pub vlan_counters : VlanCounters → List Value
vlan_counters r = number r.vlan_id ∷ number r.octets ∷ number r.ucast_pkts ∷ number r.multicast_pkts ∷ number r.broadcast_pkts ∷ number r.discards ∷ []

abbrev pub processor_counters : ProcessorCounters → List Value
processor_counters r = number r.cpu_5s ∷ number r.cpu_1m ∷ number r.cpu_5m ∷ number r.total_memory ∷ number r.free_memory ∷ []

-- made by layouts/make: to here
