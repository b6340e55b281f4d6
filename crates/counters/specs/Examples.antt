-- Made by tests/examples/make, from the memo's structures: the counter records by the names of their fields, as the
-- examples of `reading` have them. Assumes nothing.
use Rattle.std.specs.Prelude.{◌≡◌, refl, List, [], ◌∷◌, map}
use Rattle.reading.specs.Examples.{Result, of_fields, Example, counter_records}
use Rattle.xdr.specs.Shown.{answer_of}
use Rattle.layout.specs.declared.record.Reading.{Reading}
use Rattle.counters.specs.Shown.{generic_interface_counters, ethernet_interface_counters, token_ring_counters, vg100_interface_counters, vlan_counters, processor_counters}
use Rattle.counters.specs.declared.polled.GenericInterfaceCounters.{GenericInterfaceCounters}
use Rattle.counters.specs.declared.polled.EthernetInterfaceCounters.{EthernetInterfaceCounters}
use Rattle.counters.specs.declared.polled.TokenRingCounters.{TokenRingCounters}
use Rattle.counters.specs.declared.polled.Vg100InterfaceCounters.{Vg100InterfaceCounters}
use Rattle.counters.specs.declared.polled.VlanCounters.{VlanCounters}
use Rattle.counters.specs.declared.polled.ProcessorCounters.{ProcessorCounters}

-- generic_interface_counters, format 1
counter_1 : Reading GenericInterfaceCounters
counter_1 = record { outcome = record { code = 0; at = 92; steps = 19 }; fields = record { if_index = 0x11121314; if_type = 0x15161718; if_speed = 0x191a1b1c1d1e1f20; if_direction = 0x21222324; if_status = 0x25262728; if_in_octets = 0x292a2b2c2d2e2f30; if_in_ucast_pkts = 0x31323334; if_in_multicast_pkts = 0x35363738; if_in_broadcast_pkts = 0x393a3b3c; if_in_discards = 0x3d3e3f40; if_in_errors = 0x41424344; if_in_unknown_protos = 0x45464748; if_out_octets = 0x494a4b4c4d4e4f50; if_out_ucast_pkts = 0x51525354; if_out_multicast_pkts = 0x55565758; if_out_broadcast_pkts = 0x595a5b5c; if_out_discards = 0x5d5e5f60; if_out_errors = 0x61626364; if_promiscuous_mode = 0x65666768 } }

-- ethernet_interface_counters, format 2
counter_2 : Reading EthernetInterfaceCounters
counter_2 = record { outcome = record { code = 0; at = 56; steps = 13 }; fields = record { dot3_stats_alignment_errors = 0x11121314; dot3_stats_fcs_errors = 0x15161718; dot3_stats_single_collision_frames = 0x191a1b1c; dot3_stats_multiple_collision_frames = 0x1d1e1f20; dot3_stats_sqe_test_errors = 0x21222324; dot3_stats_deferred_transmissions = 0x25262728; dot3_stats_late_collisions = 0x292a2b2c; dot3_stats_excessive_collisions = 0x2d2e2f30; dot3_stats_internal_mac_transmit_errors = 0x31323334; dot3_stats_carrier_sense_errors = 0x35363738; dot3_stats_frame_too_longs = 0x393a3b3c; dot3_stats_internal_mac_receive_errors = 0x3d3e3f40; dot3_stats_symbol_errors = 0x41424344 } }

-- token_ring_counters, format 3
counter_3 : Reading TokenRingCounters
counter_3 = record { outcome = record { code = 0; at = 76; steps = 18 }; fields = record { dot5_stats_line_errors = 0x11121314; dot5_stats_burst_errors = 0x15161718; dot5_stats_ac_errors = 0x191a1b1c; dot5_stats_abort_trans_errors = 0x1d1e1f20; dot5_stats_internal_errors = 0x21222324; dot5_stats_lost_frame_errors = 0x25262728; dot5_stats_receive_congestions = 0x292a2b2c; dot5_stats_frame_copied_errors = 0x2d2e2f30; dot5_stats_token_errors = 0x31323334; dot5_stats_soft_errors = 0x35363738; dot5_stats_hard_errors = 0x393a3b3c; dot5_stats_signal_loss = 0x3d3e3f40; dot5_stats_transmit_beacons = 0x41424344; dot5_stats_recoverys = 0x45464748; dot5_stats_lobe_wires = 0x494a4b4c; dot5_stats_removes = 0x4d4e4f50; dot5_stats_singles = 0x51525354; dot5_stats_freq_errors = 0x55565758 } }

-- vg100_interface_counters, format 4
counter_4 : Reading Vg100InterfaceCounters
counter_4 = record { outcome = record { code = 0; at = 84; steps = 14 }; fields = record { dot12_in_high_priority_frames = 0x11121314; dot12_in_high_priority_octets = 0x15161718191a1b1c; dot12_in_norm_priority_frames = 0x1d1e1f20; dot12_in_norm_priority_octets = 0x2122232425262728; dot12_in_ipm_errors = 0x292a2b2c; dot12_in_oversize_frame_errors = 0x2d2e2f30; dot12_in_data_errors = 0x31323334; dot12_in_null_addressed_frames = 0x35363738; dot12_out_high_priority_frames = 0x393a3b3c; dot12_out_high_priority_octets = 0x3d3e3f4041424344; dot12_transition_into_trainings = 0x45464748; dot12_hc_in_high_priority_octets = 0x494a4b4c4d4e4f50; dot12_hc_in_norm_priority_octets = 0x5152535455565758; dot12_hc_out_high_priority_octets = 0x595a5b5c5d5e5f60 } }

-- vlan_counters, format 5
counter_5 : Reading VlanCounters
counter_5 = record { outcome = record { code = 0; at = 32; steps = 6 }; fields = record { vlan_id = 0x11121314; octets = 0x15161718191a1b1c; ucast_pkts = 0x1d1e1f20; multicast_pkts = 0x21222324; broadcast_pkts = 0x25262728; discards = 0x292a2b2c } }

-- processor_counters, format 1001
counter_1001 : Reading ProcessorCounters
counter_1001 = record { outcome = record { code = 0; at = 32; steps = 5 }; fields = record { cpu_5s = 0x11121314; cpu_1m = 0x15161718; cpu_5m = 0x191a1b1c; total_memory = 0x1d1e1f2021222324; free_memory = 0x25262728292a2b2c } }

-- what they are in the terms of the reading
pub shown : List Result
unfolding counter_1 counter_2 counter_3 counter_4 counter_5 counter_1001
shown =
    of_fields (answer_of counter_1.outcome (generic_interface_counters counter_1.fields))
    ∷ of_fields (answer_of counter_2.outcome (ethernet_interface_counters counter_2.fields))
    ∷ of_fields (answer_of counter_3.outcome (token_ring_counters counter_3.fields))
    ∷ of_fields (answer_of counter_4.outcome (vg100_interface_counters counter_4.fields))
    ∷ of_fields (answer_of counter_5.outcome (vlan_counters counter_5.fields))
    ∷ of_fields (answer_of counter_1001.outcome (processor_counters counter_1001.fields))
    ∷ []

pub the_names_hold : shown ≡ map (λ (e : Example). e.result) counter_records
unfolding shown counter_records
the_names_hold = refl
