-- What is shown of a result of field reading loses nothing: the outcome and each field are got back from it. Assumes nothing.
use mathlib.Core.Path.{refl}
use Rattle.reading.specs.Answer.{Fields}
use Rattle.xdr.specs.Shown.{answer_of}
use Rattle.xdr.proofs.Settles.{Lossless, got_back}
use Rattle.xdr.proofs.Lossless.{outcome_of, word_at, bytes_at, address_at, range_at}
use Rattle.layout.specs.declared.record.Reading.{Reading}
-- made by layouts/make from layouts/table: from here
use Rattle.datagram.specs.declared.header.Header.{Header}
use Rattle.samples.specs.declared.heads.FlowSample.{FlowSample}
use Rattle.samples.specs.declared.heads.CountersSample.{CountersSample}
use Rattle.samples.specs.declared.heads.FlowSampleExpanded.{FlowSampleExpanded}
use Rattle.samples.specs.declared.heads.CountersSampleExpanded.{CountersSampleExpanded}
use Rattle.samples.specs.declared.heads.DiscardedPacket.{DiscardedPacket}
use Rattle.flow_layouts.specs.declared.sampled.SampledHeader.{SampledHeader}
use Rattle.flow_layouts.specs.declared.sampled.SampledEthernet.{SampledEthernet}
use Rattle.flow_layouts.specs.declared.sampled.SampledIpv4.{SampledIpv4}
use Rattle.flow_layouts.specs.declared.sampled.SampledIpv6.{SampledIpv6}
use Rattle.flow_layouts.specs.declared.extended.ExtendedSwitch.{ExtendedSwitch}
use Rattle.flow_layouts.specs.declared.extended.ExtendedRouter.{ExtendedRouter}
use Rattle.flow_layouts.specs.declared.extended.ExtendedGateway.{ExtendedGateway}
use Rattle.flow_layouts.specs.declared.extended.ExtendedUser.{ExtendedUser}
use Rattle.flow_layouts.specs.declared.extended.ExtendedUrl.{ExtendedUrl}
use Rattle.flow_layouts.specs.declared.mpls.ExtendedMpls.{ExtendedMpls}
use Rattle.flow_layouts.specs.declared.extended.ExtendedNat.{ExtendedNat}
use Rattle.flow_layouts.specs.declared.mpls.ExtendedMplsTunnel.{ExtendedMplsTunnel}
use Rattle.flow_layouts.specs.declared.mpls.ExtendedMplsVc.{ExtendedMplsVc}
use Rattle.flow_layouts.specs.declared.mpls.ExtendedMplsFec.{ExtendedMplsFec}
use Rattle.flow_layouts.specs.declared.mpls.ExtendedMplsLvpFec.{ExtendedMplsLvpFec}
use Rattle.flow_layouts.specs.declared.extended.ExtendedVlanTunnel.{ExtendedVlanTunnel}
use Rattle.flow_layouts.specs.declared.wireless.Extended80211Payload.{Extended80211Payload}
use Rattle.flow_layouts.specs.declared.wireless.Extended80211Rx.{Extended80211Rx}
use Rattle.flow_layouts.specs.declared.wireless.Extended80211Tx.{Extended80211Tx}
use Rattle.flow_layouts.specs.declared.wireless.Extended80211Aggregation.{Extended80211Aggregation}
use Rattle.counters.specs.declared.polled.GenericInterfaceCounters.{GenericInterfaceCounters}
use Rattle.counters.specs.declared.polled.EthernetInterfaceCounters.{EthernetInterfaceCounters}
use Rattle.counters.specs.declared.polled.TokenRingCounters.{TokenRingCounters}
use Rattle.counters.specs.declared.polled.Vg100InterfaceCounters.{Vg100InterfaceCounters}
use Rattle.counters.specs.declared.polled.VlanCounters.{VlanCounters}
use Rattle.counters.specs.declared.polled.ProcessorCounters.{ProcessorCounters}
use Rattle.counters.specs.Shown.{generic_interface_counters, ethernet_interface_counters, token_ring_counters, vg100_interface_counters, vlan_counters, processor_counters}
use Rattle.datagram.specs.Shown.{header_fields}
use Rattle.flow_layouts.specs.Shown.{sampled_header, sampled_ethernet, sampled_ipv4, sampled_ipv6, extended_switch, extended_router, extended_gateway, extended_user, extended_url, extended_mpls, extended_nat, extended_mpls_tunnel, extended_mpls_vc, extended_mpls_fec, extended_mpls_lvp_fec, extended_vlan_tunnel, extended_80211_payload, extended_80211_rx, extended_80211_tx, extended_80211_aggregation}
use Rattle.samples.specs.Shown.{flow_sample, counters_sample, flow_sample_expanded, counters_sample_expanded, discarded_packet}

pub header_lossless : Lossless (λ (r : Reading Header). answer_of r.outcome (header_fields r.fields))
header_lossless = got_back (λ (x : Fields). record { outcome = outcome_of x; fields = record { version = word_at x 0; agent_address = address_at x 1; sub_agent_id = word_at x 2; sequence_number = word_at x 3; uptime = word_at x 4; num_samples = word_at x 5 } }) (λ r. refl)

pub flow_sample_lossless : Lossless (λ (r : Reading FlowSample). answer_of r.outcome (flow_sample r.fields))
flow_sample_lossless = got_back (λ (x : Fields). record { outcome = outcome_of x; fields = record { sequence_number = word_at x 0; source_id = record { 0 = word_at x 1 }; sampling_rate = word_at x 2; sample_pool = word_at x 3; drops = word_at x 4; input = record { 0 = word_at x 5 }; output = record { 0 = word_at x 6 }; num_records = word_at x 7 } }) (λ r. refl)

pub counters_sample_lossless : Lossless (λ (r : Reading CountersSample). answer_of r.outcome (counters_sample r.fields))
counters_sample_lossless = got_back (λ (x : Fields). record { outcome = outcome_of x; fields = record { sequence_number = word_at x 0; source_id = record { 0 = word_at x 1 }; num_records = word_at x 2 } }) (λ r. refl)

pub flow_sample_expanded_lossless : Lossless (λ (r : Reading FlowSampleExpanded). answer_of r.outcome (flow_sample_expanded r.fields))
flow_sample_expanded_lossless = got_back (λ (x : Fields). record { outcome = outcome_of x; fields = record { sequence_number = word_at x 0; source_id = record { source_id_type = word_at x 1; source_id_index = word_at x 2 }; sampling_rate = word_at x 3; sample_pool = word_at x 4; drops = word_at x 5; input = record { format = word_at x 6; value = word_at x 7 }; output = record { format = word_at x 8; value = word_at x 9 }; num_records = word_at x 10 } }) (λ r. refl)

pub counters_sample_expanded_lossless : Lossless (λ (r : Reading CountersSampleExpanded). answer_of r.outcome (counters_sample_expanded r.fields))
counters_sample_expanded_lossless = got_back (λ (x : Fields). record { outcome = outcome_of x; fields = record { sequence_number = word_at x 0; source_id = record { source_id_type = word_at x 1; source_id_index = word_at x 2 }; num_records = word_at x 3 } }) (λ r. refl)

pub discarded_packet_lossless : Lossless (λ (r : Reading DiscardedPacket). answer_of r.outcome (discarded_packet r.fields))
discarded_packet_lossless = got_back (λ (x : Fields). record { outcome = outcome_of x; fields = record { sequence_number = word_at x 0; source_id = record { source_id_type = word_at x 1; source_id_index = word_at x 2 }; drops = word_at x 3; input_ifindex = word_at x 4; output_ifindex = word_at x 5; reason = word_at x 6; num_records = word_at x 7 } }) (λ r. refl)

pub sampled_header_lossless : Lossless (λ (r : Reading SampledHeader). answer_of r.outcome (sampled_header r.fields))
sampled_header_lossless = got_back (λ (x : Fields). record { outcome = outcome_of x; fields = record { protocol = word_at x 0; frame_length = word_at x 1; stripped = word_at x 2; header = range_at x 3 } }) (λ r. refl)

pub sampled_ethernet_lossless : Lossless (λ (r : Reading SampledEthernet). answer_of r.outcome (sampled_ethernet r.fields))
sampled_ethernet_lossless = got_back (λ (x : Fields). record { outcome = outcome_of x; fields = record { length = word_at x 0; src_mac = bytes_at x 1; dst_mac = bytes_at x 2; eth_type = word_at x 3 } }) (λ r. refl)

pub sampled_ipv4_lossless : Lossless (λ (r : Reading SampledIpv4). answer_of r.outcome (sampled_ipv4 r.fields))
sampled_ipv4_lossless = got_back (λ (x : Fields). record { outcome = outcome_of x; fields = record { length = word_at x 0; protocol = word_at x 1; src_ip = word_at x 2; dst_ip = word_at x 3; src_port = word_at x 4; dst_port = word_at x 5; tcp_flags = word_at x 6; tos = word_at x 7 } }) (λ r. refl)

pub sampled_ipv6_lossless : Lossless (λ (r : Reading SampledIpv6). answer_of r.outcome (sampled_ipv6 r.fields))
sampled_ipv6_lossless = got_back (λ (x : Fields). record { outcome = outcome_of x; fields = record { length = word_at x 0; protocol = word_at x 1; src_ip = bytes_at x 2; dst_ip = bytes_at x 3; src_port = word_at x 4; dst_port = word_at x 5; tcp_flags = word_at x 6; priority = word_at x 7 } }) (λ r. refl)

pub extended_switch_lossless : Lossless (λ (r : Reading ExtendedSwitch). answer_of r.outcome (extended_switch r.fields))
extended_switch_lossless = got_back (λ (x : Fields). record { outcome = outcome_of x; fields = record { src_vlan = word_at x 0; src_priority = word_at x 1; dst_vlan = word_at x 2; dst_priority = word_at x 3 } }) (λ r. refl)

pub extended_router_lossless : Lossless (λ (r : Reading ExtendedRouter). answer_of r.outcome (extended_router r.fields))
extended_router_lossless = got_back (λ (x : Fields). record { outcome = outcome_of x; fields = record { next_hop = address_at x 0; src_mask_len = word_at x 1; dst_mask_len = word_at x 2 } }) (λ r. refl)

pub extended_gateway_lossless : Lossless (λ (r : Reading ExtendedGateway). answer_of r.outcome (extended_gateway r.fields))
extended_gateway_lossless = got_back (λ (x : Fields). record { outcome = outcome_of x; fields = record { next_hop = address_at x 0; as_number = word_at x 1; src_as = word_at x 2; src_peer_as = word_at x 3; dst_as_path = range_at x 4; communities = range_at x 5; local_pref = word_at x 6 } }) (λ r. refl)

pub extended_user_lossless : Lossless (λ (r : Reading ExtendedUser). answer_of r.outcome (extended_user r.fields))
extended_user_lossless = got_back (λ (x : Fields). record { outcome = outcome_of x; fields = record { src_charset = word_at x 0; src_user = range_at x 1; dst_charset = word_at x 2; dst_user = range_at x 3 } }) (λ r. refl)

pub extended_url_lossless : Lossless (λ (r : Reading ExtendedUrl). answer_of r.outcome (extended_url r.fields))
extended_url_lossless = got_back (λ (x : Fields). record { outcome = outcome_of x; fields = record { direction = word_at x 0; url = range_at x 1; host = range_at x 2 } }) (λ r. refl)

pub extended_mpls_lossless : Lossless (λ (r : Reading ExtendedMpls). answer_of r.outcome (extended_mpls r.fields))
extended_mpls_lossless = got_back (λ (x : Fields). record { outcome = outcome_of x; fields = record { next_hop = address_at x 0; in_stack = range_at x 1; out_stack = range_at x 2 } }) (λ r. refl)

pub extended_nat_lossless : Lossless (λ (r : Reading ExtendedNat). answer_of r.outcome (extended_nat r.fields))
extended_nat_lossless = got_back (λ (x : Fields). record { outcome = outcome_of x; fields = record { src_address = address_at x 0; dst_address = address_at x 1 } }) (λ r. refl)

pub extended_mpls_tunnel_lossless : Lossless (λ (r : Reading ExtendedMplsTunnel). answer_of r.outcome (extended_mpls_tunnel r.fields))
extended_mpls_tunnel_lossless = got_back (λ (x : Fields). record { outcome = outcome_of x; fields = record { tunnel_lsp_name = range_at x 0; tunnel_id = word_at x 1; tunnel_cos = word_at x 2 } }) (λ r. refl)

pub extended_mpls_vc_lossless : Lossless (λ (r : Reading ExtendedMplsVc). answer_of r.outcome (extended_mpls_vc r.fields))
extended_mpls_vc_lossless = got_back (λ (x : Fields). record { outcome = outcome_of x; fields = record { vc_instance_name = range_at x 0; vll_vc_id = word_at x 1; vc_label = word_at x 2; vc_cos = word_at x 3 } }) (λ r. refl)

pub extended_mpls_fec_lossless : Lossless (λ (r : Reading ExtendedMplsFec). answer_of r.outcome (extended_mpls_fec r.fields))
extended_mpls_fec_lossless = got_back (λ (x : Fields). record { outcome = outcome_of x; fields = record { fec_addr_prefix = address_at x 0; fec_prefix_len = word_at x 1 } }) (λ r. refl)

pub extended_mpls_lvp_fec_lossless : Lossless (λ (r : Reading ExtendedMplsLvpFec). answer_of r.outcome (extended_mpls_lvp_fec r.fields))
extended_mpls_lvp_fec_lossless = got_back (λ (x : Fields). record { outcome = outcome_of x; fields = record { mpls_fec_addr_prefix_length = word_at x 0 } }) (λ r. refl)

pub extended_vlan_tunnel_lossless : Lossless (λ (r : Reading ExtendedVlanTunnel). answer_of r.outcome (extended_vlan_tunnel r.fields))
extended_vlan_tunnel_lossless = got_back (λ (x : Fields). record { outcome = outcome_of x; fields = record { stack = range_at x 0 } }) (λ r. refl)

pub extended_80211_payload_lossless : Lossless (λ (r : Reading Extended80211Payload). answer_of r.outcome (extended_80211_payload r.fields))
extended_80211_payload_lossless = got_back (λ (x : Fields). record { outcome = outcome_of x; fields = record { cipher_suite = word_at x 0; «data» = range_at x 1 } }) (λ r. refl)

pub extended_80211_rx_lossless : Lossless (λ (r : Reading Extended80211Rx). answer_of r.outcome (extended_80211_rx r.fields))
extended_80211_rx_lossless = got_back (λ (x : Fields). record { outcome = outcome_of x; fields = record { ssid = range_at x 0; bssid = bytes_at x 1; version = word_at x 2; channel = word_at x 3; speed = word_at x 4; rsni = word_at x 5; rcpi = word_at x 6; packet_duration = word_at x 7 } }) (λ r. refl)

pub extended_80211_tx_lossless : Lossless (λ (r : Reading Extended80211Tx). answer_of r.outcome (extended_80211_tx r.fields))
extended_80211_tx_lossless = got_back (λ (x : Fields). record { outcome = outcome_of x; fields = record { ssid = range_at x 0; bssid = bytes_at x 1; version = word_at x 2; transmissions = word_at x 3; packet_duration = word_at x 4; retrans_duration = word_at x 5; channel = word_at x 6; speed = word_at x 7; power = word_at x 8 } }) (λ r. refl)

pub extended_80211_aggregation_lossless : Lossless (λ (r : Reading Extended80211Aggregation). answer_of r.outcome (extended_80211_aggregation r.fields))
extended_80211_aggregation_lossless = got_back (λ (x : Fields). record { outcome = outcome_of x; fields = record { pdu_count = word_at x 0 } }) (λ r. refl)

pub generic_interface_counters_lossless : Lossless (λ (r : Reading GenericInterfaceCounters). answer_of r.outcome (generic_interface_counters r.fields))
generic_interface_counters_lossless = got_back (λ (x : Fields). record { outcome = outcome_of x; fields = record { if_index = word_at x 0; if_type = word_at x 1; if_speed = word_at x 2; if_direction = word_at x 3; if_status = word_at x 4; if_in_octets = word_at x 5; if_in_ucast_pkts = word_at x 6; if_in_multicast_pkts = word_at x 7; if_in_broadcast_pkts = word_at x 8; if_in_discards = word_at x 9; if_in_errors = word_at x 10; if_in_unknown_protos = word_at x 11; if_out_octets = word_at x 12; if_out_ucast_pkts = word_at x 13; if_out_multicast_pkts = word_at x 14; if_out_broadcast_pkts = word_at x 15; if_out_discards = word_at x 16; if_out_errors = word_at x 17; if_promiscuous_mode = word_at x 18 } }) (λ r. refl)

pub ethernet_interface_counters_lossless : Lossless (λ (r : Reading EthernetInterfaceCounters). answer_of r.outcome (ethernet_interface_counters r.fields))
ethernet_interface_counters_lossless = got_back (λ (x : Fields). record { outcome = outcome_of x; fields = record { dot3_stats_alignment_errors = word_at x 0; dot3_stats_fcs_errors = word_at x 1; dot3_stats_single_collision_frames = word_at x 2; dot3_stats_multiple_collision_frames = word_at x 3; dot3_stats_sqe_test_errors = word_at x 4; dot3_stats_deferred_transmissions = word_at x 5; dot3_stats_late_collisions = word_at x 6; dot3_stats_excessive_collisions = word_at x 7; dot3_stats_internal_mac_transmit_errors = word_at x 8; dot3_stats_carrier_sense_errors = word_at x 9; dot3_stats_frame_too_longs = word_at x 10; dot3_stats_internal_mac_receive_errors = word_at x 11; dot3_stats_symbol_errors = word_at x 12 } }) (λ r. refl)

pub token_ring_counters_lossless : Lossless (λ (r : Reading TokenRingCounters). answer_of r.outcome (token_ring_counters r.fields))
token_ring_counters_lossless = got_back (λ (x : Fields). record { outcome = outcome_of x; fields = record { dot5_stats_line_errors = word_at x 0; dot5_stats_burst_errors = word_at x 1; dot5_stats_ac_errors = word_at x 2; dot5_stats_abort_trans_errors = word_at x 3; dot5_stats_internal_errors = word_at x 4; dot5_stats_lost_frame_errors = word_at x 5; dot5_stats_receive_congestions = word_at x 6; dot5_stats_frame_copied_errors = word_at x 7; dot5_stats_token_errors = word_at x 8; dot5_stats_soft_errors = word_at x 9; dot5_stats_hard_errors = word_at x 10; dot5_stats_signal_loss = word_at x 11; dot5_stats_transmit_beacons = word_at x 12; dot5_stats_recoverys = word_at x 13; dot5_stats_lobe_wires = word_at x 14; dot5_stats_removes = word_at x 15; dot5_stats_singles = word_at x 16; dot5_stats_freq_errors = word_at x 17 } }) (λ r. refl)

pub vg100_interface_counters_lossless : Lossless (λ (r : Reading Vg100InterfaceCounters). answer_of r.outcome (vg100_interface_counters r.fields))
vg100_interface_counters_lossless = got_back (λ (x : Fields). record { outcome = outcome_of x; fields = record { dot12_in_high_priority_frames = word_at x 0; dot12_in_high_priority_octets = word_at x 1; dot12_in_norm_priority_frames = word_at x 2; dot12_in_norm_priority_octets = word_at x 3; dot12_in_ipm_errors = word_at x 4; dot12_in_oversize_frame_errors = word_at x 5; dot12_in_data_errors = word_at x 6; dot12_in_null_addressed_frames = word_at x 7; dot12_out_high_priority_frames = word_at x 8; dot12_out_high_priority_octets = word_at x 9; dot12_transition_into_trainings = word_at x 10; dot12_hc_in_high_priority_octets = word_at x 11; dot12_hc_in_norm_priority_octets = word_at x 12; dot12_hc_out_high_priority_octets = word_at x 13 } }) (λ r. refl)

pub vlan_counters_lossless : Lossless (λ (r : Reading VlanCounters). answer_of r.outcome (vlan_counters r.fields))
vlan_counters_lossless = got_back (λ (x : Fields). record { outcome = outcome_of x; fields = record { vlan_id = word_at x 0; octets = word_at x 1; ucast_pkts = word_at x 2; multicast_pkts = word_at x 3; broadcast_pkts = word_at x 4; discards = word_at x 5 } }) (λ r. refl)

pub processor_counters_lossless : Lossless (λ (r : Reading ProcessorCounters). answer_of r.outcome (processor_counters r.fields))
processor_counters_lossless = got_back (λ (x : Fields). record { outcome = outcome_of x; fields = record { cpu_5s = word_at x 0; cpu_1m = word_at x 1; cpu_5m = word_at x 2; total_memory = word_at x 3; free_memory = word_at x 4 } }) (λ r. refl)

-- made by layouts/make: to here
