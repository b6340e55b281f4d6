-- What each field reading's own contract says of its result, as in `Contracts`: `s` is the input, `w` a descriptor's words. Assumes nothing.
use Rattle.reading.specs.Layout.{memo}
use Rattle.xdr.specs.Shown.{answer_of}
use Rattle.xdr.proofs.Settles.{Settles, settled}
use Rattle.fields.specs.Shown.{read_at}
use Rattle.host.proofs as call
-- made by layouts/make from layouts/table: from here
use Rattle.counters.specs.Shown.{generic_interface_counters, ethernet_interface_counters, token_ring_counters, vg100_interface_counters, vlan_counters, processor_counters}
use Rattle.datagram.specs.Shown.{header_fields}
use Rattle.flow_layouts.specs.Shown.{sampled_header, sampled_ethernet, sampled_ipv4, sampled_ipv6, extended_switch, extended_router, extended_gateway, extended_user, extended_url, extended_mpls, extended_nat, extended_mpls_tunnel, extended_mpls_vc, extended_mpls_fec, extended_mpls_lvp_fec, extended_vlan_tunnel, extended_80211_payload, extended_80211_rx, extended_80211_tx, extended_80211_aggregation}
use Rattle.samples.specs.Shown.{flow_sample, counters_sample, flow_sample_expanded, counters_sample_expanded, discarded_packet}
use Rattle.host.proofs.Lossless.{header_lossless, flow_sample_lossless, counters_sample_lossless, flow_sample_expanded_lossless, counters_sample_expanded_lossless, discarded_packet_lossless, sampled_header_lossless, sampled_ethernet_lossless, sampled_ipv4_lossless, sampled_ipv6_lossless, extended_switch_lossless, extended_router_lossless, extended_gateway_lossless, extended_user_lossless, extended_url_lossless, extended_mpls_lossless, extended_nat_lossless, extended_mpls_tunnel_lossless, extended_mpls_vc_lossless, extended_mpls_fec_lossless, extended_mpls_lvp_fec_lossless, extended_vlan_tunnel_lossless, extended_80211_payload_lossless, extended_80211_rx_lossless, extended_80211_tx_lossless, extended_80211_aggregation_lossless, generic_interface_counters_lossless, ethernet_interface_counters_lossless, token_ring_counters_lossless, vg100_interface_counters_lossless, vlan_counters_lossless, processor_counters_lossless}

module _ (κs s w : _) where
  pub read_header_settled : Settles (call.heads.latchplume_read_header.Reads.Learnt κs (s, (w, tt))) (λ r. answer_of r.outcome (header_fields r.fields)) (read_at memo 0 0 s.now w.now)
  read_header_settled = settled header_lossless

  pub read_flow_sample_settled : Settles (call.heads.latchplume_read_flow_sample.Reads.Learnt κs (s, (w, tt))) (λ r. answer_of r.outcome (flow_sample r.fields)) (read_at memo 1 1 s.now w.now)
  read_flow_sample_settled = settled flow_sample_lossless

  pub read_counters_sample_settled : Settles (call.heads.latchplume_read_counters_sample.Reads.Learnt κs (s, (w, tt))) (λ r. answer_of r.outcome (counters_sample r.fields)) (read_at memo 1 2 s.now w.now)
  read_counters_sample_settled = settled counters_sample_lossless

  pub read_flow_sample_expanded_settled : Settles (call.heads.latchplume_read_flow_sample_expanded.Reads.Learnt κs (s, (w, tt))) (λ r. answer_of r.outcome (flow_sample_expanded r.fields)) (read_at memo 1 3 s.now w.now)
  read_flow_sample_expanded_settled = settled flow_sample_expanded_lossless

  pub read_counters_sample_expanded_settled : Settles (call.heads.latchplume_read_counters_sample_expanded.Reads.Learnt κs (s, (w, tt))) (λ r. answer_of r.outcome (counters_sample_expanded r.fields)) (read_at memo 1 4 s.now w.now)
  read_counters_sample_expanded_settled = settled counters_sample_expanded_lossless

  pub read_discarded_packet_settled : Settles (call.heads.latchplume_read_discarded_packet.Reads.Learnt κs (s, (w, tt))) (λ r. answer_of r.outcome (discarded_packet r.fields)) (read_at memo 1 5 s.now w.now)
  read_discarded_packet_settled = settled discarded_packet_lossless

  pub read_sampled_header_settled : Settles (call.sampled.latchplume_read_sampled_header.Reads.Learnt κs (s, (w, tt))) (λ r. answer_of r.outcome (sampled_header r.fields)) (read_at memo 2 1 s.now w.now)
  read_sampled_header_settled = settled sampled_header_lossless

  pub read_sampled_ethernet_settled : Settles (call.sampled.latchplume_read_sampled_ethernet.Reads.Learnt κs (s, (w, tt))) (λ r. answer_of r.outcome (sampled_ethernet r.fields)) (read_at memo 2 2 s.now w.now)
  read_sampled_ethernet_settled = settled sampled_ethernet_lossless

  pub read_sampled_ipv4_settled : Settles (call.sampled.latchplume_read_sampled_ipv4.Reads.Learnt κs (s, (w, tt))) (λ r. answer_of r.outcome (sampled_ipv4 r.fields)) (read_at memo 2 3 s.now w.now)
  read_sampled_ipv4_settled = settled sampled_ipv4_lossless

  pub read_sampled_ipv6_settled : Settles (call.sampled.latchplume_read_sampled_ipv6.Reads.Learnt κs (s, (w, tt))) (λ r. answer_of r.outcome (sampled_ipv6 r.fields)) (read_at memo 2 4 s.now w.now)
  read_sampled_ipv6_settled = settled sampled_ipv6_lossless

  pub read_extended_switch_settled : Settles (call.extended.latchplume_read_extended_switch.Reads.Learnt κs (s, (w, tt))) (λ r. answer_of r.outcome (extended_switch r.fields)) (read_at memo 2 1001 s.now w.now)
  read_extended_switch_settled = settled extended_switch_lossless

  pub read_extended_router_settled : Settles (call.extended.latchplume_read_extended_router.Reads.Learnt κs (s, (w, tt))) (λ r. answer_of r.outcome (extended_router r.fields)) (read_at memo 2 1002 s.now w.now)
  read_extended_router_settled = settled extended_router_lossless

  pub read_extended_gateway_settled : Settles (call.extended.latchplume_read_extended_gateway.Reads.Learnt κs (s, (w, tt))) (λ r. answer_of r.outcome (extended_gateway r.fields)) (read_at memo 2 1003 s.now w.now)
  read_extended_gateway_settled = settled extended_gateway_lossless

  pub read_extended_user_settled : Settles (call.extended.latchplume_read_extended_user.Reads.Learnt κs (s, (w, tt))) (λ r. answer_of r.outcome (extended_user r.fields)) (read_at memo 2 1004 s.now w.now)
  read_extended_user_settled = settled extended_user_lossless

  pub read_extended_url_settled : Settles (call.extended.latchplume_read_extended_url.Reads.Learnt κs (s, (w, tt))) (λ r. answer_of r.outcome (extended_url r.fields)) (read_at memo 2 1005 s.now w.now)
  read_extended_url_settled = settled extended_url_lossless

  pub read_extended_mpls_settled : Settles (call.mpls.latchplume_read_extended_mpls.Reads.Learnt κs (s, (w, tt))) (λ r. answer_of r.outcome (extended_mpls r.fields)) (read_at memo 2 1006 s.now w.now)
  read_extended_mpls_settled = settled extended_mpls_lossless

  pub read_extended_nat_settled : Settles (call.extended.latchplume_read_extended_nat.Reads.Learnt κs (s, (w, tt))) (λ r. answer_of r.outcome (extended_nat r.fields)) (read_at memo 2 1007 s.now w.now)
  read_extended_nat_settled = settled extended_nat_lossless

  pub read_extended_mpls_tunnel_settled : Settles (call.mpls.latchplume_read_extended_mpls_tunnel.Reads.Learnt κs (s, (w, tt))) (λ r. answer_of r.outcome (extended_mpls_tunnel r.fields)) (read_at memo 2 1008 s.now w.now)
  read_extended_mpls_tunnel_settled = settled extended_mpls_tunnel_lossless

  pub read_extended_mpls_vc_settled : Settles (call.mpls.latchplume_read_extended_mpls_vc.Reads.Learnt κs (s, (w, tt))) (λ r. answer_of r.outcome (extended_mpls_vc r.fields)) (read_at memo 2 1009 s.now w.now)
  read_extended_mpls_vc_settled = settled extended_mpls_vc_lossless

  pub read_extended_mpls_fec_settled : Settles (call.mpls.latchplume_read_extended_mpls_fec.Reads.Learnt κs (s, (w, tt))) (λ r. answer_of r.outcome (extended_mpls_fec r.fields)) (read_at memo 2 1010 s.now w.now)
  read_extended_mpls_fec_settled = settled extended_mpls_fec_lossless

  pub read_extended_mpls_lvp_fec_settled : Settles (call.mpls.latchplume_read_extended_mpls_lvp_fec.Reads.Learnt κs (s, (w, tt))) (λ r. answer_of r.outcome (extended_mpls_lvp_fec r.fields)) (read_at memo 2 1011 s.now w.now)
  read_extended_mpls_lvp_fec_settled = settled extended_mpls_lvp_fec_lossless

  pub read_extended_vlan_tunnel_settled : Settles (call.extended.latchplume_read_extended_vlan_tunnel.Reads.Learnt κs (s, (w, tt))) (λ r. answer_of r.outcome (extended_vlan_tunnel r.fields)) (read_at memo 2 1012 s.now w.now)
  read_extended_vlan_tunnel_settled = settled extended_vlan_tunnel_lossless

  pub read_extended_80211_payload_settled : Settles (call.wireless.latchplume_read_extended_80211_payload.Reads.Learnt κs (s, (w, tt))) (λ r. answer_of r.outcome (extended_80211_payload r.fields)) (read_at memo 2 1013 s.now w.now)
  read_extended_80211_payload_settled = settled extended_80211_payload_lossless

  pub read_extended_80211_rx_settled : Settles (call.wireless.latchplume_read_extended_80211_rx.Reads.Learnt κs (s, (w, tt))) (λ r. answer_of r.outcome (extended_80211_rx r.fields)) (read_at memo 2 1014 s.now w.now)
  read_extended_80211_rx_settled = settled extended_80211_rx_lossless

  pub read_extended_80211_tx_settled : Settles (call.wireless.latchplume_read_extended_80211_tx.Reads.Learnt κs (s, (w, tt))) (λ r. answer_of r.outcome (extended_80211_tx r.fields)) (read_at memo 2 1015 s.now w.now)
  read_extended_80211_tx_settled = settled extended_80211_tx_lossless

  pub read_extended_80211_aggregation_settled : Settles (call.wireless.latchplume_read_extended_80211_aggregation.Reads.Learnt κs (s, (w, tt))) (λ r. answer_of r.outcome (extended_80211_aggregation r.fields)) (read_at memo 2 1016 s.now w.now)
  read_extended_80211_aggregation_settled = settled extended_80211_aggregation_lossless

  pub read_generic_interface_counters_settled : Settles (call.polled.latchplume_read_generic_interface_counters.Reads.Learnt κs (s, (w, tt))) (λ r. answer_of r.outcome (generic_interface_counters r.fields)) (read_at memo 3 1 s.now w.now)
  read_generic_interface_counters_settled = settled generic_interface_counters_lossless

  pub read_ethernet_interface_counters_settled : Settles (call.polled.latchplume_read_ethernet_interface_counters.Reads.Learnt κs (s, (w, tt))) (λ r. answer_of r.outcome (ethernet_interface_counters r.fields)) (read_at memo 3 2 s.now w.now)
  read_ethernet_interface_counters_settled = settled ethernet_interface_counters_lossless

  pub read_token_ring_counters_settled : Settles (call.polled.latchplume_read_token_ring_counters.Reads.Learnt κs (s, (w, tt))) (λ r. answer_of r.outcome (token_ring_counters r.fields)) (read_at memo 3 3 s.now w.now)
  read_token_ring_counters_settled = settled token_ring_counters_lossless

  pub read_vg100_interface_counters_settled : Settles (call.polled.latchplume_read_vg100_interface_counters.Reads.Learnt κs (s, (w, tt))) (λ r. answer_of r.outcome (vg100_interface_counters r.fields)) (read_at memo 3 4 s.now w.now)
  read_vg100_interface_counters_settled = settled vg100_interface_counters_lossless

  pub read_vlan_counters_settled : Settles (call.polled.latchplume_read_vlan_counters.Reads.Learnt κs (s, (w, tt))) (λ r. answer_of r.outcome (vlan_counters r.fields)) (read_at memo 3 5 s.now w.now)
  read_vlan_counters_settled = settled vlan_counters_lossless

  pub read_processor_counters_settled : Settles (call.polled.latchplume_read_processor_counters.Reads.Learnt κs (s, (w, tt))) (λ r. answer_of r.outcome (processor_counters r.fields)) (read_at memo 3 1001 s.now w.now)
  read_processor_counters_settled = settled processor_counters_lossless

-- made by layouts/make: to here
