-- What this crate's records are in terms of the reading: the values of their fields, in the order of the layout. Assumes nothing.
use Rattle.std.specs.Prelude.{List, [], ◌∷◌}
use Rattle.reading.specs.Script.{Value, number, octets, part}
use Rattle.xdr.specs.Shown.{span, an_address}
-- made by layouts/make from layouts/table: from here
use Rattle.flow_layouts.specs.declared.sampled.SampledHeader.{SampledHeader}
use Rattle.flow_layouts.specs.declared.sampled.SampledEthernet.{SampledEthernet}
use Rattle.flow_layouts.specs.declared.sampled.SampledIpv4.{SampledIpv4}
use Rattle.flow_layouts.specs.declared.sampled.SampledIpv6.{SampledIpv6}
use Rattle.flow_layouts.specs.declared.extended.ExtendedSwitch.{ExtendedSwitch}
use Rattle.flow_layouts.specs.declared.extended.ExtendedRouter.{ExtendedRouter}
use Rattle.flow_layouts.specs.declared.extended.ExtendedGateway.{ExtendedGateway}
use Rattle.flow_layouts.specs.declared.extended.ExtendedUser.{ExtendedUser}
use Rattle.flow_layouts.specs.declared.extended.ExtendedUrl.{ExtendedUrl}
use Rattle.flow_layouts.specs.declared.mpls.ExtendedMpls.{ExtendedMpls}
use Rattle.flow_layouts.specs.declared.extended.ExtendedNat.{ExtendedNat}
use Rattle.flow_layouts.specs.declared.mpls.ExtendedMplsTunnel.{ExtendedMplsTunnel}
use Rattle.flow_layouts.specs.declared.mpls.ExtendedMplsVc.{ExtendedMplsVc}
use Rattle.flow_layouts.specs.declared.mpls.ExtendedMplsFec.{ExtendedMplsFec}
use Rattle.flow_layouts.specs.declared.mpls.ExtendedMplsLvpFec.{ExtendedMplsLvpFec}
use Rattle.flow_layouts.specs.declared.extended.ExtendedVlanTunnel.{ExtendedVlanTunnel}
use Rattle.flow_layouts.specs.declared.wireless.Extended80211Payload.{Extended80211Payload}
use Rattle.flow_layouts.specs.declared.wireless.Extended80211Rx.{Extended80211Rx}
use Rattle.flow_layouts.specs.declared.wireless.Extended80211Tx.{Extended80211Tx}
use Rattle.flow_layouts.specs.declared.wireless.Extended80211Aggregation.{Extended80211Aggregation}

abbrev pub sampled_header : SampledHeader → List Value
sampled_header r = number r.protocol ∷ number r.frame_length ∷ number r.stripped ∷ part (span r.header) ∷ []

abbrev pub sampled_ethernet : SampledEthernet → List Value
sampled_ethernet r = number r.length ∷ octets r.src_mac ∷ octets r.dst_mac ∷ number r.eth_type ∷ []

abbrev pub sampled_ipv4 : SampledIpv4 → List Value
sampled_ipv4 r = number r.length ∷ number r.protocol ∷ number r.src_ip ∷ number r.dst_ip ∷ number r.src_port ∷ number r.dst_port ∷ number r.tcp_flags ∷ number r.tos ∷ []

abbrev pub sampled_ipv6 : SampledIpv6 → List Value
sampled_ipv6 r = number r.length ∷ number r.protocol ∷ octets r.src_ip ∷ octets r.dst_ip ∷ number r.src_port ∷ number r.dst_port ∷ number r.tcp_flags ∷ number r.priority ∷ []

abbrev pub extended_switch : ExtendedSwitch → List Value
extended_switch r = number r.src_vlan ∷ number r.src_priority ∷ number r.dst_vlan ∷ number r.dst_priority ∷ []

abbrev pub extended_router : ExtendedRouter → List Value
extended_router r = an_address r.next_hop ∷ number r.src_mask_len ∷ number r.dst_mask_len ∷ []

abbrev pub extended_gateway : ExtendedGateway → List Value
extended_gateway r = an_address r.next_hop ∷ number r.as_number ∷ number r.src_as ∷ number r.src_peer_as ∷ part (span r.dst_as_path) ∷ part (span r.communities) ∷ number r.local_pref ∷ []

abbrev pub extended_user : ExtendedUser → List Value
extended_user r = number r.src_charset ∷ part (span r.src_user) ∷ number r.dst_charset ∷ part (span r.dst_user) ∷ []

abbrev pub extended_url : ExtendedUrl → List Value
extended_url r = number r.direction ∷ part (span r.url) ∷ part (span r.host) ∷ []

abbrev pub extended_mpls : ExtendedMpls → List Value
extended_mpls r = an_address r.next_hop ∷ part (span r.in_stack) ∷ part (span r.out_stack) ∷ []

abbrev pub extended_nat : ExtendedNat → List Value
extended_nat r = an_address r.src_address ∷ an_address r.dst_address ∷ []

abbrev pub extended_mpls_tunnel : ExtendedMplsTunnel → List Value
extended_mpls_tunnel r = part (span r.tunnel_lsp_name) ∷ number r.tunnel_id ∷ number r.tunnel_cos ∷ []

abbrev pub extended_mpls_vc : ExtendedMplsVc → List Value
extended_mpls_vc r = part (span r.vc_instance_name) ∷ number r.vll_vc_id ∷ number r.vc_label ∷ number r.vc_cos ∷ []

abbrev pub extended_mpls_fec : ExtendedMplsFec → List Value
extended_mpls_fec r = an_address r.fec_addr_prefix ∷ number r.fec_prefix_len ∷ []

abbrev pub extended_mpls_lvp_fec : ExtendedMplsLvpFec → List Value
extended_mpls_lvp_fec r = number r.mpls_fec_addr_prefix_length ∷ []

abbrev pub extended_vlan_tunnel : ExtendedVlanTunnel → List Value
extended_vlan_tunnel r = part (span r.stack) ∷ []

abbrev pub extended_80211_payload : Extended80211Payload → List Value
extended_80211_payload r = number r.cipher_suite ∷ part (span r.«data») ∷ []

abbrev pub extended_80211_rx : Extended80211Rx → List Value
extended_80211_rx r = part (span r.ssid) ∷ octets r.bssid ∷ number r.version ∷ number r.channel ∷ number r.speed ∷ number r.rsni ∷ number r.rcpi ∷ number r.packet_duration ∷ []

abbrev pub extended_80211_tx : Extended80211Tx → List Value
extended_80211_tx r = part (span r.ssid) ∷ octets r.bssid ∷ number r.version ∷ number r.transmissions ∷ number r.packet_duration ∷ number r.retrans_duration ∷ number r.channel ∷ number r.speed ∷ number r.power ∷ []

abbrev pub extended_80211_aggregation : Extended80211Aggregation → List Value
extended_80211_aggregation r = number r.pdu_count ∷ []

-- made by layouts/make: to here
