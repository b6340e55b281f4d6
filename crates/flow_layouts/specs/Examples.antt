-- Made by tests/examples/make, from the memo's structures: the flow records by the names of their fields, as the
-- examples of `reading` have them. Assumes nothing.
use Rattle.std.specs.Prelude.{◌≡◌, refl, List, [], ◌∷◌, map}
use Rattle.reading.specs.Examples.{Result, of_fields, Example, flow_records}
use Rattle.xdr.specs.Shown.{answer_of}
use Rattle.layout.specs.declared.record.Reading.{Reading}
use Rattle.flow_layouts.specs.Shown.{sampled_header, sampled_ethernet, sampled_ipv4, sampled_ipv6, extended_switch, extended_router, extended_gateway, extended_user, extended_url, extended_mpls, extended_nat, extended_mpls_tunnel, extended_mpls_vc, extended_mpls_fec, extended_mpls_lvp_fec, extended_vlan_tunnel, extended_80211_payload, extended_80211_rx, extended_80211_tx, extended_80211_aggregation}
use Rattle.flow_layouts.specs.declared.sampled.SampledHeader.{SampledHeader}
use Rattle.flow_layouts.specs.declared.sampled.SampledEthernet.{SampledEthernet}
use Rattle.flow_layouts.specs.declared.sampled.SampledIpv4.{SampledIpv4}
use Rattle.flow_layouts.specs.declared.sampled.SampledIpv6.{SampledIpv6}
use Rattle.flow_layouts.specs.declared.extended.ExtendedSwitch.{ExtendedSwitch}
use Rattle.flow_layouts.specs.declared.extended.ExtendedRouter.{ExtendedRouter}
use Rattle.flow_layouts.specs.declared.extended.ExtendedGateway.{ExtendedGateway}
use Rattle.flow_layouts.specs.declared.extended.ExtendedUser.{ExtendedUser}
use Rattle.flow_layouts.specs.declared.extended.ExtendedUrl.{ExtendedUrl}
use Rattle.flow_layouts.specs.declared.mpls.ExtendedMpls.{ExtendedMpls}
use Rattle.flow_layouts.specs.declared.extended.ExtendedNat.{ExtendedNat}
use Rattle.flow_layouts.specs.declared.mpls.ExtendedMplsTunnel.{ExtendedMplsTunnel}
use Rattle.flow_layouts.specs.declared.mpls.ExtendedMplsVc.{ExtendedMplsVc}
use Rattle.flow_layouts.specs.declared.mpls.ExtendedMplsFec.{ExtendedMplsFec}
use Rattle.flow_layouts.specs.declared.mpls.ExtendedMplsLvpFec.{ExtendedMplsLvpFec}
use Rattle.flow_layouts.specs.declared.extended.ExtendedVlanTunnel.{ExtendedVlanTunnel}
use Rattle.flow_layouts.specs.declared.wireless.Extended80211Payload.{Extended80211Payload}
use Rattle.flow_layouts.specs.declared.wireless.Extended80211Rx.{Extended80211Rx}
use Rattle.flow_layouts.specs.declared.wireless.Extended80211Tx.{Extended80211Tx}
use Rattle.flow_layouts.specs.declared.wireless.Extended80211Aggregation.{Extended80211Aggregation}

-- sampled_header, format 1
flow_1 : Reading SampledHeader
flow_1 = record { outcome = record { code = 0; at = 28; steps = 4 }; fields = record { protocol = 11; frame_length = 0x11121314; stripped = 0x15161718; header = record { start = 20; count = 5 } } }

-- sampled_ethernet, format 2
flow_2 : Reading SampledEthernet
flow_2 = record { outcome = record { code = 0; at = 28; steps = 4 }; fields = record { length = 0x11121314; src_mac = (0x15 ∷ 0x16 ∷ 0x17 ∷ 0x18 ∷ 0x19 ∷ 0x1a ∷ []); dst_mac = (0x1d ∷ 0x1e ∷ 0x1f ∷ 0x20 ∷ 0x21 ∷ 0x22 ∷ []); eth_type = 0x25262728 } }

-- sampled_ipv4, format 3
flow_3 : Reading SampledIpv4
flow_3 = record { outcome = record { code = 0; at = 36; steps = 8 }; fields = record { length = 0x11121314; protocol = 0x15161718; src_ip = 0x191a1b1c; dst_ip = 0x1d1e1f20; src_port = 0x21222324; dst_port = 0x25262728; tcp_flags = 0x292a2b2c; tos = 0x2d2e2f30 } }

-- sampled_ipv6, format 4
flow_4 : Reading SampledIpv6
flow_4 = record { outcome = record { code = 0; at = 60; steps = 8 }; fields = record { length = 0x11121314; protocol = 0x15161718; src_ip = (0x19 ∷ 0x1a ∷ 0x1b ∷ 0x1c ∷ 0x1d ∷ 0x1e ∷ 0x1f ∷ 0x20 ∷ 0x21 ∷ 0x22 ∷ 0x23 ∷ 0x24 ∷ 0x25 ∷ 0x26 ∷ 0x27 ∷ 0x28 ∷ []); dst_ip = (0x29 ∷ 0x2a ∷ 0x2b ∷ 0x2c ∷ 0x2d ∷ 0x2e ∷ 0x2f ∷ 0x30 ∷ 0x31 ∷ 0x32 ∷ 0x33 ∷ 0x34 ∷ 0x35 ∷ 0x36 ∷ 0x37 ∷ 0x38 ∷ []); src_port = 0x393a3b3c; dst_port = 0x3d3e3f40; tcp_flags = 0x41424344; priority = 0x45464748 } }

-- extended_switch, format 1001
flow_1001 : Reading ExtendedSwitch
flow_1001 = record { outcome = record { code = 0; at = 20; steps = 4 }; fields = record { src_vlan = 0x11121314; src_priority = 0x15161718; dst_vlan = 0x191a1b1c; dst_priority = 0x1d1e1f20 } }

-- extended_router, format 1002
flow_1002 : Reading ExtendedRouter
flow_1002 = record { outcome = record { code = 0; at = 20; steps = 4 }; fields = record { next_hop = record { kind = 1; bytes = (0x11 ∷ 0x12 ∷ 0x13 ∷ 0x14 ∷ 0 ∷ 0 ∷ 0 ∷ 0 ∷ 0 ∷ 0 ∷ 0 ∷ 0 ∷ 0 ∷ 0 ∷ 0 ∷ 0 ∷ []) }; src_mask_len = 0x15161718; dst_mask_len = 0x191a1b1c } }

-- extended_gateway, format 1003
flow_1003 : Reading ExtendedGateway
flow_1003 = record { outcome = record { code = 0; at = 100; steps = 21 }; fields = record { next_hop = record { kind = 2; bytes = (0x11 ∷ 0x12 ∷ 0x13 ∷ 0x14 ∷ 0x15 ∷ 0x16 ∷ 0x17 ∷ 0x18 ∷ 0x19 ∷ 0x1a ∷ 0x1b ∷ 0x1c ∷ 0x1d ∷ 0x1e ∷ 0x1f ∷ 0x20 ∷ []) }; as_number = 0x21222324; src_as = 0x25262728; src_peer_as = 0x292a2b2c; dst_as_path = record { start = 40; count = 2 }; communities = record { start = 80; count = 4 }; local_pref = 0x51525354 } }

-- extended_user, format 1004
flow_1004 : Reading ExtendedUser
flow_1004 = record { outcome = record { code = 0; at = 36; steps = 4 }; fields = record { src_charset = 0x11121314; src_user = record { start = 12; count = 5 }; dst_charset = 0x15161718; dst_user = record { start = 28; count = 6 } } }

-- extended_url, format 1005
flow_1005 : Reading ExtendedUrl
flow_1005 = record { outcome = record { code = 0; at = 32; steps = 3 }; fields = record { direction = 0x11121314; url = record { start = 12; count = 5 }; host = record { start = 24; count = 6 } } }

-- extended_mpls, format 1006
flow_1006 : Reading ExtendedMpls
flow_1006 = record { outcome = record { code = 0; at = 40; steps = 9 }; fields = record { next_hop = record { kind = 1; bytes = (0x11 ∷ 0x12 ∷ 0x13 ∷ 0x14 ∷ 0 ∷ 0 ∷ 0 ∷ 0 ∷ 0 ∷ 0 ∷ 0 ∷ 0 ∷ 0 ∷ 0 ∷ 0 ∷ 0 ∷ []) }; in_stack = record { start = 16; count = 2 }; out_stack = record { start = 28; count = 3 } } }

-- extended_nat, format 1007
flow_1007 : Reading ExtendedNat
flow_1007 = record { outcome = record { code = 0; at = 32; steps = 4 }; fields = record { src_address = record { kind = 1; bytes = (0x11 ∷ 0x12 ∷ 0x13 ∷ 0x14 ∷ 0 ∷ 0 ∷ 0 ∷ 0 ∷ 0 ∷ 0 ∷ 0 ∷ 0 ∷ 0 ∷ 0 ∷ 0 ∷ 0 ∷ []) }; dst_address = record { kind = 2; bytes = (0x15 ∷ 0x16 ∷ 0x17 ∷ 0x18 ∷ 0x19 ∷ 0x1a ∷ 0x1b ∷ 0x1c ∷ 0x1d ∷ 0x1e ∷ 0x1f ∷ 0x20 ∷ 0x21 ∷ 0x22 ∷ 0x23 ∷ 0x24 ∷ []) } } }

-- extended_mpls_tunnel, format 1008
flow_1008 : Reading ExtendedMplsTunnel
flow_1008 = record { outcome = record { code = 0; at = 24; steps = 3 }; fields = record { tunnel_lsp_name = record { start = 8; count = 5 }; tunnel_id = 0x11121314; tunnel_cos = 0x15161718 } }

-- extended_mpls_vc, format 1009
flow_1009 : Reading ExtendedMplsVc
flow_1009 = record { outcome = record { code = 0; at = 28; steps = 4 }; fields = record { vc_instance_name = record { start = 8; count = 5 }; vll_vc_id = 0x11121314; vc_label = 0x15161718; vc_cos = 0x191a1b1c } }

-- extended_mpls_fec, format 1010
flow_1010 : Reading ExtendedMplsFec
flow_1010 = record { outcome = record { code = 0; at = 28; steps = 3 }; fields = record { fec_addr_prefix = record { kind = 2; bytes = (0x11 ∷ 0x12 ∷ 0x13 ∷ 0x14 ∷ 0x15 ∷ 0x16 ∷ 0x17 ∷ 0x18 ∷ 0x19 ∷ 0x1a ∷ 0x1b ∷ 0x1c ∷ 0x1d ∷ 0x1e ∷ 0x1f ∷ 0x20 ∷ []) }; fec_prefix_len = 0x21222324 } }

-- extended_mpls_lvp_fec, format 1011
flow_1011 : Reading ExtendedMplsLvpFec
flow_1011 = record { outcome = record { code = 0; at = 8; steps = 1 }; fields = record { mpls_fec_addr_prefix_length = 0x11121314 } }

-- extended_vlan_tunnel, format 1012
flow_1012 : Reading ExtendedVlanTunnel
flow_1012 = record { outcome = record { code = 0; at = 16; steps = 3 }; fields = record { stack = record { start = 8; count = 2 } } }

-- extended_80211_payload, format 1013
flow_1013 : Reading Extended80211Payload
flow_1013 = record { outcome = record { code = 0; at = 20; steps = 2 }; fields = record { cipher_suite = 0x11121314; «data» = record { start = 12; count = 5 } } }

-- extended_80211_rx, format 1014
flow_1014 : Reading Extended80211Rx
flow_1014 = record { outcome = record { code = 0; at = 52; steps = 8 }; fields = record { ssid = record { start = 8; count = 5 }; bssid = (0x11 ∷ 0x12 ∷ 0x13 ∷ 0x14 ∷ 0x15 ∷ 0x16 ∷ []); version = 0x191a1b1c; channel = 0x1d1e1f20; speed = 0x2122232425262728; rsni = 0x292a2b2c; rcpi = 0x2d2e2f30; packet_duration = 0x31323334 } }

-- extended_80211_tx, format 1015
flow_1015 : Reading Extended80211Tx
flow_1015 = record { outcome = record { code = 0; at = 56; steps = 9 }; fields = record { ssid = record { start = 8; count = 5 }; bssid = (0x11 ∷ 0x12 ∷ 0x13 ∷ 0x14 ∷ 0x15 ∷ 0x16 ∷ []); version = 0x191a1b1c; transmissions = 0x1d1e1f20; packet_duration = 0x21222324; retrans_duration = 0x25262728; channel = 0x292a2b2c; speed = 0x2d2e2f3031323334; power = 0x35363738 } }

-- extended_80211_aggregation, format 1016
flow_1016 : Reading Extended80211Aggregation
flow_1016 = record { outcome = record { code = 0; at = 8; steps = 1 }; fields = record { pdu_count = 0x11121314 } }

-- what they are in the terms of the reading
pub shown : List Result
unfolding flow_1 flow_2 flow_3 flow_4 flow_1001 flow_1002 flow_1003 flow_1004 flow_1005 flow_1006 flow_1007 flow_1008 flow_1009 flow_1010 flow_1011 flow_1012 flow_1013 flow_1014 flow_1015 flow_1016
shown =
    of_fields (answer_of flow_1.outcome (sampled_header flow_1.fields))
    ∷ of_fields (answer_of flow_2.outcome (sampled_ethernet flow_2.fields))
    ∷ of_fields (answer_of flow_3.outcome (sampled_ipv4 flow_3.fields))
    ∷ of_fields (answer_of flow_4.outcome (sampled_ipv6 flow_4.fields))
    ∷ of_fields (answer_of flow_1001.outcome (extended_switch flow_1001.fields))
    ∷ of_fields (answer_of flow_1002.outcome (extended_router flow_1002.fields))
    ∷ of_fields (answer_of flow_1003.outcome (extended_gateway flow_1003.fields))
    ∷ of_fields (answer_of flow_1004.outcome (extended_user flow_1004.fields))
    ∷ of_fields (answer_of flow_1005.outcome (extended_url flow_1005.fields))
    ∷ of_fields (answer_of flow_1006.outcome (extended_mpls flow_1006.fields))
    ∷ of_fields (answer_of flow_1007.outcome (extended_nat flow_1007.fields))
    ∷ of_fields (answer_of flow_1008.outcome (extended_mpls_tunnel flow_1008.fields))
    ∷ of_fields (answer_of flow_1009.outcome (extended_mpls_vc flow_1009.fields))
    ∷ of_fields (answer_of flow_1010.outcome (extended_mpls_fec flow_1010.fields))
    ∷ of_fields (answer_of flow_1011.outcome (extended_mpls_lvp_fec flow_1011.fields))
    ∷ of_fields (answer_of flow_1012.outcome (extended_vlan_tunnel flow_1012.fields))
    ∷ of_fields (answer_of flow_1013.outcome (extended_80211_payload flow_1013.fields))
    ∷ of_fields (answer_of flow_1014.outcome (extended_80211_rx flow_1014.fields))
    ∷ of_fields (answer_of flow_1015.outcome (extended_80211_tx flow_1015.fields))
    ∷ of_fields (answer_of flow_1016.outcome (extended_80211_aggregation flow_1016.fields))
    ∷ []

pub the_names_hold : shown ≡ map (λ (e : Example). e.result) flow_records
unfolding shown flow_records
the_names_hold = refl
