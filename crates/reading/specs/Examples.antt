-- Made by tests/examples/make, from the memo's structures: an input for each layout, each sample, the header of a datagram and each kind of
-- refusal, in which every field has another value, and what is read of it, as one computed fact. Assumes nothing.
use Rattle.std.specs.Prelude.{ℕ, ◌/◌, ◌%◌, ◌≡◌, refl, Bool, true, false, List, [], ◌∷◌, ◌++◌, map, length, replicate}
use Rattle.reading.specs.Bytes.{be4, be8}
use Rattle.reading.specs.Utf8.{among, utf8, longest_to}
use Rattle.reading.specs.Numbers.{known, header_protocols}
use Rattle.reading.specs.Script.{Span, Value, number, octets, address, part}
use Rattle.reading.specs.Cursor.{read_item, follow}
use Rattle.reading.specs.Layout.{Mode, memo, base, address_of, run_of, field, fields, last_number, opened, flows, flow, counters, samples, datagram_to}
use Rattle.reading.specs.Values.{valued, reading}
use Rattle.reading.specs.Answer.{size, rows, Header, header_of, no_header, Answer, stored, one, tried, datagrams, run, layout_of, Fields, answered, read, Listed, list_word_of, segment_at, payload_span_of, whole_span_of}

-- ---- how an example is written

-- big-endian words, as a hex dump has them
w : List ℕ → List ℕ
w [] = []
w (v ∷ rest) = v / 16777216 ∷ v / 65536 % 256 ∷ v / 256 % 256 ∷ v % 256 ∷ w rest

-- an address of type 0, one of type 1 by its word, one of type 2 by its four
nowhere : Value
nowhere = address 0 (replicate 16 0)

v4 : ℕ → Value
unfolding w
v4 a = address 1 (w (a ∷ []) ++ replicate 12 0)

v6 : List ℕ → Value
unfolding w
v6 a = address 2 (w a)

-- an opaque, a string or a list that lies here: its first byte after the length or count word, and that length or count
lies : (start count : ℕ) → Value
lies a n = part (record { start = a; count = n })

desc : (kind format start extent parent depth first : ℕ) → List ℕ
desc k f s l p e o = k ∷ f ∷ s ∷ l ∷ p ∷ e ∷ o ∷ []

joined : List (List ℕ) → List ℕ
joined [] = []
joined (x ∷ xs) = x ++ joined xs

-- the header of a refusal, and of a run
blank : Header
blank = record { address_type = 0; address = replicate 16 0; sub_agent = 0; sequence = 0; uptime = 0; sample_count = 0 }

-- what a call answers: the fields of a descriptor; one datagram, or a run; where a payload lies, or all of a record; a word of a list
pub data Result : Type 0 where
  of_fields : Fields → Result
  of_input : Answer → Result
  of_span : Span → Result
  of_word : Listed → Result

pub record Example : Type 0 where
  pub call : Mode → List ℕ → Result
  pub input : List ℕ
  pub result : Result

-- an example of one mode alone; the others hold in each
in_mode : Mode → Example → Example
in_mode m e = record { call = λ _. e.call m; input = e.input; result = e.result }

-- a range that begins at byte 4: a word stands before it and one behind it, and what is read of them is wrong
around : List ℕ → List ℕ
unfolding w
around ws = w (0xe1e2e3e4 ∷ ws ++ 0xe5e6e7e8 ∷ [])

-- the fields of this kind and format, of a range of these words: accepted, with the position, the steps and the values
accepts : (kind format : ℕ) → (words : List ℕ) → (at steps : ℕ) → List Value → Example
unfolding w around
accepts k f ws a n vs = record {
  call = λ mode s. of_fields (read mode k f s k f 4 (length (w ws)));
  input = around ws;
  result = of_fields (record { code = 0; at = a; steps = n; values = vs });
}

-- the same of a range of so many bytes, of which some are left over
begins : (kind format : ℕ) → (words : List ℕ) → (extent at steps : ℕ) → List Value → Example
unfolding around
begins k f ws l a n vs = record {
  call = λ mode s. of_fields (read mode k f s k f 4 l);
  input = around ws;
  result = of_fields (record { code = 0; at = a; steps = n; values = vs });
}

-- the same, refused, with the code
refuses : (kind format : ℕ) → (words : List ℕ) → (extent code at steps : ℕ) → List Value → Example
unfolding around
refuses k f ws l c a n vs = record {
  call = λ mode s. of_fields (read mode k f s k f 4 l);
  input = around ws;
  result = of_fields (record { code = c; at = a; steps = n; values = vs });
}

-- the same of a descriptor of this kind and format, which may be others than those asked for
mistakes : (asked_kind asked_format kind format : ℕ) → (words : List ℕ) → (extent code at steps : ℕ) → List Value → Example
unfolding around
mistakes ak af k f ws l c a n vs = record {
  call = λ mode s. of_fields (read mode ak af s k f 4 l);
  input = around ws;
  result = of_fields (record { code = c; at = a; steps = n; values = vs });
}

-- the segment at byte 4
segment : (words : List ℕ) → (code at steps : ℕ) → List Value → Example
unfolding around
segment ws c a n vs = record {
  call = λ _ s. of_fields (segment_at s 4);
  input = around ws;
  result = of_fields (record { code = c; at = a; steps = n; values = vs });
}

-- the payload of a descriptor's range, and all of what it is the range of
pays : (words : List ℕ) → (start extent : ℕ) → (at count : ℕ) → Example
unfolding around
pays ws l n a c = record {
  call = λ _ s. of_span (payload_span_of s l n);
  input = around ws;
  result = of_span (record { start = a; count = c });
}

stands : (words : List ℕ) → (start extent first : ℕ) → (at count : ℕ) → Example
unfolding around
stands ws l n o a c = record {
  call = λ _ s. of_span (whole_span_of s l n o);
  input = around ws;
  result = of_span (record { start = a; count = c });
}

-- a word of a list
lists : (words : List ℕ) → (start count index : ℕ) → Bool → (value : ℕ) → Example
unfolding around
lists ws l n i there v = record {
  call = λ _ s. of_word (list_word_of s l n i);
  input = around ws;
  result = of_word (record { present = there; value = v });
}

-- a datagram of these words, with a store that its descriptors fill
decodes : (words : List ℕ) → (at steps needed : ℕ) → Header → List (List ℕ) → Example
unfolding w joined
decodes ws a n k head ds = record {
  call = λ mode s. of_input (one mode s (replicate (length (joined ds)) 165));
  input = w ws;
  result = of_input (record { code = 0; at = a; steps = n; needed = k; head = head; store = joined ds });
}

-- the same as a run, which has no header
runs : (words : List ℕ) → (at steps needed : ℕ) → List (List ℕ) → Example
unfolding w joined blank
runs ws a n k ds = record {
  call = λ mode s. of_input (run mode s (replicate (length (joined ds)) 165));
  input = w ws;
  result = of_input (record { code = 0; at = a; steps = n; needed = k; head = blank; store = joined ds });
}

-- a datagram of these words that is refused, with a store of so many words, which stay
stops : (words : List ℕ) → (room code at steps needed : ℕ) → Example
unfolding w blank
stops ws m c a n k = record {
  call = λ mode s. of_input (one mode s (replicate m 165));
  input = w ws;
  result = of_input (record { code = c; at = a; steps = n; needed = k; head = blank; store = replicate m 165 });
}

-- ---- the examples

-- the flow records
unfoldable pub flow_records : List Example
unfolding in_mode v4 v6 lies accepts
flow_records =
    -- sampled_header, format 1: protocol, frame_length, stripped, header
    accepts 2 1 (0x0000000b ∷ 0x11121314 ∷ 0x15161718 ∷ 0x00000005 ∷ 0x191a1b1c ∷ 0x1df1f2f3 ∷ [])
    28 4 (number 11 ∷ number 0x11121314 ∷ number 0x15161718 ∷ lies 20 5 ∷ [])
    -- sampled_ethernet, format 2: length, src_mac, dst_mac, eth_type
    ∷ in_mode memo (accepts 2 2 (0x11121314 ∷ 0x15161718 ∷ 0x191a1b1c ∷ 0x1d1e1f20 ∷ 0x21222324 ∷ 0x25262728 ∷ [])
    28 4 (number 0x11121314 ∷ octets (0x15 ∷ 0x16 ∷ 0x17 ∷ 0x18 ∷ 0x19 ∷ 0x1a ∷ []) ∷ octets (0x1d ∷ 0x1e ∷ 0x1f ∷ 0x20 ∷ 0x21 ∷ 0x22 ∷ []) ∷ number 0x25262728 ∷ []))
    -- sampled_ipv4, format 3: length, protocol, src_ip, dst_ip, src_port, dst_port, tcp_flags, tos
    ∷ accepts 2 3 (0x11121314 ∷ 0x15161718 ∷ 0x191a1b1c ∷ 0x1d1e1f20 ∷ 0x21222324 ∷ 0x25262728 ∷ 0x292a2b2c ∷ 0x2d2e2f30 ∷ [])
    36 8 (number 0x11121314 ∷ number 0x15161718 ∷ number 0x191a1b1c ∷ number 0x1d1e1f20 ∷ number 0x21222324 ∷ number 0x25262728 ∷ number 0x292a2b2c ∷ number 0x2d2e2f30 ∷ [])
    -- sampled_ipv6, format 4: length, protocol, src_ip, dst_ip, src_port, dst_port, tcp_flags, priority
    ∷ accepts 2 4 (0x11121314 ∷ 0x15161718 ∷ 0x191a1b1c ∷ 0x1d1e1f20 ∷ 0x21222324 ∷ 0x25262728 ∷ 0x292a2b2c ∷ 0x2d2e2f30 ∷ 0x31323334 ∷ 0x35363738 ∷ 0x393a3b3c ∷ 0x3d3e3f40 ∷ 0x41424344 ∷ 0x45464748 ∷ [])
    60 8 (number 0x11121314 ∷ number 0x15161718 ∷ octets (0x19 ∷ 0x1a ∷ 0x1b ∷ 0x1c ∷ 0x1d ∷ 0x1e ∷ 0x1f ∷ 0x20 ∷ 0x21 ∷ 0x22 ∷ 0x23 ∷ 0x24 ∷ 0x25 ∷ 0x26 ∷ 0x27 ∷ 0x28 ∷ []) ∷ octets (0x29 ∷ 0x2a ∷ 0x2b ∷ 0x2c ∷ 0x2d ∷ 0x2e ∷ 0x2f ∷ 0x30 ∷ 0x31 ∷ 0x32 ∷ 0x33 ∷ 0x34 ∷ 0x35 ∷ 0x36 ∷ 0x37 ∷ 0x38 ∷ []) ∷ number 0x393a3b3c ∷ number 0x3d3e3f40 ∷ number 0x41424344 ∷ number 0x45464748 ∷ [])
    -- extended_switch, format 1001: src_vlan, src_priority, dst_vlan, dst_priority
    ∷ accepts 2 1001 (0x11121314 ∷ 0x15161718 ∷ 0x191a1b1c ∷ 0x1d1e1f20 ∷ [])
    20 4 (number 0x11121314 ∷ number 0x15161718 ∷ number 0x191a1b1c ∷ number 0x1d1e1f20 ∷ [])
    -- extended_router, format 1002: next_hop, src_mask_len, dst_mask_len
    ∷ accepts 2 1002 (0x00000001 ∷ 0x11121314 ∷ 0x15161718 ∷ 0x191a1b1c ∷ [])
    20 4 (v4 0x11121314 ∷ number 0x15161718 ∷ number 0x191a1b1c ∷ [])
    -- extended_gateway, format 1003: next_hop, as_number, src_as, src_peer_as, dst_as_path, communities, local_pref
    ∷ accepts 2 1003 (0x00000002 ∷ 0x11121314 ∷ 0x15161718 ∷ 0x191a1b1c ∷ 0x1d1e1f20 ∷ 0x21222324 ∷ 0x25262728 ∷ 0x292a2b2c ∷ 0x00000002 ∷ 0x00000001 ∷ 0x00000002 ∷ 0x2d2e2f30 ∷ 0x31323334 ∷ 0x00000002 ∷ 0x00000003 ∷ 0x35363738 ∷ 0x393a3b3c ∷ 0x3d3e3f40 ∷ 0x00000004 ∷ 0x41424344 ∷ 0x45464748 ∷ 0x494a4b4c ∷ 0x4d4e4f50 ∷ 0x51525354 ∷ [])
    100 21 (v6 (0x11121314 ∷ 0x15161718 ∷ 0x191a1b1c ∷ 0x1d1e1f20 ∷ []) ∷ number 0x21222324 ∷ number 0x25262728 ∷ number 0x292a2b2c ∷ lies 40 2 ∷ lies 80 4 ∷ number 0x51525354 ∷ [])
    -- extended_user, format 1004: src_charset, src_user, dst_charset, dst_user
    ∷ accepts 2 1004 (0x11121314 ∷ 0x00000005 ∷ 0x61626364 ∷ 0x65f1f2f3 ∷ 0x15161718 ∷ 0x00000006 ∷ 0x66676869 ∷ 0x6a6bf1f2 ∷ [])
    36 4 (number 0x11121314 ∷ lies 12 5 ∷ number 0x15161718 ∷ lies 28 6 ∷ [])
    -- extended_url, format 1005: direction, url, host
    ∷ accepts 2 1005 (0x11121314 ∷ 0x00000005 ∷ 0x61626364 ∷ 0x65f1f2f3 ∷ 0x00000006 ∷ 0x66676869 ∷ 0x6a6bf1f2 ∷ [])
    32 3 (number 0x11121314 ∷ lies 12 5 ∷ lies 24 6 ∷ [])
    -- extended_mpls, format 1006: next_hop, in_stack, out_stack
    ∷ accepts 2 1006 (0x00000001 ∷ 0x11121314 ∷ 0x00000002 ∷ 0x15161718 ∷ 0x191a1b1c ∷ 0x00000003 ∷ 0x1d1e1f20 ∷ 0x21222324 ∷ 0x25262728 ∷ [])
    40 9 (v4 0x11121314 ∷ lies 16 2 ∷ lies 28 3 ∷ [])
    -- extended_nat, format 1007: src_address, dst_address
    ∷ accepts 2 1007 (0x00000001 ∷ 0x11121314 ∷ 0x00000002 ∷ 0x15161718 ∷ 0x191a1b1c ∷ 0x1d1e1f20 ∷ 0x21222324 ∷ [])
    32 4 (v4 0x11121314 ∷ v6 (0x15161718 ∷ 0x191a1b1c ∷ 0x1d1e1f20 ∷ 0x21222324 ∷ []) ∷ [])
    -- extended_mpls_tunnel, format 1008: tunnel_lsp_name, tunnel_id, tunnel_cos
    ∷ accepts 2 1008 (0x00000005 ∷ 0x61626364 ∷ 0x65f1f2f3 ∷ 0x11121314 ∷ 0x15161718 ∷ [])
    24 3 (lies 8 5 ∷ number 0x11121314 ∷ number 0x15161718 ∷ [])
    -- extended_mpls_vc, format 1009: vc_instance_name, vll_vc_id, vc_label, vc_cos
    ∷ accepts 2 1009 (0x00000005 ∷ 0x61626364 ∷ 0x65f1f2f3 ∷ 0x11121314 ∷ 0x15161718 ∷ 0x191a1b1c ∷ [])
    28 4 (lies 8 5 ∷ number 0x11121314 ∷ number 0x15161718 ∷ number 0x191a1b1c ∷ [])
    -- extended_mpls_fec, format 1010: fec_addr_prefix, fec_prefix_len
    ∷ accepts 2 1010 (0x00000002 ∷ 0x11121314 ∷ 0x15161718 ∷ 0x191a1b1c ∷ 0x1d1e1f20 ∷ 0x21222324 ∷ [])
    28 3 (v6 (0x11121314 ∷ 0x15161718 ∷ 0x191a1b1c ∷ 0x1d1e1f20 ∷ []) ∷ number 0x21222324 ∷ [])
    -- extended_mpls_lvp_fec, format 1011: mpls_fec_addr_prefix_length
    ∷ accepts 2 1011 (0x11121314 ∷ [])
    8 1 (number 0x11121314 ∷ [])
    -- extended_vlan_tunnel, format 1012: stack
    ∷ accepts 2 1012 (0x00000002 ∷ 0x11121314 ∷ 0x15161718 ∷ [])
    16 3 (lies 8 2 ∷ [])
    -- extended_80211_payload, format 1013: cipher_suite, data
    ∷ accepts 2 1013 (0x11121314 ∷ 0x00000005 ∷ 0x15161718 ∷ 0x19f1f2f3 ∷ [])
    20 2 (number 0x11121314 ∷ lies 12 5 ∷ [])
    -- extended_80211_rx, format 1014: ssid, bssid, version, channel, speed, rsni, rcpi, packet_duration
    ∷ accepts 2 1014 (0x00000005 ∷ 0x61626364 ∷ 0x65f1f2f3 ∷ 0x11121314 ∷ 0x15161718 ∷ 0x191a1b1c ∷ 0x1d1e1f20 ∷ 0x21222324 ∷ 0x25262728 ∷ 0x292a2b2c ∷ 0x2d2e2f30 ∷ 0x31323334 ∷ [])
    52 8 (lies 8 5 ∷ octets (0x11 ∷ 0x12 ∷ 0x13 ∷ 0x14 ∷ 0x15 ∷ 0x16 ∷ []) ∷ number 0x191a1b1c ∷ number 0x1d1e1f20 ∷ number 0x2122232425262728 ∷ number 0x292a2b2c ∷ number 0x2d2e2f30 ∷ number 0x31323334 ∷ [])
    -- extended_80211_tx, format 1015: ssid, bssid, version, transmissions, packet_duration, retrans_duration, channel, speed, power
    ∷ accepts 2 1015 (0x00000005 ∷ 0x61626364 ∷ 0x65f1f2f3 ∷ 0x11121314 ∷ 0x15161718 ∷ 0x191a1b1c ∷ 0x1d1e1f20 ∷ 0x21222324 ∷ 0x25262728 ∷ 0x292a2b2c ∷ 0x2d2e2f30 ∷ 0x31323334 ∷ 0x35363738 ∷ [])
    56 9 (lies 8 5 ∷ octets (0x11 ∷ 0x12 ∷ 0x13 ∷ 0x14 ∷ 0x15 ∷ 0x16 ∷ []) ∷ number 0x191a1b1c ∷ number 0x1d1e1f20 ∷ number 0x21222324 ∷ number 0x25262728 ∷ number 0x292a2b2c ∷ number 0x2d2e2f3031323334 ∷ number 0x35363738 ∷ [])
    -- extended_80211_aggregation, format 1016: pdu_count
    ∷ accepts 2 1016 (0x11121314 ∷ [])
    8 1 (number 0x11121314 ∷ [])
    ∷ []

-- the counter records
unfoldable pub counter_records : List Example
unfolding accepts
counter_records =
    -- generic_interface_counters, format 1: if_index, if_type, if_speed, if_direction, if_status, if_in_octets, if_in_ucast_pkts, if_in_multicast_pkts, if_in_broadcast_pkts, if_in_discards, if_in_errors, if_in_unknown_protos, if_out_octets, if_out_ucast_pkts, if_out_multicast_pkts, if_out_broadcast_pkts, if_out_discards, if_out_errors, if_promiscuous_mode
    accepts 3 1 (0x11121314 ∷ 0x15161718 ∷ 0x191a1b1c ∷ 0x1d1e1f20 ∷ 0x21222324 ∷ 0x25262728 ∷ 0x292a2b2c ∷ 0x2d2e2f30 ∷ 0x31323334 ∷ 0x35363738 ∷ 0x393a3b3c ∷ 0x3d3e3f40 ∷ 0x41424344 ∷ 0x45464748 ∷ 0x494a4b4c ∷ 0x4d4e4f50 ∷ 0x51525354 ∷ 0x55565758 ∷ 0x595a5b5c ∷ 0x5d5e5f60 ∷ 0x61626364 ∷ 0x65666768 ∷ [])
    92 19 (number 0x11121314 ∷ number 0x15161718 ∷ number 0x191a1b1c1d1e1f20 ∷ number 0x21222324 ∷ number 0x25262728 ∷ number 0x292a2b2c2d2e2f30 ∷ number 0x31323334 ∷ number 0x35363738 ∷ number 0x393a3b3c ∷ number 0x3d3e3f40 ∷ number 0x41424344 ∷ number 0x45464748 ∷ number 0x494a4b4c4d4e4f50 ∷ number 0x51525354 ∷ number 0x55565758 ∷ number 0x595a5b5c ∷ number 0x5d5e5f60 ∷ number 0x61626364 ∷ number 0x65666768 ∷ [])
    -- ethernet_interface_counters, format 2: dot3_stats_alignment_errors, dot3_stats_fcs_errors, dot3_stats_single_collision_frames, dot3_stats_multiple_collision_frames, dot3_stats_sqe_test_errors, dot3_stats_deferred_transmissions, dot3_stats_late_collisions, dot3_stats_excessive_collisions, dot3_stats_internal_mac_transmit_errors, dot3_stats_carrier_sense_errors, dot3_stats_frame_too_longs, dot3_stats_internal_mac_receive_errors, dot3_stats_symbol_errors
    ∷ accepts 3 2 (0x11121314 ∷ 0x15161718 ∷ 0x191a1b1c ∷ 0x1d1e1f20 ∷ 0x21222324 ∷ 0x25262728 ∷ 0x292a2b2c ∷ 0x2d2e2f30 ∷ 0x31323334 ∷ 0x35363738 ∷ 0x393a3b3c ∷ 0x3d3e3f40 ∷ 0x41424344 ∷ [])
    56 13 (number 0x11121314 ∷ number 0x15161718 ∷ number 0x191a1b1c ∷ number 0x1d1e1f20 ∷ number 0x21222324 ∷ number 0x25262728 ∷ number 0x292a2b2c ∷ number 0x2d2e2f30 ∷ number 0x31323334 ∷ number 0x35363738 ∷ number 0x393a3b3c ∷ number 0x3d3e3f40 ∷ number 0x41424344 ∷ [])
    -- token_ring_counters, format 3: dot5_stats_line_errors, dot5_stats_burst_errors, dot5_stats_ac_errors, dot5_stats_abort_trans_errors, dot5_stats_internal_errors, dot5_stats_lost_frame_errors, dot5_stats_receive_congestions, dot5_stats_frame_copied_errors, dot5_stats_token_errors, dot5_stats_soft_errors, dot5_stats_hard_errors, dot5_stats_signal_loss, dot5_stats_transmit_beacons, dot5_stats_recoverys, dot5_stats_lobe_wires, dot5_stats_removes, dot5_stats_singles, dot5_stats_freq_errors
    ∷ accepts 3 3 (0x11121314 ∷ 0x15161718 ∷ 0x191a1b1c ∷ 0x1d1e1f20 ∷ 0x21222324 ∷ 0x25262728 ∷ 0x292a2b2c ∷ 0x2d2e2f30 ∷ 0x31323334 ∷ 0x35363738 ∷ 0x393a3b3c ∷ 0x3d3e3f40 ∷ 0x41424344 ∷ 0x45464748 ∷ 0x494a4b4c ∷ 0x4d4e4f50 ∷ 0x51525354 ∷ 0x55565758 ∷ [])
    76 18 (number 0x11121314 ∷ number 0x15161718 ∷ number 0x191a1b1c ∷ number 0x1d1e1f20 ∷ number 0x21222324 ∷ number 0x25262728 ∷ number 0x292a2b2c ∷ number 0x2d2e2f30 ∷ number 0x31323334 ∷ number 0x35363738 ∷ number 0x393a3b3c ∷ number 0x3d3e3f40 ∷ number 0x41424344 ∷ number 0x45464748 ∷ number 0x494a4b4c ∷ number 0x4d4e4f50 ∷ number 0x51525354 ∷ number 0x55565758 ∷ [])
    -- vg100_interface_counters, format 4: dot12_in_high_priority_frames, dot12_in_high_priority_octets, dot12_in_norm_priority_frames, dot12_in_norm_priority_octets, dot12_in_ipm_errors, dot12_in_oversize_frame_errors, dot12_in_data_errors, dot12_in_null_addressed_frames, dot12_out_high_priority_frames, dot12_out_high_priority_octets, dot12_transition_into_trainings, dot12_hc_in_high_priority_octets, dot12_hc_in_norm_priority_octets, dot12_hc_out_high_priority_octets
    ∷ accepts 3 4 (0x11121314 ∷ 0x15161718 ∷ 0x191a1b1c ∷ 0x1d1e1f20 ∷ 0x21222324 ∷ 0x25262728 ∷ 0x292a2b2c ∷ 0x2d2e2f30 ∷ 0x31323334 ∷ 0x35363738 ∷ 0x393a3b3c ∷ 0x3d3e3f40 ∷ 0x41424344 ∷ 0x45464748 ∷ 0x494a4b4c ∷ 0x4d4e4f50 ∷ 0x51525354 ∷ 0x55565758 ∷ 0x595a5b5c ∷ 0x5d5e5f60 ∷ [])
    84 14 (number 0x11121314 ∷ number 0x15161718191a1b1c ∷ number 0x1d1e1f20 ∷ number 0x2122232425262728 ∷ number 0x292a2b2c ∷ number 0x2d2e2f30 ∷ number 0x31323334 ∷ number 0x35363738 ∷ number 0x393a3b3c ∷ number 0x3d3e3f4041424344 ∷ number 0x45464748 ∷ number 0x494a4b4c4d4e4f50 ∷ number 0x5152535455565758 ∷ number 0x595a5b5c5d5e5f60 ∷ [])
    -- vlan_counters, format 5: vlan_id, octets, ucast_pkts, multicast_pkts, broadcast_pkts, discards
    ∷ accepts 3 5 (0x11121314 ∷ 0x15161718 ∷ 0x191a1b1c ∷ 0x1d1e1f20 ∷ 0x21222324 ∷ 0x25262728 ∷ 0x292a2b2c ∷ [])
    32 6 (number 0x11121314 ∷ number 0x15161718191a1b1c ∷ number 0x1d1e1f20 ∷ number 0x21222324 ∷ number 0x25262728 ∷ number 0x292a2b2c ∷ [])
    -- processor_counters, format 1001: cpu_5s, cpu_1m, cpu_5m, total_memory, free_memory
    ∷ accepts 3 1001 (0x11121314 ∷ 0x15161718 ∷ 0x191a1b1c ∷ 0x1d1e1f20 ∷ 0x21222324 ∷ 0x25262728 ∷ 0x292a2b2c ∷ [])
    32 5 (number 0x11121314 ∷ number 0x15161718 ∷ number 0x191a1b1c ∷ number 0x1d1e1f2021222324 ∷ number 0x25262728292a2b2c ∷ [])
    ∷ []

-- the fields of a sample before its records
unfoldable pub sample_fields : List Example
unfolding accepts
sample_fields =
    -- flow_sample, format 1: sequence_number, source_id, sampling_rate, sample_pool, drops, input, output, num_records
    accepts 1 1 (0x11121314 ∷ 0x15161718 ∷ 0x191a1b1c ∷ 0x1d1e1f20 ∷ 0x21222324 ∷ 0x25262728 ∷ 0x292a2b2c ∷ 0x2d2e2f30 ∷ [])
    36 8 (number 0x11121314 ∷ number 0x15161718 ∷ number 0x191a1b1c ∷ number 0x1d1e1f20 ∷ number 0x21222324 ∷ number 0x25262728 ∷ number 0x292a2b2c ∷ number 0x2d2e2f30 ∷ [])
    -- counters_sample, format 2: sequence_number, source_id, num_records
    ∷ accepts 1 2 (0x11121314 ∷ 0x15161718 ∷ 0x191a1b1c ∷ [])
    16 3 (number 0x11121314 ∷ number 0x15161718 ∷ number 0x191a1b1c ∷ [])
    -- flow_sample_expanded, format 3: sequence_number, source_id.source_id_type, source_id.source_id_index, sampling_rate, sample_pool, drops, input.format, input.value, output.format, output.value, num_records
    ∷ accepts 1 3 (0x11121314 ∷ 0x15161718 ∷ 0x191a1b1c ∷ 0x1d1e1f20 ∷ 0x21222324 ∷ 0x25262728 ∷ 0x292a2b2c ∷ 0x2d2e2f30 ∷ 0x31323334 ∷ 0x35363738 ∷ 0x393a3b3c ∷ [])
    48 11 (number 0x11121314 ∷ number 0x15161718 ∷ number 0x191a1b1c ∷ number 0x1d1e1f20 ∷ number 0x21222324 ∷ number 0x25262728 ∷ number 0x292a2b2c ∷ number 0x2d2e2f30 ∷ number 0x31323334 ∷ number 0x35363738 ∷ number 0x393a3b3c ∷ [])
    -- counters_sample_expanded, format 4: sequence_number, source_id.source_id_type, source_id.source_id_index, num_records
    ∷ accepts 1 4 (0x11121314 ∷ 0x15161718 ∷ 0x191a1b1c ∷ 0x1d1e1f20 ∷ [])
    20 4 (number 0x11121314 ∷ number 0x15161718 ∷ number 0x191a1b1c ∷ number 0x1d1e1f20 ∷ [])
    -- discarded_packet, format 5: sequence_number, source_id.source_id_type, source_id.source_id_index, drops, input_ifindex, output_ifindex, reason, num_records
    ∷ accepts 1 5 (0x11121314 ∷ 0x15161718 ∷ 0x191a1b1c ∷ 0x1d1e1f20 ∷ 0x21222324 ∷ 0x25262728 ∷ 0x292a2b2c ∷ 0x2d2e2f30 ∷ [])
    36 8 (number 0x11121314 ∷ number 0x15161718 ∷ number 0x191a1b1c ∷ number 0x1d1e1f20 ∷ number 0x21222324 ∷ number 0x25262728 ∷ number 0x292a2b2c ∷ number 0x2d2e2f30 ∷ [])
    ∷ []

-- the header of a datagram, by field reading
unfoldable pub headers : List Example
unfolding nowhere v4 v6 accepts
headers =
    -- header with an address of type 1: version, agent_address, sub_agent_id, sequence_number, uptime, num_samples
    accepts 0 0 (0x00000005 ∷ 0x00000001 ∷ 0x11121314 ∷ 0x15161718 ∷ 0x191a1b1c ∷ 0x1d1e1f20 ∷ 0x21222324 ∷ [])
    32 7 (number 5 ∷ v4 0x11121314 ∷ number 0x15161718 ∷ number 0x191a1b1c ∷ number 0x1d1e1f20 ∷ number 0x21222324 ∷ [])
    -- header with an address of type 2: version, agent_address, sub_agent_id, sequence_number, uptime, num_samples
    ∷ accepts 0 0 (0x00000005 ∷ 0x00000002 ∷ 0x11121314 ∷ 0x15161718 ∷ 0x191a1b1c ∷ 0x1d1e1f20 ∷ 0x21222324 ∷ 0x25262728 ∷ 0x292a2b2c ∷ 0x2d2e2f30 ∷ [])
    44 7 (number 5 ∷ v6 (0x11121314 ∷ 0x15161718 ∷ 0x191a1b1c ∷ 0x1d1e1f20 ∷ []) ∷ number 0x21222324 ∷ number 0x25262728 ∷ number 0x292a2b2c ∷ number 0x2d2e2f30 ∷ [])
    -- header with an address of type 0: version, agent_address, sub_agent_id, sequence_number, uptime, num_samples
    ∷ accepts 0 0 (0x00000005 ∷ 0x00000000 ∷ 0x11121314 ∷ 0x15161718 ∷ 0x191a1b1c ∷ 0x1d1e1f20 ∷ [])
    28 6 (number 5 ∷ nowhere ∷ number 0x11121314 ∷ number 0x15161718 ∷ number 0x191a1b1c ∷ number 0x1d1e1f20 ∷ [])
    ∷ []

-- a segment of an AS path
unfoldable pub segments : List Example
unfolding lies segment
segments =
    -- a segment of an AS path: type, path
    segment (0x00000001 ∷ 0x00000002 ∷ 0x11121314 ∷ 0x15161718 ∷ [])
    0 20 4 (number 1 ∷ lies 12 2 ∷ [])
    ∷ []

-- a descriptor's payload, and all of its record, as start and count
unfoldable pub spans : List Example
unfolding pays stands
spans =
    -- the payload of a record: five bytes from byte 12
    pays (0x11121314 ∷ 0x00000005 ∷ 0x15161718 ∷ 0x19f1f2f3 ∷ [])
    12 5 12 5
    -- a range of so many bytes that it passes the input
    ∷ pays (0x11121314 ∷ 0x00000005 ∷ 0x15161718 ∷ 0x19f1f2f3 ∷ [])
    12 13 0 0
    -- all of it: a format word, a length word, the payload and its pad
    ∷ stands (0x11121314 ∷ 0x00000005 ∷ 0x15161718 ∷ 0x19f1f2f3 ∷ [])
    12 5 4 4 16
    -- a first byte that lies behind the start
    ∷ stands (0x11121314 ∷ 0x00000005 ∷ 0x15161718 ∷ 0x19f1f2f3 ∷ [])
    12 5 13 0 0
    ∷ []

-- a word of a list: whether it is there, and its value
unfoldable pub list_words : List Example
unfolding lists
list_words =
    -- the word with index 1 of a list of two, at byte 8
    lists (0x00000002 ∷ 0x11121314 ∷ 0x15161718 ∷ [])
    8 2 1 true 0x15161718
    -- the word with index 2 of a list of two, at byte 8
    ∷ lists (0x00000002 ∷ 0x11121314 ∷ 0x15161718 ∷ [])
    8 2 2 false 0
    ∷ []

-- a sampled Ethernet record of 20, 23 and 24 bytes, in each mode
unfoldable pub two_modes : List Example
unfolding in_mode accepts begins refuses
two_modes =
    -- sampled_ethernet, format 2: of 20 bytes
    in_mode memo (refuses 2 2 (0x11121314 ∷ 0x15161718 ∷ 0x191a1b1c ∷ 0x1d1e1f20 ∷ 0x21222324 ∷ 0x25262728 ∷ []) 20
    2 24 3 (number 0 ∷ octets (replicate 6 0) ∷ octets (replicate 6 0) ∷ number 0 ∷ []))
    -- sampled_ethernet, format 2 of 20 bytes, in the base mode
    ∷ in_mode base (begins 2 2 (0x11121314 ∷ 0x15161718 ∷ 0x191a1b1c ∷ 0x1d1e1f20 ∷ 0x21222324 ∷ 0x25262728 ∷ []) 20
    24 4 (number 0x11121314 ∷ octets (0x15 ∷ 0x16 ∷ 0x17 ∷ 0x18 ∷ 0x19 ∷ 0x1a ∷ []) ∷ octets (0x1b ∷ 0x1c ∷ 0x1d ∷ 0x1e ∷ 0x1f ∷ 0x20 ∷ []) ∷ number 0x21222324 ∷ []))
    -- sampled_ethernet, format 2: of 23 bytes
    ∷ in_mode memo (refuses 2 2 (0x11121314 ∷ 0x15161718 ∷ 0x191a1b1c ∷ 0x1d1e1f20 ∷ 0x21222324 ∷ 0x25262728 ∷ []) 23
    2 24 3 (number 0 ∷ octets (replicate 6 0) ∷ octets (replicate 6 0) ∷ number 0 ∷ []))
    -- sampled_ethernet, format 2 of 23 bytes, in the base mode
    ∷ in_mode base (begins 2 2 (0x11121314 ∷ 0x15161718 ∷ 0x191a1b1c ∷ 0x1d1e1f20 ∷ 0x21222324 ∷ 0x25262728 ∷ []) 23
    24 4 (number 0x11121314 ∷ octets (0x15 ∷ 0x16 ∷ 0x17 ∷ 0x18 ∷ 0x19 ∷ 0x1a ∷ []) ∷ octets (0x1b ∷ 0x1c ∷ 0x1d ∷ 0x1e ∷ 0x1f ∷ 0x20 ∷ []) ∷ number 0x21222324 ∷ []))
    -- sampled_ethernet, format 2 of 24 bytes: length, src_mac, dst_mac, eth_type
    ∷ in_mode memo (accepts 2 2 (0x11121314 ∷ 0x15161718 ∷ 0x191a1b1c ∷ 0x1d1e1f20 ∷ 0x21222324 ∷ 0x25262728 ∷ [])
    28 4 (number 0x11121314 ∷ octets (0x15 ∷ 0x16 ∷ 0x17 ∷ 0x18 ∷ 0x19 ∷ 0x1a ∷ []) ∷ octets (0x1d ∷ 0x1e ∷ 0x1f ∷ 0x20 ∷ 0x21 ∷ 0x22 ∷ []) ∷ number 0x25262728 ∷ []))
    -- sampled_ethernet, format 2 of 24 bytes, in the base mode
    ∷ in_mode base (begins 2 2 (0x11121314 ∷ 0x15161718 ∷ 0x191a1b1c ∷ 0x1d1e1f20 ∷ 0x21222324 ∷ 0x25262728 ∷ []) 24
    24 4 (number 0x11121314 ∷ octets (0x15 ∷ 0x16 ∷ 0x17 ∷ 0x18 ∷ 0x19 ∷ 0x1a ∷ []) ∷ octets (0x1b ∷ 0x1c ∷ 0x1d ∷ 0x1e ∷ 0x1f ∷ 0x20 ∷ []) ∷ number 0x21222324 ∷ []))
    ∷ []

-- refusals of field reading, whose values are all zero: what is left out is an input above the limit, code 1
unfoldable pub refusals : List Example
unfolding in_mode nowhere lies refuses mistakes
refusals =
    -- extended_switch, format 1001: a word is cut
    refuses 2 1001 (0x11121314 ∷ 0x15161718 ∷ 0x191a1b1c ∷ 0x1d1e1f20 ∷ []) 11
    2 12 2 (number 0 ∷ number 0 ∷ number 0 ∷ number 0 ∷ [])
    -- flow_sample, format 1: a word of a sample is cut
    ∷ refuses 1 1 (0x11121314 ∷ 0x15161718 ∷ 0x191a1b1c ∷ 0x1d1e1f20 ∷ 0x21222324 ∷ 0x25262728 ∷ 0x292a2b2c ∷ 0x2d2e2f30 ∷ []) 19
    2 20 4 (number 0 ∷ number 0 ∷ number 0 ∷ number 0 ∷ number 0 ∷ number 0 ∷ number 0 ∷ number 0 ∷ [])
    -- header: a word of the header is cut
    ∷ refuses 0 0 (0x00000005 ∷ 0x00000001 ∷ 0x11121314 ∷ 0x15161718 ∷ 0x191a1b1c ∷ 0x1d1e1f20 ∷ 0x21222324 ∷ []) 23
    2 24 5 (number 0 ∷ nowhere ∷ number 0 ∷ number 0 ∷ number 0 ∷ number 0 ∷ [])
    -- sampled_header, format 1: the protocol is cut
    ∷ refuses 2 1 (0x0000000b ∷ 0x11121314 ∷ 0x15161718 ∷ 0x00000005 ∷ 0x191a1b1c ∷ 0x1df1f2f3 ∷ []) 3
    2 4 0 (number 0 ∷ number 0 ∷ number 0 ∷ lies 0 0 ∷ [])
    -- extended_80211_rx, format 1014: a u64 is cut
    ∷ refuses 2 1014 (0x00000005 ∷ 0x61626364 ∷ 0x65f1f2f3 ∷ 0x11121314 ∷ 0x15161718 ∷ 0x191a1b1c ∷ 0x1d1e1f20 ∷ 0x21222324 ∷ 0x25262728 ∷ 0x292a2b2c ∷ 0x2d2e2f30 ∷ 0x31323334 ∷ []) 35
    2 32 4 (lies 0 0 ∷ octets (replicate 6 0) ∷ number 0 ∷ number 0 ∷ number 0 ∷ number 0 ∷ number 0 ∷ number 0 ∷ [])
    -- sampled_ethernet, format 2: an address is cut, behind the six that are shown
    ∷ in_mode memo (refuses 2 2 (0x11121314 ∷ 0x15161718 ∷ 0x191a1b1c ∷ 0x1d1e1f20 ∷ 0x21222324 ∷ 0x25262728 ∷ []) 19
    2 16 2 (number 0 ∷ octets (replicate 6 0) ∷ octets (replicate 6 0) ∷ number 0 ∷ []))
    -- sampled_ethernet, format 2: an address of six bytes is cut, in the base mode
    ∷ in_mode base (refuses 2 2 (0x11121314 ∷ 0x15161718 ∷ 0x191a1b1c ∷ 0x1d1e1f20 ∷ 0x21222324 ∷ []) 15
    2 14 2 (number 0 ∷ octets (replicate 6 0) ∷ octets (replicate 6 0) ∷ number 0 ∷ []))
    -- extended_80211_tx, format 1015: a block of eight bytes is cut, behind the six that are shown
    ∷ refuses 2 1015 (0x00000005 ∷ 0x61626364 ∷ 0x65f1f2f3 ∷ 0x11121314 ∷ 0x15161718 ∷ 0x191a1b1c ∷ 0x1d1e1f20 ∷ 0x21222324 ∷ 0x25262728 ∷ 0x292a2b2c ∷ 0x2d2e2f30 ∷ 0x31323334 ∷ 0x35363738 ∷ []) 19
    2 16 1 (lies 0 0 ∷ octets (replicate 6 0) ∷ number 0 ∷ number 0 ∷ number 0 ∷ number 0 ∷ number 0 ∷ number 0 ∷ number 0 ∷ [])
    -- sampled_ipv6, format 4: a block of sixteen bytes is cut
    ∷ refuses 2 4 (0x11121314 ∷ 0x15161718 ∷ 0x191a1b1c ∷ 0x1d1e1f20 ∷ 0x21222324 ∷ 0x25262728 ∷ 0x292a2b2c ∷ 0x2d2e2f30 ∷ 0x31323334 ∷ 0x35363738 ∷ 0x393a3b3c ∷ 0x3d3e3f40 ∷ 0x41424344 ∷ 0x45464748 ∷ []) 39
    2 28 3 (number 0 ∷ number 0 ∷ octets (replicate 16 0) ∷ octets (replicate 16 0) ∷ number 0 ∷ number 0 ∷ number 0 ∷ number 0 ∷ [])
    -- extended_router, format 1002: an address's type is cut
    ∷ refuses 2 1002 (0x00000001 ∷ 0x11121314 ∷ 0x15161718 ∷ 0x191a1b1c ∷ []) 3
    2 4 0 (nowhere ∷ number 0 ∷ number 0 ∷ [])
    -- extended_nat, format 1007: the four bytes of an address are cut
    ∷ refuses 2 1007 (0x00000001 ∷ 0x11121314 ∷ 0x00000002 ∷ 0x15161718 ∷ 0x191a1b1c ∷ 0x1d1e1f20 ∷ 0x21222324 ∷ []) 7
    2 8 1 (nowhere ∷ nowhere ∷ [])
    -- extended_nat, format 1007: the sixteen bytes of an address are cut
    ∷ refuses 2 1007 (0x00000001 ∷ 0x11121314 ∷ 0x00000002 ∷ 0x15161718 ∷ 0x191a1b1c ∷ 0x1d1e1f20 ∷ 0x21222324 ∷ []) 27
    2 16 3 (nowhere ∷ nowhere ∷ [])
    -- header: the sixteen bytes of the agent's address are cut
    ∷ refuses 0 0 (0x00000005 ∷ 0x00000002 ∷ 0x11121314 ∷ 0x15161718 ∷ 0x191a1b1c ∷ 0x1d1e1f20 ∷ 0x21222324 ∷ 0x25262728 ∷ 0x292a2b2c ∷ 0x2d2e2f30 ∷ []) 23
    2 12 2 (number 0 ∷ nowhere ∷ number 0 ∷ number 0 ∷ number 0 ∷ number 0 ∷ [])
    -- sampled_header, format 1: an opaque's length is cut
    ∷ refuses 2 1 (0x0000000b ∷ 0x11121314 ∷ 0x15161718 ∷ 0x00000005 ∷ 0x191a1b1c ∷ 0x1df1f2f3 ∷ []) 15
    2 16 3 (number 0 ∷ number 0 ∷ number 0 ∷ lies 0 0 ∷ [])
    -- sampled_header, format 1: an opaque's payload is cut
    ∷ refuses 2 1 (0x0000000b ∷ 0x11121314 ∷ 0x15161718 ∷ 0x00000005 ∷ 0x191a1b1c ∷ 0x1df1f2f3 ∷ []) 20
    2 16 3 (number 0 ∷ number 0 ∷ number 0 ∷ lies 0 0 ∷ [])
    -- sampled_header, format 1: an opaque's pad is cut
    ∷ refuses 2 1 (0x0000000b ∷ 0x11121314 ∷ 0x15161718 ∷ 0x00000005 ∷ 0x191a1b1c ∷ 0x1df1f2f3 ∷ []) 23
    2 16 3 (number 0 ∷ number 0 ∷ number 0 ∷ lies 0 0 ∷ [])
    -- extended_user, format 1004: a string's length is cut
    ∷ refuses 2 1004 (0x11121314 ∷ 0x00000005 ∷ 0x61626364 ∷ 0x65f1f2f3 ∷ 0x15161718 ∷ 0x00000006 ∷ 0x66676869 ∷ 0x6a6bf1f2 ∷ []) 23
    2 24 3 (number 0 ∷ lies 0 0 ∷ number 0 ∷ lies 0 0 ∷ [])
    -- extended_user, format 1004: a string's payload is cut
    ∷ refuses 2 1004 (0x11121314 ∷ 0x00000005 ∷ 0x61626364 ∷ 0x65f1f2f3 ∷ 0x15161718 ∷ 0x00000006 ∷ 0x66676869 ∷ 0x6a6bf1f2 ∷ []) 29
    2 24 3 (number 0 ∷ lies 0 0 ∷ number 0 ∷ lies 0 0 ∷ [])
    -- extended_user, format 1004: a string's pad is cut
    ∷ refuses 2 1004 (0x11121314 ∷ 0x00000005 ∷ 0x61626364 ∷ 0x65f1f2f3 ∷ 0x15161718 ∷ 0x00000006 ∷ 0x66676869 ∷ 0x6a6bf1f2 ∷ []) 31
    2 24 3 (number 0 ∷ lies 0 0 ∷ number 0 ∷ lies 0 0 ∷ [])
    -- extended_mpls, format 1006: a list's count is cut
    ∷ refuses 2 1006 (0x00000001 ∷ 0x11121314 ∷ 0x00000002 ∷ 0x15161718 ∷ 0x191a1b1c ∷ 0x00000003 ∷ 0x1d1e1f20 ∷ 0x21222324 ∷ 0x25262728 ∷ []) 23
    2 24 5 (nowhere ∷ lies 0 0 ∷ lies 0 0 ∷ [])
    -- extended_mpls, format 1006: the last word of a list is cut
    ∷ refuses 2 1006 (0x00000001 ∷ 0x11121314 ∷ 0x00000002 ∷ 0x15161718 ∷ 0x191a1b1c ∷ 0x00000003 ∷ 0x1d1e1f20 ∷ 0x21222324 ∷ 0x25262728 ∷ []) 35
    2 36 8 (nowhere ∷ lies 0 0 ∷ lies 0 0 ∷ [])
    -- extended_gateway, format 1003: the count of segments is cut
    ∷ refuses 2 1003 (0x00000001 ∷ 0x11121314 ∷ 0x15161718 ∷ 0x191a1b1c ∷ 0x1d1e1f20 ∷ 0x00000002 ∷ 0x00000001 ∷ 0x00000002 ∷ 0x21222324 ∷ 0x25262728 ∷ 0x00000002 ∷ 0x00000003 ∷ 0x292a2b2c ∷ 0x2d2e2f30 ∷ 0x31323334 ∷ 0x00000004 ∷ 0x35363738 ∷ 0x393a3b3c ∷ 0x3d3e3f40 ∷ 0x41424344 ∷ 0x45464748 ∷ []) 23
    2 24 5 (nowhere ∷ number 0 ∷ number 0 ∷ number 0 ∷ lies 0 0 ∷ lies 0 0 ∷ number 0 ∷ [])
    -- extended_gateway, format 1003: a segment's type is cut
    ∷ refuses 2 1003 (0x00000001 ∷ 0x11121314 ∷ 0x15161718 ∷ 0x191a1b1c ∷ 0x1d1e1f20 ∷ 0x00000002 ∷ 0x00000001 ∷ 0x00000002 ∷ 0x21222324 ∷ 0x25262728 ∷ 0x00000002 ∷ 0x00000003 ∷ 0x292a2b2c ∷ 0x2d2e2f30 ∷ 0x31323334 ∷ 0x00000004 ∷ 0x35363738 ∷ 0x393a3b3c ∷ 0x3d3e3f40 ∷ 0x41424344 ∷ 0x45464748 ∷ []) 43
    2 44 10 (nowhere ∷ number 0 ∷ number 0 ∷ number 0 ∷ lies 0 0 ∷ lies 0 0 ∷ number 0 ∷ [])
    -- extended_gateway, format 1003: a segment's count is cut
    ∷ refuses 2 1003 (0x00000001 ∷ 0x11121314 ∷ 0x15161718 ∷ 0x191a1b1c ∷ 0x1d1e1f20 ∷ 0x00000002 ∷ 0x00000001 ∷ 0x00000002 ∷ 0x21222324 ∷ 0x25262728 ∷ 0x00000002 ∷ 0x00000003 ∷ 0x292a2b2c ∷ 0x2d2e2f30 ∷ 0x31323334 ∷ 0x00000004 ∷ 0x35363738 ∷ 0x393a3b3c ∷ 0x3d3e3f40 ∷ 0x41424344 ∷ 0x45464748 ∷ []) 31
    2 32 7 (nowhere ∷ number 0 ∷ number 0 ∷ number 0 ∷ lies 0 0 ∷ lies 0 0 ∷ number 0 ∷ [])
    -- extended_gateway, format 1003: an AS number of a segment is cut
    ∷ refuses 2 1003 (0x00000001 ∷ 0x11121314 ∷ 0x15161718 ∷ 0x191a1b1c ∷ 0x1d1e1f20 ∷ 0x00000002 ∷ 0x00000001 ∷ 0x00000002 ∷ 0x21222324 ∷ 0x25262728 ∷ 0x00000002 ∷ 0x00000003 ∷ 0x292a2b2c ∷ 0x2d2e2f30 ∷ 0x31323334 ∷ 0x00000004 ∷ 0x35363738 ∷ 0x393a3b3c ∷ 0x3d3e3f40 ∷ 0x41424344 ∷ 0x45464748 ∷ []) 39
    2 40 9 (nowhere ∷ number 0 ∷ number 0 ∷ number 0 ∷ lies 0 0 ∷ lies 0 0 ∷ number 0 ∷ [])
    -- extended_80211_aggregation, format 1016: the count of PDUs is cut
    ∷ refuses 2 1016 (0x11121314 ∷ []) 3
    2 4 0 (number 0 ∷ [])
    -- vlan_counters, format 5: a word of a counter record is cut
    ∷ refuses 3 5 (0x11121314 ∷ 0x15161718 ∷ 0x191a1b1c ∷ 0x1d1e1f20 ∷ 0x21222324 ∷ 0x25262728 ∷ 0x292a2b2c ∷ []) 19
    2 20 3 (number 0 ∷ number 0 ∷ number 0 ∷ number 0 ∷ number 0 ∷ number 0 ∷ [])
    -- generic_interface_counters, format 1: a u64 of a counter record is cut, behind its first word
    ∷ refuses 3 1 (0x11121314 ∷ 0x15161718 ∷ 0x191a1b1c ∷ 0x1d1e1f20 ∷ 0x21222324 ∷ 0x25262728 ∷ 0x292a2b2c ∷ 0x2d2e2f30 ∷ 0x31323334 ∷ 0x35363738 ∷ 0x393a3b3c ∷ 0x3d3e3f40 ∷ 0x41424344 ∷ 0x45464748 ∷ 0x494a4b4c ∷ 0x4d4e4f50 ∷ 0x51525354 ∷ 0x55565758 ∷ 0x595a5b5c ∷ 0x5d5e5f60 ∷ 0x61626364 ∷ 0x65666768 ∷ []) 60
    2 60 12 (number 0 ∷ number 0 ∷ number 0 ∷ number 0 ∷ number 0 ∷ number 0 ∷ number 0 ∷ number 0 ∷ number 0 ∷ number 0 ∷ number 0 ∷ number 0 ∷ number 0 ∷ number 0 ∷ number 0 ∷ number 0 ∷ number 0 ∷ number 0 ∷ number 0 ∷ [])
    -- processor_counters, format 1001: a counter record is empty
    ∷ refuses 3 1001 (0x11121314 ∷ 0x15161718 ∷ 0x191a1b1c ∷ 0x1d1e1f20 ∷ 0x21222324 ∷ 0x25262728 ∷ 0x292a2b2c ∷ []) 0
    2 4 0 (number 0 ∷ number 0 ∷ number 0 ∷ number 0 ∷ number 0 ∷ [])
    -- header: version 4
    ∷ refuses 0 0 (0x00000004 ∷ 0x00000001 ∷ 0x11121314 ∷ 0x15161718 ∷ 0x191a1b1c ∷ 0x1d1e1f20 ∷ 0x21222324 ∷ []) 28
    3 4 0 (number 0 ∷ nowhere ∷ number 0 ∷ number 0 ∷ number 0 ∷ number 0 ∷ [])
    -- header: an address of type 3
    ∷ refuses 0 0 (0x00000005 ∷ 0x00000003 ∷ 0x11121314 ∷ 0x15161718 ∷ 0x191a1b1c ∷ 0x1d1e1f20 ∷ 0x21222324 ∷ []) 28
    4 8 1 (number 0 ∷ nowhere ∷ number 0 ∷ number 0 ∷ number 0 ∷ number 0 ∷ [])
    -- extended_nat, format 1007: an address of type 3
    ∷ refuses 2 1007 (0x00000001 ∷ 0x11121314 ∷ 0x00000003 ∷ 0x15161718 ∷ 0x191a1b1c ∷ 0x1d1e1f20 ∷ 0x21222324 ∷ []) 28
    4 12 2 (nowhere ∷ nowhere ∷ [])
    -- extended_80211_payload, format 1013: an opaque's length is one above the limit
    ∷ refuses 2 1013 (0x11121314 ∷ 0x06400001 ∷ 0x15161718 ∷ 0x19f1f2f3 ∷ []) 16
    5 8 1 (number 0 ∷ lies 0 0 ∷ [])
    -- extended_80211_payload, format 1013: the largest length, which is not there
    ∷ refuses 2 1013 (0x11121314 ∷ 0x06400000 ∷ 0x15161718 ∷ 0x19f1f2f3 ∷ []) 16
    2 8 1 (number 0 ∷ lies 0 0 ∷ [])
    -- extended_url, format 1005: a string's length is one above the limit
    ∷ refuses 2 1005 (0x11121314 ∷ 0x00000005 ∷ 0x61626364 ∷ 0x65f1f2f3 ∷ 0x06400001 ∷ 0x66676869 ∷ 0x6a6bf1f2 ∷ []) 28
    5 20 2 (number 0 ∷ lies 0 0 ∷ lies 0 0 ∷ [])
    -- sampled_header, format 1: protocol 0
    ∷ refuses 2 1 (0x00000000 ∷ 0x11121314 ∷ 0x15161718 ∷ 0x00000005 ∷ 0x191a1b1c ∷ 0x1df1f2f3 ∷ []) 24
    6 4 0 (number 0 ∷ number 0 ∷ number 0 ∷ lies 0 0 ∷ [])
    -- sampled_header, format 1: protocol 18
    ∷ refuses 2 1 (0x00000012 ∷ 0x11121314 ∷ 0x15161718 ∷ 0x00000005 ∷ 0x191a1b1c ∷ 0x1df1f2f3 ∷ []) 24
    6 4 0 (number 0 ∷ number 0 ∷ number 0 ∷ lies 0 0 ∷ [])
    -- extended_user, format 1004: the third byte of a string begins no character
    ∷ refuses 2 1004 (0x11121314 ∷ 0x00000005 ∷ 0x61626364 ∷ 0x65f1f2f3 ∷ 0x15161718 ∷ 0x00000006 ∷ 0x6667e969 ∷ 0x6a6bf1f2 ∷ []) 32
    7 30 3 (number 0 ∷ lies 0 0 ∷ number 0 ∷ lies 0 0 ∷ [])
    -- extended_80211_rx, format 1014: a string's last character is cut
    ∷ refuses 2 1014 (0x00000005 ∷ 0x616263e2 ∷ 0x82f1f2f3 ∷ 0x11121314 ∷ 0x15161718 ∷ 0x191a1b1c ∷ 0x1d1e1f20 ∷ 0x21222324 ∷ 0x25262728 ∷ 0x292a2b2c ∷ 0x2d2e2f30 ∷ 0x31323334 ∷ []) 48
    7 11 0 (lies 0 0 ∷ octets (replicate 6 0) ∷ number 0 ∷ number 0 ∷ number 0 ∷ number 0 ∷ number 0 ∷ number 0 ∷ [])
    -- vlan_counters, format 5: asked for, and of the same format of another enterprise
    ∷ mistakes 3 5 3 4101 (0x11121314 ∷ 0x15161718 ∷ 0x191a1b1c ∷ 0x1d1e1f20 ∷ 0x21222324 ∷ 0x25262728 ∷ 0x292a2b2c ∷ []) 28
    11 0 0 (number 0 ∷ number 0 ∷ number 0 ∷ number 0 ∷ number 0 ∷ number 0 ∷ [])
    -- extended_switch, format 1001: the range passes the input
    ∷ refuses 2 1001 (0x11121314 ∷ 0x15161718 ∷ 0x191a1b1c ∷ 0x1d1e1f20 ∷ []) 21
    10 0 0 (number 0 ∷ number 0 ∷ number 0 ∷ number 0 ∷ [])
    -- extended_switch, format 1001: asked for, and of the kind of a sample
    ∷ mistakes 2 1001 1 1001 (0x11121314 ∷ 0x15161718 ∷ 0x191a1b1c ∷ 0x1d1e1f20 ∷ []) 16
    11 0 0 (number 0 ∷ number 0 ∷ number 0 ∷ number 0 ∷ [])
    -- extended_switch, format 1001: asked for, and of format 1002
    ∷ mistakes 2 1001 2 1002 (0x11121314 ∷ 0x15161718 ∷ 0x191a1b1c ∷ 0x1d1e1f20 ∷ []) 16
    11 0 0 (number 0 ∷ number 0 ∷ number 0 ∷ number 0 ∷ [])
    -- extended_switch, format 1001: the range passes the input, and the format is another: 10 comes first
    ∷ mistakes 2 1001 2 1002 (0x11121314 ∷ 0x15161718 ∷ 0x191a1b1c ∷ 0x1d1e1f20 ∷ []) 21
    10 0 0 (number 0 ∷ number 0 ∷ number 0 ∷ number 0 ∷ [])
    ∷ []

-- one datagram, with its header by the names of its fields; and runs
unfoldable pub inputs : List Example
unfolding w desc decodes runs
inputs =
    -- a datagram whose agent has an address of type 1: sub-agent, sequence, uptime, sample count
    decodes (0x00000005 ∷ 0x00000001 ∷ 0x11121314 ∷ 0x15161718 ∷ 0x191a1b1c ∷ 0x1d1e1f20 ∷ 0x00000002 ∷ 0x00001001 ∷ 0x00000001 ∷ 0x71f1f2f3 ∷ 0x00001002 ∷ 0x00000001 ∷ 0x72f1f2f3 ∷ [])
    52 11 3 (record { address_type = 1; address = w (0x11121314 ∷ []) ++ replicate 12 0; sub_agent = 0x15161718; sequence = 0x191a1b1c; uptime = 0x1d1e1f20; sample_count = 2 })
    (desc 0 0 0 52 4294967295 0 0 ∷ desc 1 4097 36 1 0 0 28 ∷ desc 1 4098 48 1 0 0 40 ∷ [])
    -- a datagram whose agent has an address of type 2: sub-agent, sequence, uptime, sample count
    ∷ decodes (0x00000005 ∷ 0x00000002 ∷ 0x11121314 ∷ 0x15161718 ∷ 0x191a1b1c ∷ 0x1d1e1f20 ∷ 0x21222324 ∷ 0x25262728 ∷ 0x292a2b2c ∷ 0x00000003 ∷ 0x00001001 ∷ 0x00000001 ∷ 0x71f1f2f3 ∷ 0x00001002 ∷ 0x00000001 ∷ 0x72f1f2f3 ∷ 0x00001003 ∷ 0x00000001 ∷ 0x73f1f2f3 ∷ [])
    76 13 4 (record { address_type = 2; address = w (0x11121314 ∷ 0x15161718 ∷ 0x191a1b1c ∷ 0x1d1e1f20 ∷ []); sub_agent = 0x21222324; sequence = 0x25262728; uptime = 0x292a2b2c; sample_count = 3 })
    (desc 0 0 0 76 4294967295 0 0 ∷ desc 1 4097 48 1 0 0 40 ∷ desc 1 4098 60 1 0 0 52 ∷ desc 1 4099 72 1 0 0 64 ∷ [])
    -- a datagram whose agent has an address of type 0: sub-agent, sequence, uptime, sample count
    ∷ decodes (0x00000005 ∷ 0x00000000 ∷ 0x11121314 ∷ 0x15161718 ∷ 0x191a1b1c ∷ 0x00000001 ∷ 0x00000002 ∷ 0x0000003c ∷ 0x11121314 ∷ 0x15161718 ∷ 0x00000002 ∷ 0x00000005 ∷ 0x0000001c ∷ 0x11121314 ∷ 0x15161718 ∷ 0x191a1b1c ∷ 0x1d1e1f20 ∷ 0x21222324 ∷ 0x25262728 ∷ 0x292a2b2c ∷ 0x00001005 ∷ 0x00000004 ∷ 0x71727374 ∷ [])
    92 21 4 (record { address_type = 0; address = replicate 16 0; sub_agent = 0x11121314; sequence = 0x15161718; uptime = 0x191a1b1c; sample_count = 1 })
    (desc 0 0 0 92 4294967295 0 0 ∷ desc 1 2 32 60 0 0 24 ∷ desc 3 5 52 28 1 1 44 ∷ desc 3 4101 88 4 1 1 80 ∷ [])
    -- the first of these as a run
    ∷ runs (0x00000005 ∷ 0x00000001 ∷ 0x11121314 ∷ 0x15161718 ∷ 0x191a1b1c ∷ 0x1d1e1f20 ∷ 0x00000002 ∷ 0x00001001 ∷ 0x00000001 ∷ 0x71f1f2f3 ∷ 0x00001002 ∷ 0x00000001 ∷ 0x72f1f2f3 ∷ [])
    52 11 3 (desc 0 0 0 52 4294967295 0 0 ∷ desc 1 4097 36 1 0 0 28 ∷ desc 1 4098 48 1 0 0 40 ∷ [])
    -- the same, and behind it the first word of another, which ends the run
    ∷ runs (0x00000005 ∷ 0x00000001 ∷ 0x11121314 ∷ 0x15161718 ∷ 0x191a1b1c ∷ 0x1d1e1f20 ∷ 0x00000002 ∷ 0x00001001 ∷ 0x00000001 ∷ 0x71f1f2f3 ∷ 0x00001002 ∷ 0x00000001 ∷ 0x72f1f2f3 ∷ 0x00000005 ∷ [])
    52 12 3 (desc 0 0 0 52 4294967295 0 0 ∷ desc 1 4097 36 1 0 0 28 ∷ desc 1 4098 48 1 0 0 40 ∷ [])
    ∷ []

-- refusals that only a datagram meets
unfoldable pub undecoded : List Example
unfolding stops
undecoded =
    -- no room: the store has a word less than two descriptors take
    stops (0x00000005 ∷ 0x00000001 ∷ 0x11121314 ∷ 0x15161718 ∷ 0x191a1b1c ∷ 0x1d1e1f20 ∷ 0x00000001 ∷ 0x00001001 ∷ 0x00000001 ∷ 0x71f1f2f3 ∷ [])
    13 9 0 9 2
    -- a counter record is cut, behind the first word of its u64
    ∷ stops (0x00000005 ∷ 0x00000001 ∷ 0x11121314 ∷ 0x15161718 ∷ 0x191a1b1c ∷ 0x1d1e1f20 ∷ 0x00000001 ∷ 0x00000002 ∷ 0x0000001c ∷ 0x11121314 ∷ 0x15161718 ∷ 0x00000001 ∷ 0x00000005 ∷ 0x00000008 ∷ 0x00000001 ∷ 0x00000000 ∷ [])
    200 2 60 15 0
    -- a record would begin at depth 9: eight aggregations, each in the other's PDU
    ∷ stops (0x00000005 ∷ 0x00000001 ∷ 0x11121314 ∷ 0x15161718 ∷ 0x191a1b1c ∷ 0x1d1e1f20 ∷ 0x00000001 ∷ 0x00000001 ∷ 0x000000a0 ∷ 0x11121314 ∷ 0x15161718 ∷ 0x191a1b1c ∷ 0x1d1e1f20 ∷ 0x21222324 ∷ 0x25262728 ∷ 0x292a2b2c ∷ 0x00000001 ∷ 0x000003f8 ∷ 0x00000078 ∷ 0x00000001 ∷ 0x00000001 ∷ 0x000003f8 ∷ 0x00000068 ∷ 0x00000001 ∷ 0x00000001 ∷ 0x000003f8 ∷ 0x00000058 ∷ 0x00000001 ∷ 0x00000001 ∷ 0x000003f8 ∷ 0x00000048 ∷ 0x00000001 ∷ 0x00000001 ∷ 0x000003f8 ∷ 0x00000038 ∷ 0x00000001 ∷ 0x00000001 ∷ 0x000003f8 ∷ 0x00000028 ∷ 0x00000001 ∷ 0x00000001 ∷ 0x000003f8 ∷ 0x00000018 ∷ 0x00000001 ∷ 0x00000001 ∷ 0x000003f8 ∷ 0x00000008 ∷ 0x00000001 ∷ 0x00000001 ∷ [])
    200 8 196 49 0
    ∷ []

pub examples : List Example
unfolding flow_records counter_records sample_fields headers segments spans list_words two_modes refusals inputs undecoded
examples = flow_records ++ counter_records ++ sample_fields ++ headers ++ segments ++ spans ++ list_words ++ two_modes ++ refusals ++ inputs ++ undecoded

pub the_examples_hold : (mode : Mode) → map (λ (e : Example). e.call mode e.input) examples ≡ map (λ (e : Example). e.result) examples
unfolding examples be4 be8 among utf8 longest_to known header_protocols follow read_item address_of run_of field fields last_number opened flows flow counters samples datagram_to size rows header_of no_header valued reading layout_of answered read segment_at stored one tried datagrams run list_word_of payload_span_of whole_span_of
the_examples_hold mode = refl
