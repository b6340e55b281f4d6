use Rattle.std.proofs.Common.{rules}
use Rattle.reading.proofs.Words.{run_row, run_cut}
use Rattle.layout.proofs.Laws.{after_field}
use Rattle.datagram.proofs.Heads.{heads_stop, heads_halt, heads_words}
use Rattle.datagram.proofs.header.row.Goals as goal

pub parse_address-requires : goal.parse_address-requires
parse_address-requires c = after_field _ _ c.requires _ c.in_ok-c.ensures

pub read_words-requires : goal.read_words-requires
read_words-requires c = after_field _ _ (after_field _ _ c.requires _ c.in_ok-c.ensures) _ c.in_ok-c-2.ensures

pub returns-in_err-c : goal.returns-in_err-c
returns-in_err-c c = let e = heads_stop _ _ c.in_err-c.ensures in search rules

pub returns-in_err-c-2 : goal.returns-in_err-c-2
returns-in_err-c-2 c = let e = heads_halt _ _ c.in_ok-c.ensures c.in_err-c-2.ensures in search rules

pub returns-in_err-end : goal.returns-in_err-end
returns-in_err-end c =
    let i = after_field _ _ (after_field _ _ c.requires _ c.in_ok-c.ensures) _ c.in_ok-c-2.ensures in
    let e = heads_words _ _ c.in_ok-c.ensures c.in_ok-c-2.ensures (run_cut _ _ _ i.inside c.in_err-end.ensures) in
    search rules

pub returns : goal.returns
returns c =
    let i = after_field _ _ (after_field _ _ c.requires _ c.in_ok-c.ensures) _ c.in_ok-c-2.ensures in
    let r = run_row _ _ _ i.inside c.in_ok-end.ensures in
    record { words = heads_words _ _ c.in_ok-c.ensures c.in_ok-c-2.ensures r.1; there = r.0 }
