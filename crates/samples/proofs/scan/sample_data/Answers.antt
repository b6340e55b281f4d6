use Rattle.std.proofs.Common.{rules, refl}
use Rattle.reading.specs.Layout.{counter, flow}
use Rattle.reading.specs.Sizes.{depth_limit}
use Rattle.layout.specs.Shown.{mode_of}
use Rattle.samples.proofs.Sampling.{raw_held, rows_held, rows_scan, rows_stop}
use Rattle.samples.proofs.scan.sample_data.Goals as goal

pub returns-in_err-n-in-Flows : goal.returns-in_err-n-in-Flows
returns-in_err-n-in-Flows c =
    let e = rows_stop (mode_of c.args.mode) c.kind_of.ensures _ _ c.args.count c.in-Flows.is c.in-Flows.words (flow (mode_of c.args.mode) depth_limit depth_limit) refl c.in_err-n-in-Flows.ensures in
    search rules

pub flow_records-requires : goal.flow_records-requires
flow_records-requires c = rows_scan _ _ _ _ c.requires c.in_ok-n-in-Flows.ensures

pub returns-in_err-n-in-Counters : goal.returns-in_err-n-in-Counters
returns-in_err-n-in-Counters c =
    let e = rows_stop (mode_of c.args.mode) c.kind_of.ensures _ _ c.args.count c.in-Counters.is c.in-Counters.words counter refl c.in_err-n-in-Counters.ensures in
    search rules

pub counter_records-requires : goal.counter_records-requires
counter_records-requires c = rows_scan _ _ _ _ c.requires c.in_ok-n-in-Counters.ensures

pub returns-in_ok-n-in-Flows : goal.returns-in_ok-n-in-Flows
returns-in_ok-n-in-Flows c = rows_held (mode_of c.args.mode) c.kind_of.ensures _ _ _ c.in-Flows.is c.in-Flows.words (flow (mode_of c.args.mode) depth_limit depth_limit) refl c.in_ok-n-in-Flows.ensures c.flow_records.ensures

pub returns-in_ok-n-in-Counters : goal.returns-in_ok-n-in-Counters
returns-in_ok-n-in-Counters c = rows_held (mode_of c.args.mode) c.kind_of.ensures _ _ _ c.in-Counters.is c.in-Counters.words counter refl c.in_ok-n-in-Counters.ensures c.counter_records.ensures

pub returns-in-Raw : goal.returns-in-Raw
returns-in-Raw c = raw_held _ c.kind_of.ensures _ _ _ c.in-Raw.is
