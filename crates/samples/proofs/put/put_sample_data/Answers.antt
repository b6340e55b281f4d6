use Rattle.reading.specs.Sizes.{depth_limit}
use Rattle.reading.specs.Layout.{base as base_mode, flow, counter}
use Rattle.samples.proofs.Placed.{arm_filled, arm_inner, arm_word, placed_fills, raw_filled}
use Rattle.samples.proofs.put.put_sample_data.Goals as goal

pub be32-n-requires : goal.be32-n-requires
be32-n-requires c =
    let q = rw c.in-Flows.is at c.kind_of.ensures in
    arm_word (flow base_mode depth_limit depth_limit) _ _ _ _ _ _ c.requires.ready c.requires.at_in_bounds (q.is base_mode) q.some

pub put_sample_flows-requires : goal.put_sample_flows-requires
put_sample_flows-requires c =
    let q = rw c.in-Flows.is at c.kind_of.ensures in
    arm_inner (flow base_mode depth_limit depth_limit) _ _ _ _ _ _ c.requires.ready c.requires.at_in_bounds (q.is base_mode) q.some c.be32-n.ensures

pub returns-in-Flows : goal.returns-in-Flows
returns-in-Flows c =
    let q = rw c.in-Flows.is at c.kind_of.ensures in
    arm_filled (flow base_mode depth_limit depth_limit) _ _ _ _ _ _ c.requires.ready c.requires.at_in_bounds (q.is base_mode) q.some c.be32-n.ensures c.put_sample_flows.ensures

pub be32-n-requires-in-Counters : goal.be32-n-requires-in-Counters
be32-n-requires-in-Counters c =
    let q = rw c.in-Counters.is at c.kind_of.ensures in
    arm_word counter _ _ _ _ _ _ c.requires.ready c.requires.at_in_bounds (q.is base_mode) q.some

pub put_counter_records-requires : goal.put_counter_records-requires
put_counter_records-requires c =
    let q = rw c.in-Counters.is at c.kind_of.ensures in
    arm_inner counter _ _ _ _ _ _ c.requires.ready c.requires.at_in_bounds (q.is base_mode) q.some c.be32-n-in-Counters.ensures

pub returns-in-Counters : goal.returns-in-Counters
returns-in-Counters c =
    let q = rw c.in-Counters.is at c.kind_of.ensures in
    arm_filled counter _ _ _ _ _ _ c.requires.ready c.requires.at_in_bounds (q.is base_mode) q.some c.be32-n-in-Counters.ensures (placed_fills _ _ _ c.put_counter_records.ensures)

pub returns-in-Raw : goal.returns-in-Raw
returns-in-Raw c = raw_filled _ _ _ _ (rw c.in-Raw.is at c.kind_of.ensures)
