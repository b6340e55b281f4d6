use Rattle.datagram.proofs.Running.{first_ready, next_end, next_inside, next_less, next_placed, next_ready, run_all}
use Rattle.datagram.proofs.run.put_run.Goals as goal

pub put_next-w-requires-clause-ready : goal.put_next-w-requires-clause-ready
put_next-w-requires-clause-ready c = first_ready _ _ _ _ _ c.loop-cur.invariant.ready c.loop-cur.invariant.inside c.loop-cur.invariant.ends c.loop-cur-test.true

pub loop-cur-smaller : goal.loop-cur-smaller
loop-cur-smaller c = next_less _ _ _ _ _ c.loop-cur.invariant.ready c.loop-cur.invariant.inside c.loop-cur.invariant.ends c.loop-cur-test.true c.put_next-w.ensures

pub loop-cur-preserved : goal.loop-cur-preserved
loop-cur-preserved c = record {
  inside = next_inside _ _ _ _ _ c.loop-cur.invariant.ready c.loop-cur.invariant.inside c.loop-cur.invariant.ends c.loop-cur-test.true c.put_next-w.ensures;
  ends = next_end _ _ _ _ _ c.loop-cur.invariant.ready c.loop-cur.invariant.inside c.loop-cur.invariant.ends c.loop-cur-test.true c.put_next-w.ensures;
  ready = next_ready _ _ _ _ _ c.loop-cur.invariant.ready c.loop-cur.invariant.inside c.loop-cur.invariant.ends c.loop-cur-test.true c.put_next-w.ensures;
  same = next_placed _ _ _ _ _ c.loop-cur.invariant.ready c.loop-cur.invariant.inside c.loop-cur.invariant.ends c.loop-cur-test.true c.put_next-w.ensures c.loop-cur.invariant.same;
}

pub returns : goal.returns
returns c = run_all _ _ _ _ _ c.loop-cur.invariant.ready c.loop-cur.invariant.inside c.loop-cur.invariant.ends _ c.loop-cur-test.false c.loop-cur.invariant.same
