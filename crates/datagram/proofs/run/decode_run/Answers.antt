use Rattle.layout.specs.Shown.{mode_of}
use Rattle.datagram.proofs.Deciding.{run_end, run_no_room, run_part, run_ready, run_stays, run_stored, run_too_long}
use Rattle.datagram.proofs.run.decode_run.Goals as goal

pub returns-then-s-gt-MAX_INPUT_SIZE : goal.returns-then-s-gt-MAX_INPUT_SIZE
returns-then-s-gt-MAX_INPUT_SIZE c =
    let e = run_too_long (mode_of c.args.mode) c.args.s.now c.args.store.now c.if-s-gt-MAX_INPUT_SIZE.true in
    rw (c.into.ensures, c.refusal.ensures) e

pub returns-in-Err : goal.returns-in-Err
returns-in-Err c = rw c.into-in-Err.ensures (run_stays (mode_of c.args.mode) _ _ c.if-s-gt-MAX_INPUT_SIZE.false c.in-Err.ensures)

pub returns-then-store-k : goal.returns-then-store-k
returns-then-store-k c = rw c.no_room.ensures (run_no_room (mode_of c.args.mode) _ _ c.if-s-gt-MAX_INPUT_SIZE.false c.in-Ok.ensures c.if-store-k.true)

pub slice_bounds-put_run-end : goal.slice_bounds-put_run-end
slice_bounds-put_run-end c = run_part (mode_of c.args.mode) _ c.args.store.now c.if-s-gt-MAX_INPUT_SIZE.false c.in-Ok.ensures

pub put_run-requires-clause-ready : goal.put_run-requires-clause-ready
put_run-requires-clause-ready c = run_ready (mode_of c.args.mode) _ _ c.if-s-gt-MAX_INPUT_SIZE.false c.in-Ok.ensures c.if-store-k.false

pub put_run-requires-clause-s_len : goal.put_run-requires-clause-s_len
put_run-requires-clause-s_len c = run_end (mode_of c.args.mode) _ c.args.store.now c.if-s-gt-MAX_INPUT_SIZE.false c.in-Ok.ensures

pub returns-else-store-k : goal.returns-else-store-k
returns-else-store-k c = run_stored (mode_of c.args.mode) _ _ c.if-s-gt-MAX_INPUT_SIZE.false c.in-Ok.ensures c.if-store-k.false c.put_run.ensures
