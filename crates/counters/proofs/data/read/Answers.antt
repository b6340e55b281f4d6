use Rattle.std.proofs.Common.{rules}
use Rattle.counters.specs.Sizes.{sizes_of}
use Rattle.xdr.specs.Shown.{place}
use Rattle.counters.proofs.There.{there, not_there}
use Rattle.counters.proofs.data.read.Goals as goal

pub returns-in_err-end : goal.returns-in_err-end
returns-in_err-end c = let e = not_there _ (sizes_of c.args.format) (place c.args.c) c.in_err-end.ensures in search rules

pub returns : goal.returns
returns c =
    let e = there _ (sizes_of c.args.format) (place c.args.c) c.requires.inside c.in_ok-end.ensures in
    record { numbers = e.0; has_bytes = e.1 }
