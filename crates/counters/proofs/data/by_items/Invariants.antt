use Rattle.std.proofs.Common.{◌≡◌, drop}
use Rattle.reading.specs.Layout.{widths}
use Rattle.xdr.specs.Shown.{Inside, place}
use Rattle.layout.specs.Passing.{passing}
use Rattle.counters.specs.Sizes.{sizes}
use Rattle.counters.proofs.data.by_items.Given as goal

abbrev pub invariant-loop-width : goal.invariant-loop-width
invariant-loop-width l = Inside l.s l.end × (passing (widths (sizes (drop l.width-index l.row))) l.s (place l.end) ≡ passing (widths (sizes l.row)) l.s (place l.fn.c))
