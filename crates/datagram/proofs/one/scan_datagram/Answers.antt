use Rattle.std.proofs.Common.{rules}
use Rattle.reading.specs.Layout.{last_number}
use Rattle.layout.specs.Shown.{mode_of}
use Rattle.datagram.proofs.OneDatagram.{header_held, header_scan, header_stop}
use Rattle.datagram.proofs.one.scan_datagram.Goals as goal

pub returns-in_err-header : goal.returns-in_err-header
returns-in_err-header c = let e = header_stop (mode_of c.args.mode) _ _ c.args.count c.in_err-header.ensures in search rules

pub samples-requires : goal.samples-requires
samples-requires c = header_scan (mode_of c.args.mode) _ _ _ c.in_ok-header.ensures c.requires

pub returns : goal.returns
unfolding last_number
returns c = header_held (mode_of c.args.mode) _ _ _ c.in_ok-header.ensures c.samples.ensures
