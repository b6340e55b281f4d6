use Rattle.std.proofs.Common.{rules}
use Rattle.reading.specs.Cursor.{fixed, read_item}
use Rattle.reading.proofs.Fields.{field_out}
use Rattle.layout.proofs.Protocols.{in_table, off_table}
use Rattle.layout.proofs.field.protocol.Goals as goal

pub returns-in-1-to-17 : goal.returns-in-1-to-17
unfolding field_out read_item fixed
returns-in-1-to-17 c = let e = in_table c.in_ok-protocol.protocol (search rules) (search rules) in search rules

pub returns-in_default : goal.returns-in_default
unfolding field_out read_item fixed
returns-in_default c = let e = off_table c.in_ok-protocol.protocol (λ l. search rules) in search rules
