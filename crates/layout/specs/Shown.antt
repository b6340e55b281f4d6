-- What this crate's modes, segments and frames are in terms of the reading. Assumes nothing.
use Rattle.std.specs.Prelude.{ℕ, List, [], ◌∷◌}
use Rattle.reading.specs.Script.{Value, number, part}
use Rattle.reading.specs.Cursor.{Out}
use Rattle.reading.specs.Layout as reading
use Rattle.reading.specs.Layout.{memo, base}
use Rattle.reading.proofs.Counts.{Framing, framing}
use Rattle.xdr.specs.declared.Cursor.{Cursor}
use Rattle.xdr.specs.Shown.{Read, read_out, span}
use Rattle.layout.specs.declared.field.Mode.{Mode}
use Rattle.layout.specs.declared.field.Mode.TheVariants as a_mode
use Rattle.layout.specs.declared.frames.Frame.{Frame}
use Rattle.layout.specs.declared.lists.Segment.{Segment}

abbrev pub mode_of : Mode → reading.Mode
mode_of a_mode.Memo = memo
mode_of a_mode.Base = base

-- the values of a segment's fields, in the order of the layout
abbrev pub a_segment : Segment → List Value
a_segment r = number r.kind ∷ part (span r.path) ∷ []

abbrev pub a_frame : Frame → Framing
a_frame r = framing r.format (span r.payload)

-- the cursor at a frame's payload, with the steps up to behind the frame
abbrev pub first_of : Frame → Cursor → Cursor
first_of r behind = record { at = r.payload.start; steps = behind.steps }

-- a count of descriptors, and the cursor behind them
abbrev pub scanned_out : Read ℕ → Out ℕ
scanned_out = read_out (λ k. k)
