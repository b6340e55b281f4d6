-- The words that a call leaves in the store are a descriptor's, as it is handed over. Assumes nothing.
use Prim.Native.Nat.{ℕ}
use mathlib.Core.Path.{◌≡◌, refl}
use mathlib.Core.List.{List}
use Rattle.reading.specs.Script.{Range}
use Rattle.reading.specs.Layout.{Mode}
use Rattle.reading.specs.Answer.{row_of, read}
use Rattle.fields.specs.Shown.{HasWords, read_at}

-- the words of a range in the store, whose parent has index p, are its descriptor's
module _ (p : ℕ) (r : Range) where
  pub stored_descriptor : HasWords (row_of p r) (record {
    kind = r.kind;
    format = record { 0 = r.format };
    start = r.span.start;
    length = r.span.count;
    parent = p;
    depth = r.depth;
    first = r.first;
  })
  stored_descriptor = record { kind = refl; format = refl; start = refl; extent = refl; parent = refl; depth = refl; first = refl }

  -- so a call that takes them reads that range
  pub stored_read : (mode : Mode) (k f : ℕ) (s : List ℕ) → read_at mode k f s (row_of p r) ≡ read mode k f s r.kind r.format r.span.start r.span.count
  stored_read mode k f s = refl
