-- Widths as the code has them. Assumes nothing.
use Rattle.std.specs.Prelude.{ℕ, cond, List, [], ◌∷◌, eqb}
use Rattle.reading.specs.Layout.{Size, u32, u64, Fixed, counters}
use Rattle.counters.specs.declared.data.Width.{Width}
use Rattle.counters.specs.declared.data.Width.TheVariants.{U32, U64}

abbrev pub size : Width → Size
size U32 = u32
size U64 = u64

abbrev pub sizes : List Width → List Size
sizes [] = []
sizes (w ∷ l) = size w ∷ sizes l

-- the widths of a format
abbrev pub sizes_at : List Fixed → ℕ → List Size
sizes_at [] f = []
sizes_at (x ∷ rest) f = cond (eqb x.format f) x.sizes (sizes_at rest f)

unfoldable pub sizes_of : (format : ℕ) → List Size
sizes_of f = sizes_at counters f
