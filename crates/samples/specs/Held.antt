-- What a sample holds, in terms of the reading. Assumes nothing.
use Rattle.std.specs.Prelude.{ℕ, ◌≤◌, ◌≡◌}
use Rattle.reading.specs.Sizes.{depth_limit}
use Rattle.reading.specs.Script.{Script, give, repeat, nothing}
use Rattle.reading.specs.Cursor.{Reader, got, then}
use Rattle.reading.specs.Layout.{Mode, fields, words, last_number, opened, flow, counter, samples}
use Rattle.reading.proofs.Fields.{fields_out}
use Rattle.samples.specs.declared.kinds.SampleKind.{SampleKind}
use Rattle.samples.specs.declared.kinds.SampleKind.TheVariants as kind

-- ---- what a sample holds

abbrev pub counted_by_last : ℕ → Script → Script
counted_by_last n body = fields (words n) (λ us. repeat (last_number us) body (λ a. give a))

abbrev pub held : Mode → SampleKind → Script
held mode (kind.Flows n) = counted_by_last n (flow mode depth_limit depth_limit)
held mode (kind.Counters n) = counted_by_last n counter
held mode kind.Raw = give nothing

abbrev pub words_of : SampleKind → ℕ
words_of (kind.Flows n) = n
words_of (kind.Counters n) = n
words_of kind.Raw = 1

-- the words that stand behind all others before flow records
abbrev pub eight_of : SampleKind → ℕ
eight_of (kind.Flows n) = 8
eight_of (kind.Counters n) = 0
eight_of kind.Raw = 0

pub record IsKind (r : SampleKind) (f : ℕ) : Type 0 where
  pub is : (mode : Mode) → opened (samples mode depth_limit) f ≡ held mode r
  pub some : 1 ≤ words_of r
  pub few : words_of r ≤ 11
  pub eight : eight_of r ≤ words_of r

-- the last of n words
abbrev pub last_of : ℕ → Reader ℕ
last_of n s p = then (fields_out (words n) s p) (λ vs q. got (last_number vs) q)
