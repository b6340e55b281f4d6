-- The values of a layout that is read alone, and zero for what a refusal does not give. Assumes nothing.
use Rattle.std.specs.Prelude.{ℕ, List, [], ◌∷◌, pos, replicate}
use Rattle.reading.specs.Script.{octet_count, Value, number, integer, octets, address, part, bare, Found, Item, word, tested, long, int, block, opaque, string, Script, give}
use Rattle.reading.specs.Cursor.{Place, Out, got, stop, follow}
use Rattle.reading.specs.Layout.{Field, plain, mac, addr, list, segments, fields}

abbrev pub zero_item : Item → Value
zero_item word = number 0
zero_item (tested ok code) = number 0
zero_item long = number 0
zero_item int = integer (pos 0)
zero_item (block w) = octets (replicate (octet_count w) 0)
zero_item opaque = part (record { start = 0; count = 0 })
zero_item string = part (record { start = 0; count = 0 })

abbrev pub zero_field : Field → Value
zero_field (plain i) = zero_item i
zero_field mac = octets (replicate 6 0)
zero_field addr = address 0 (replicate 16 0)
zero_field list = part (record { start = 0; count = 0 })
zero_field segments = part (record { start = 0; count = 0 })

abbrev pub zeros : List Field → List Value
zeros [] = []
zeros (f ∷ rest) = zero_field f ∷ zeros rest

-- a layout's values, and nothing else
abbrev pub alone : List Field → Script
alone l = fields l (λ vs. give (record { values = vs; ranges = bare }))

-- what a layout gives at a place, with its values beside it: all zero on a refusal
pub record Reading : Type 0 where
  pub out : Out Found
  pub values : List Value

unfoldable pub valued : List Field → Out Found → Reading
valued l (got a p) = record { out = got a p; values = a.values }
valued l (stop c a n) = record { out = stop c a n; values = zeros l }

unfoldable pub reading : List Field → List ℕ → Place → Reading
reading l s p = valued l (follow (alone l) s p)
