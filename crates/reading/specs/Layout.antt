-- The layouts (docs/RULES.md, 3), as scripts: the three tables row by row, and the frames around them. Assumes nothing.
use Rattle.std.specs.Prelude.{ℕ, zero, suc, ◌+◌, ◌-◌, cond, List, [], ◌∷◌, ◌++◌, replicate, take, eqb, leb}
use Rattle.reading.specs.Numbers.{known, header_protocols}
use Rattle.reading.specs.Sizes.{depth_limit}
use Rattle.reading.specs.Script.{Width, four, six, eight, sixteen, Span, Value, number, integer, octets, address, part, Forest, bare, tree, Found, nothing, Item, word, tested, long, block, opaque, string, Script, give, refuse, here, item, within, repeat}

-- ---- fields

-- a value's number, and 0 of what is none
abbrev pub num : Value → ℕ
num (number n) = n
num (integer z) = 0
num (octets b) = 0
num (address t b) = 0
num (part x) = 0

-- a value's bytes
abbrev pub oct : Value → List ℕ
oct (number n) = []
oct (integer z) = []
oct (octets b) = b
oct (address t b) = b
oct (part x) = []

pub data Field : Type 0 where
  plain : Item → Field
  -- one block of 8 bytes: 6, and 2 that are skipped
  mac : Field
  -- "addr": a type word: 0 nothing more, 1 four bytes, 2 sixteen
  addr : Field
  -- "list": a count word and that many words
  list : Field
  -- a segment count, and per segment a type and a list
  segments : Field

-- an address of this type, unused bytes zero
unfoldable pub address_of : ℕ → (Value → Script) → Script
address_of zero k = k (address 0 (replicate 16 0))
address_of (suc zero) k = item (block four) (λ b. k (address 1 (oct b ++ replicate 12 0)))
address_of (suc (suc t)) k = item (block sixteen) (λ b. k (address 2 (oct b)))

-- a word whose value is not asked for
abbrev pub any_word : Script
any_word = item word (λ _. give nothing)

-- a count word and that many of `body`: where the first begins, and how many
unfoldable pub run_of : Script → (Value → Script) → Script
run_of body k = item word (λ n. here (λ at. repeat (num n) body (λ _. k (part (record { start = at; count = num n })))))

-- a type and a list
abbrev pub segment : Script
segment = item word (λ _. run_of any_word (λ _. give nothing))

unfoldable pub field : Field → (Value → Script) → Script
field (plain i) k = item i k
field mac k = item (block eight) (λ b. k (octets (take 6 (oct b))))
field addr k = item (tested (λ t. leb t 2) 4) (λ t. address_of (num t) k)
field list k = run_of any_word k
field segments k = run_of segment k

unfoldable pub fields : List Field → (List Value → Script) → Script
fields [] k = k []
fields (f ∷ rest) k = field f (λ v. fields rest (λ vs. k (v ∷ vs)))

-- ---- rows

-- a format, its fields, and what follows them
pub record Row : Type 0 where
  pub format : ℕ
  pub layout : List Field
  pub more : List Value → Script

-- the number of the last field, which counts what follows
unfoldable pub last_number : List Value → ℕ
last_number [] = 0
last_number (v ∷ []) = num v
last_number (v ∷ w ∷ vs) = last_number (w ∷ vs)

infix 5 ◌⟼◌
abbrev pub ◌⟼◌ : ℕ → List Field → Row
f ⟼ l = record { format = f; layout = l; more = λ _. give nothing }

infix 5 ◌⟼◌each◌
abbrev pub ◌⟼◌each◌ : ℕ → List Field → Script → Row
f ⟼ l each body = record { format = f; layout = l; more = λ vs. repeat (last_number vs) body (λ a. give a) }

-- what the opaque of a format holds, and nothing where no row has it: such an opaque stays raw
unfoldable pub opened : List Row → ℕ → Script
opened [] f = give nothing
opened (r ∷ rest) f = cond (eqb r.format f) (fields r.layout r.more) (opened rest f)

abbrev pub words : ℕ → List Field
words n = replicate n (plain word)

abbrev pub bytes : Width → Field
bytes w = plain (block w)

-- how the addresses of a sampled Ethernet record stand: padded to a multiple of four, as the memo has them, or bare, as the crate reads them
pub data Mode : Type 0 where
  memo base : Mode

abbrev pub ethernet : Mode → Field
ethernet memo = mac
ethernet base = bytes six

abbrev pub str : Field
str = plain string

abbrev pub version : Field
version = plain (tested (λ v. eqb v 5) 3)

abbrev pub protocol : Field
protocol = plain (tested (known header_protocols) 6)

-- ---- fixed layouts

-- the width of a field that is a number: a word's, or a u64's
pub data Size : Type 0 where
  u32 u64 : Size

abbrev pub size_of : Size → ℕ
size_of u32 = 4
size_of u64 = 8

abbrev pub sized : Size → Field
sized u32 = plain word
sized u64 = plain long

-- the layout with these widths, and its bytes
abbrev pub widths : List Size → List Field
widths [] = []
widths (z ∷ rest) = sized z ∷ widths rest

abbrev pub total : List Size → ℕ
total [] = 0
total (z ∷ rest) = size_of z + total rest

-- so many words
abbrev pub u32s : ℕ → List Size
u32s n = replicate n u32

-- a format, and the widths of its fields in their order
pub record Fixed : Type 0 where
  pub format : ℕ
  pub sizes : List Size

infix 5 ◌∶◌
abbrev pub ◌∶◌ : ℕ → List Size → Fixed
f ∶ l = record { format = f; sizes = l }

-- a table of them, row by row
abbrev pub fixed_rows : List Fixed → List Row
fixed_rows [] = []
fixed_rows (x ∷ rest) = (x.format ⟼ widths x.sizes) ∷ fixed_rows rest

-- ---- frames

-- one range, with what is inside it; `o` is the first byte
abbrev pub ranged : (kind format depth first : ℕ) → Span → Forest → Forest
ranged k f d o x inner = tree (record { kind = k; format = f; span = x; depth = d; first = o }) inner bare

-- what is found of no value, in these ranges
abbrev pub only : Forest → Found
only r = record { values = []; ranges = r }

-- the range from `a` to before `e`
abbrev pub between : ℕ → ℕ → Span
between a e = record { start = a; count = e - a }

-- a format word and an opaque that holds what `body` says of that format
abbrev pub framed : (kind depth : ℕ) → (ℕ → Script) → Script
framed k d body = here (λ o. item word (λ f. within (body (num f)) (λ x a. give (only (ranged k (num f) d o x a.ranges)))))

-- a PDU: a record count and its records; its range is from after the count to the end of the last record
abbrev pub pdu : (depth : ℕ) → Script → Script
pdu d body = here (λ o. item word (λ n. here (λ a. repeat (num n) body (λ r. here (λ e. give (only (ranged 4 0 d o (between a e) r.ranges)))))))

-- ---- the three tables (docs/RULES.md, R3.3, R3.7 and R3.8)

-- the flow records that are opened; `inner` is a PDU of this record
unfoldable pub flows : Mode → (inner : Script) → List Row
flows mode inner =
    (1 ⟼ protocol ∷ words 2 ++ plain opaque ∷ [])
    ∷ (2 ⟼ words 1 ++ ethernet mode ∷ ethernet mode ∷ words 1)
    ∷ (3 ⟼ words 8)
    ∷ (4 ⟼ words 2 ++ bytes sixteen ∷ bytes sixteen ∷ words 4)
    ∷ (1001 ⟼ words 4)
    ∷ (1002 ⟼ addr ∷ words 2)
    ∷ (1003 ⟼ addr ∷ words 3 ++ segments ∷ list ∷ words 1)
    ∷ (1004 ⟼ words 1 ++ str ∷ words 1 ++ str ∷ [])
    ∷ (1005 ⟼ words 1 ++ str ∷ str ∷ [])
    ∷ (1006 ⟼ addr ∷ list ∷ list ∷ [])
    ∷ (1007 ⟼ addr ∷ addr ∷ [])
    ∷ (1008 ⟼ str ∷ words 2)
    ∷ (1009 ⟼ str ∷ words 3)
    ∷ (1010 ⟼ addr ∷ words 1)
    ∷ (1011 ⟼ words 1)
    ∷ (1012 ⟼ list ∷ [])
    ∷ (1013 ⟼ words 1 ++ plain opaque ∷ [])
    ∷ (1014 ⟼ str ∷ mac ∷ words 2 ++ plain long ∷ words 3)
    ∷ (1015 ⟼ str ∷ mac ∷ words 5 ++ plain long ∷ words 1)
    ∷ (1016 ⟼ words 1 each inner)
    ∷ []

-- a flow record, with `left` of the levels to the limit left: where none is left it may not begin
unfoldable pub flow : Mode → (limit left : ℕ) → Script
flow mode limit zero = refuse 8
flow mode limit (suc left) = framed 2 (limit - left) (opened (flows mode (pdu (limit - left) (flow mode limit left))))

-- the counter records that are opened, by the widths of their fields
unfoldable pub counters : List Fixed
counters =
    (1 ∶ u32s 2 ++ u64 ∷ u32s 2 ++ u64 ∷ u32s 6 ++ u64 ∷ u32s 6)  -- generic interface
    ∷ (2 ∶ u32s 13)  -- Ethernet
    ∷ (3 ∶ u32s 18)  -- token ring
    ∷ (4 ∶ u32 ∷ u64 ∷ u32 ∷ u64 ∷ u32s 5 ++ u64 ∷ u32 ∷ u64 ∷ u64 ∷ u64 ∷ [])  -- 100BaseVG
    ∷ (5 ∶ u32 ∷ u64 ∷ u32s 4)  -- VLAN
    ∷ (1001 ∶ u32s 3 ++ u64 ∷ u64 ∷ [])  -- processor
    ∷ []

abbrev pub counter : Script
counter = framed 3 1 (opened (fixed_rows counters))

-- the samples that are opened; their own records have depth 1
unfoldable pub samples : Mode → (limit : ℕ) → List Row
samples mode limit =
    (1 ⟼ words 8 each flow mode limit limit)  -- sequence, source, rate, pool, drops, input, output, count
    ∷ (2 ⟼ words 3 each counter)  -- sequence, source, count
    ∷ (3 ⟼ words 11 each flow mode limit limit)  -- as 1, with source, input and output two words each
    ∷ (4 ⟼ words 4 each counter)  -- as 2, with source two words
    ∷ (5 ⟼ words 8 each flow mode limit limit)  -- sequence, source two words, drops, input, output, reason, count
    ∷ []

abbrev pub sample : Mode → (limit : ℕ) → Script
sample mode limit = framed 1 0 (opened (samples mode limit))

-- version, address, sub-agent, sequence, uptime, sample count
abbrev pub header : List Field
header = version ∷ addr ∷ words 4

-- a datagram whose records are no deeper than the limit
unfoldable pub datagram_to : Mode → (limit : ℕ) → Script
datagram_to mode limit =
    here (λ a. fields header (λ vs. repeat (last_number vs) (sample mode limit) (λ r. here (λ e.
    give (record { values = vs; ranges = ranged 0 0 0 a (between a e) r.ranges })))))

abbrev pub datagram : Mode → Script
datagram mode = datagram_to mode depth_limit
