-- What a decoder answers to a script: it goes through the input with a cursor, and stops at the first fault. Assumes nothing.
use Rattle.std.specs.Prelude.{ℕ, zero, suc, ◌+◌, cond, List, length, take, drop, leb}
use Rattle.reading.specs.Sizes.{longest_opaque}
use Rattle.reading.specs.Bytes.{be4, be8, signed, padded}
use Rattle.reading.specs.Utf8.{utf8, well_formed_of}
use Rattle.reading.specs.Script.{octet_count, Span, Value, number, integer, octets, part, Found, nothing, ◌⊞◌, Item, word, tested, long, int, block, opaque, string, Script, give, refuse, here, item, within, repeat}

-- the next byte, counted from the input's first, and the steps: the items wholly read and accepted so far
pub record Place : Type 0 where
  pub at : ℕ
  pub steps : ℕ

-- a value and the place after it; or a refusal: its code, its position and the steps before it
pub data Out (A : Type 0) : Type 0 where
  got : A → Place → Out A
  stop : (code at steps : ℕ) → Out A

-- `s` is the input up to the end of what encloses the reader
abbrev pub Reader : Type 0 → Type 0
Reader A = List ℕ → Place → Out A

abbrev pub then : {A B : Type 0} → Out A → (A → Place → Out B) → Out B
then (got a p) k = k a p
then (stop c at n) k = stop c at n

-- the place n bytes and one step on
abbrev pub on : ℕ → Place → Place
on n p = record { at = p.at + n; steps = p.steps + 1 }

-- an item of n bytes: code 2 at its first byte, where it passes the end
unfoldable pub fixed : {A : Type 0} → ℕ → A → Reader A
fixed n a s p = cond (leb (p.at + n) (length s)) (got a (on n p)) (stop 2 p.at p.steps)

-- how many bytes of an opaque of n have to be there before anything in it is looked at: its length word, its payload and its pad
abbrev pub awaited : ℕ → ℕ
awaited n = 4 + padded n

-- in this order: the length word is there; 5 where it is above 104,857,600; payload and pad are there
unfoldable pub read_opaque : Reader Span
unfolding fixed
read_opaque s p = then (fixed 4 (be4 s p.at) s p) (λ n q.
    cond (leb n longest_opaque)
    (cond (leb (p.at + awaited n) (length s)) (got (record { start = q.at; count = n }) (on (4 + padded n) p)) (stop 2 p.at p.steps))
    (stop 5 p.at p.steps))

abbrev pub bytes : List ℕ → Span → List ℕ
bytes s x = take x.count (drop x.start s)

-- where the string with these bytes is ill-formed: where its longest well-formed beginning ends
abbrev pub ill_at : List ℕ → Span → ℕ
ill_at s x = x.start + well_formed_of (bytes s x)

unfoldable pub read_item : Item → Reader Value
unfolding fixed read_opaque
read_item word s p = fixed 4 (number (be4 s p.at)) s p
read_item (tested ok code) s p =
    cond (leb (p.at + 4) (length s))
    (cond (ok (be4 s p.at)) (got (number (be4 s p.at)) (on 4 p)) (stop code p.at p.steps))
    (stop 2 p.at p.steps)
read_item long s p = fixed 8 (number (be8 s p.at)) s p
read_item int s p = fixed 4 (integer (signed (be4 s p.at))) s p
read_item (block w) s p = fixed (octet_count w) (octets (take (octet_count w) (drop p.at s))) s p
read_item opaque s p = then (read_opaque s p) (λ x q. got (part x) q)
read_item string s p = then (read_opaque s p) (λ x q. cond (utf8 (bytes s x)) (got (part x) q) (stop 7 (ill_at s x) p.steps))

-- `r`, n times over, with all that it finds
unfoldable pub times : ℕ → Reader Found → Reader Found
times zero r s p = got nothing p
times (suc n) r s p = then (r s p) (λ a q. then (times n r s q) (λ b e. got (a ⊞ b) e))

-- the input up to the end of a span
abbrev pub held_to : Span → List ℕ → List ℕ
held_to x s = take (x.start + x.count) s

-- `r` over the bytes of a span and over none past it; then on from where the opaque ends
unfoldable pub inside : Span → Reader Found → Reader Found
inside x r s p =
    then (r (held_to x s) (record { at = x.start; steps = p.steps }))
    (λ a q. got a (record { at = p.at; steps = q.steps }))

unfoldable pub follow : Script → Reader Found
unfolding read_opaque times inside
follow (give a) s p = got a p
follow (refuse code) s p = stop code p.at p.steps
follow (here k) s p = follow (k p.at) s p
follow (item i k) s p = then (read_item i s p) (λ v q. follow (k v) s q)
follow (within body k) s p = then (read_opaque s p) (λ x q. then (inside x (follow body) s q) (λ a e. follow (k x a) s e))
follow (repeat n body k) s p = then (times n (follow body) s p) (λ a q. follow (k a) s q)
