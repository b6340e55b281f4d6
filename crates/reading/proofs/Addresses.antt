-- An address by its type word, and then by the block that the type has. Assumes nothing.
use Prim.Native.Nat.{ℕ, ◌-◌}
use mathlib.Core.Path.{◌≡◌}
use mathlib.Core.List.{List, ◌++◌, append-nil}
use lib.Dec.{leb}
use lib.ListN.{replicate}
use Rattle.reading.specs.Script.{Width, four, six, eight, sixteen, octet_count, number, octets, address, Item, tested, block}
use Rattle.reading.specs.Cursor.{Place, got, stop, read_item}
use Rattle.reading.specs.Layout.{addr}
use Rattle.reading.proofs.Fields.{address_out, field_out}

abbrev pub type_word : Item
type_word = tested (λ t. leb t 2) 4

module _ (s : List ℕ) (p : Place) where
  pub address_cut : {c a n : ℕ} → stop c a n ≡ read_item type_word s p → field_out addr s p ≡ stop c a n
  unfolding field_out
  address_cut e = rw (← e)

  pub address_typed : {t : ℕ} {q : Place} → got (number t) q ≡ read_item type_word s p → field_out addr s p ≡ address_out t s q
  unfolding field_out
  address_typed e = rw (← e)

-- the width of an address of this type
pub data Typed : Width → ℕ → Type 0 where
  is_four : Typed four 1
  is_sixteen : Typed sixteen 2

module _ (s : List ℕ) (p : Place) where
  pub bytes_cut : {c a n : ℕ} (w : Width) (t : ℕ) → Typed w t → stop c a n ≡ read_item (block w) s p → address_out t s p ≡ stop c a n
  unfolding address_out
  bytes_cut four t is_four e = rw (← e)
  bytes_cut sixteen t is_sixteen e = rw (← e)
  bytes_cut six t k e = elim k [ ]
  bytes_cut eight t k e = elim k [ ]

  pub bytes_got : {b : List ℕ} {q : Place} (w : Width) (t : ℕ) → Typed w t → got (octets b) q ≡ read_item (block w) s p
      → address_out t s p ≡ got (address t (b ++ replicate (16 - octet_count w) 0)) q
  unfolding address_out
  bytes_got four t is_four e = rw (← e)
  bytes_got sixteen t is_sixteen e = rw (← e, append-nil)
  bytes_got six t k e = elim k [ ]
  bytes_got eight t k e = elim k [ ]
