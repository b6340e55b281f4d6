-- What each public call's own contract says of its result: the result itself. A theorem cites what a caller learns (`Learnt`, which the
-- check makes of the call's `ensures`), so that a weaker `ensures` is refused here. `e` is the parameters at the exit. Assumes nothing.
use Prim.Native.Nat.{ℕ}
use mathlib.Core.Path.{◌≡◌, ap}
use lib.Dec.{eqb}
use Rattle.numbers.specs.Split.{upper, lower, join}
use Rattle.numbers.proofs as call

pub new_data_format_settled : (κs u l r e : _) → call.DataFormat.new.Reads.Learnt κs (u, (l, tt)) r e → r ≡ record { 0 = join 12 u l }
new_data_format_settled κs u l r e h = ap (λ (w : ℕ). record { 0 = w }) h

pub new_data_source_settled : (κs u l r e : _) → call.DataSource.new.Reads.Learnt κs (u, (l, tt)) r e → r ≡ record { 0 = join 24 u l }
new_data_source_settled κs u l r e h = ap (λ (w : ℕ). record { 0 = w }) h

pub new_interface_settled : (κs u l r e : _) → call.Interface.new.Reads.Learnt κs (u, (l, tt)) r e → r ≡ record { 0 = join 30 u l }
new_interface_settled κs u l r e h = ap (λ (w : ℕ). record { 0 = w }) h

pub enterprise_settled : (κs self r e : _) → call.DataFormat.enterprise.Reads.Learnt κs (self, tt) r e → r ≡ upper 12 self.0
enterprise_settled κs self r e h = h

pub format_settled : (κs self r e : _) → call.DataFormat.format.Reads.Learnt κs (self, tt) r e → r ≡ lower 12 self.0
format_settled κs self r e h = h

pub source_type_settled : (κs self r e : _) → call.DataSource.source_type.Reads.Learnt κs (self, tt) r e → r ≡ upper 24 self.0
source_type_settled κs self r e h = h

pub index_settled : (κs self r e : _) → call.DataSource.index.Reads.Learnt κs (self, tt) r e → r ≡ lower 24 self.0
index_settled κs self r e h = h

pub interface_format_settled : (κs self r e : _) → call.Interface.format.Reads.Learnt κs (self, tt) r e → r ≡ upper 30 self.0
interface_format_settled κs self r e h = h

pub value_settled : (κs self r e : _) → call.Interface.value.Reads.Learnt κs (self, tt) r e → r ≡ lower 30 self.0
value_settled κs self r e h = h

pub is_single_settled : (κs self r e : _) → call.Interface.is_single.Reads.Learnt κs (self, tt) r e → r ≡ eqb (upper 30 self.0) 0
is_single_settled κs self r e h = h

pub is_discarded_settled : (κs self r e : _) → call.Interface.is_discarded.Reads.Learnt κs (self, tt) r e → r ≡ eqb (upper 30 self.0) 1
is_discarded_settled κs self r e h = h

pub is_multiple_settled : (κs self r e : _) → call.Interface.is_multiple.Reads.Learnt κs (self, tt) r e → r ≡ eqb (upper 30 self.0) 2
is_multiple_settled κs self r e h = h
