-- What each public call's own contract says of its result: the result itself. A theorem cites what a caller learns (`Learnt`, which the check makes of
-- the call's `ensures`), so that a weaker `ensures` is refused here. `s` is a reference to the input, and `e` the parameters at the exit. Assumes nothing.
use Rattle.std.specs.Prelude.{◌≡◌, take, drop}
use Rattle.reading.specs.Bytes.{be4, be8, signed, padded}
use Rattle.load.proofs as call

pub padded_settled : (κs count r e : _) → call.padded.Reads.Learnt κs (count, tt) r e → r ≡ padded count
padded_settled κs count r e h = h

pub int32_settled : (κs w r e : _) → call.int32.Reads.Learnt κs (w, tt) r e → r ≡ signed w
int32_settled κs w r e h = h

module _ (κs s at : _) where
  pub be32_settled : (r e : _) → call.be32.Reads.Learnt κs (s, (at, tt)) r e → r ≡ be4 s.now at
  be32_settled r e h = h

  pub be64_settled : (r e : _) → call.be64.Reads.Learnt κs (s, (at, tt)) r e → r ≡ be8 s.now at
  be64_settled r e h = h

pub block_settled : (n fits κs s at r e : _) → call.block.Reads.Learnt n fits κs (s, (at, tt)) r e → r ≡ take n (drop at s.now)
block_settled n fits κs s at r e h = h
