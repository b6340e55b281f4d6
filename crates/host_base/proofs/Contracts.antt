-- What each exported call's own contract says of its result: what settles it, and with a lent store every word of that afterwards. A theorem
-- cites what a caller learns (`Learnt`, which the check makes of the call's `ensures`), so that a weaker `ensures` is refused here. `s` is
-- a reference to the input, `w` one to a descriptor's words, `store` one to the store, which is at its last value at the exit, and `e` a
-- parameter at the exit, or all of them. Assumes nothing.
use Prim.Native.Nat.{ℕ}
use mathlib.Core.List.{List}
use denote.Ref.{at_last}
use Rattle.reading.specs.Layout.{base}
use Rattle.reading.specs.Answer.{one, run}
use Rattle.xdr.specs.Shown.{answer_of}
use Rattle.xdr.proofs.Settles.{Settles, settled}
use Rattle.flow_layouts.specs.Shown.{sampled_ethernet}
use Rattle.datagram.specs.declared.decode.Answer.{Answer}
use Rattle.datagram.specs.declared.decode.Decoded.{Decoded}
use Rattle.datagram.specs.Shown.{decoded, ran}
use Rattle.datagram.proofs.Lossless.{decoded_lossless, ran_lossless}
use Rattle.fields.specs.Shown.{read_at}
use Rattle.host.proofs.Lossless.{sampled_ethernet_lossless}
use Rattle.host_base.proofs as call

module _ (κs s store : _) where
  pub decode_base_settled : Settles
      (λ (r : Decoded × List ℕ) e. call.latchplume_decode_base.Reads.Learnt κs (s, (store, tt)) r.0 (e, (at_last store r.1, tt)))
      (λ r. decoded r.0 r.1)
      (one base s.now store.now)
  decode_base_settled = settled decoded_lossless

  pub decode_run_base_settled : Settles
      (λ (r : Answer × List ℕ) e. call.latchplume_decode_run_base.Reads.Learnt κs (s, (store, tt)) r.0 (e, (at_last store r.1, tt)))
      (λ r. ran r.0 r.1)
      (run base s.now store.now)
  decode_run_base_settled = settled ran_lossless

pub read_sampled_ethernet_base_settled : (κs s w : _) → Settles (call.latchplume_read_sampled_ethernet_base.Reads.Learnt κs (s, (w, tt))) (λ r. answer_of r.outcome (sampled_ethernet r.fields)) (read_at base 2 2 s.now w.now)
read_sampled_ethernet_base_settled κs s w = settled sampled_ethernet_lossless
