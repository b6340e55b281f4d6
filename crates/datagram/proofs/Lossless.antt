-- What is shown of this crate's results loses nothing: an answer with the store that it leaves, a header's fields, what a pass has come to.
-- Assumes nothing.
use Rattle.std.proofs.Common.{ℕ, refl, List, get_or}
use Rattle.reading.specs.Script.{Value, number}
use Rattle.reading.specs.Answer as answer
use Rattle.reading.specs.Layout.{num}
use Rattle.xdr.specs.Shown.{read_out}
use Rattle.xdr.proofs.Settles.{Lossless, got_back}
use Rattle.xdr.proofs.Lossless.{address_of, read_lossless}
use Rattle.layout.specs.Shown.{scanned_out}
use Rattle.store.specs.declared.Written.{Written}
use Rattle.store.specs.Written.{Put, written}
use Rattle.datagram.specs.declared.decode.Answer.{Answer}
use Rattle.datagram.specs.declared.decode.Decoded.{Decoded}
use Rattle.datagram.specs.declared.header.Header.{Header}
use Rattle.datagram.specs.Shown.{decoded, header_fields, ran}

abbrev numbers : answer.Answer → Answer
numbers x = record { code = x.code; at = x.at; steps = x.steps; needed = x.needed }

pub decoded_lossless : Lossless (λ (r : Decoded × List ℕ). decoded r.0 r.1)
decoded_lossless = got_back
    (λ (x : answer.Answer). (
      record {
        answer = numbers x;
        agent_address = record { kind = x.head.address_type; bytes = x.head.address };
        sub_agent_id = x.head.sub_agent;
        sequence_number = x.head.sequence;
        uptime = x.head.uptime;
        num_samples = x.head.sample_count;
      },
      x.store,
    ))
    (λ r. refl)

pub ran_lossless : Lossless (λ (r : Answer × List ℕ). ran r.0 r.1)
ran_lossless = got_back (λ (x : answer.Answer). (numbers x, x.store)) (λ r. refl)

-- ---- what the two passes answer, and the header's reader

abbrev value_at : List Value → ℕ → Value
value_at vs i = get_or vs i (number 0)

abbrev header_back : List Value → Header
header_back vs = record { version = num (value_at vs 0); agent_address = address_of (value_at vs 1); sub_agent_id = num (value_at vs 2); sequence_number = num (value_at vs 3); uptime = num (value_at vs 4); num_samples = num (value_at vs 5) }

pub header_lossless : Lossless (read_out header_fields)
header_lossless = read_lossless header_fields header_back (λ r. refl)

pub scanned_lossless : Lossless scanned_out
scanned_lossless = read_lossless (λ k. k) (λ k. k) (λ k. refl)

pub written_lossless : Lossless (λ (r : Written × List ℕ). written r.0 r.1)
written_lossless = got_back (λ (x : Put). (record { at = x.at; word = x.word }, x.store)) (λ r. refl)
