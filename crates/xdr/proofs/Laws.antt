-- What the answers of a run of words and of a string say of the reading, with the facts that the code has there. Assumes nothing.
use Rattle.std.proofs.Common.{ℕ, ◌+◌, ◌*◌, ◌-◌, ◌/◌, ◌≡◌, ◌≤◌, ◌<◌, sym, List, length, take, drop, arith, length-drop}
use lib.Seq.{length-take-le}
use Rattle.reading.specs.Utf8.{well_formed_of}
use Rattle.reading.specs.Script.{nothing, opaque, string}
use Rattle.reading.specs.Cursor.{got, bytes, read_item, times, follow}
use Rattle.reading.specs.Layout.{any_word}
use Rattle.reading.proofs.Opaques as opaques
use Rattle.reading.proofs.Utf8Longest.{all_well, part_well}
use Rattle.reading.proofs.Words.{words_got, words_stop}
use Rattle.xdr.specs.declared.Cursor.{Cursor}
use Rattle.xdr.specs.declared.Reason.TheVariants.{Cut}
use Rattle.xdr.specs.declared.Span.{Span}
use Rattle.xdr.specs.Shown.{place, Inside, a_part, ill_formed_of, refusal, span}

-- ---- a run of n words, of which k are there
module _ (s : List ℕ) (c : Cursor) (i : Inside s c) where
  pub run_stop : (n k : ℕ) → k ≡ (length s - c.at) / 4 → k < n → refusal (record { reason = Cut; at = c.at + 4 * k; steps = c.steps + k }) ≡ times n (follow any_word) s (place c)
  run_stop n k e l = sym (words_stop s n k (place c) l (omega (arith, i.inside)) (omega (arith, i.inside)))

  pub run_got : (n : ℕ) → n ≤ (length s - c.at) / 4 → got nothing (place (record { at = c.at + 4 * n; steps = c.steps + n })) ≡ times n (follow any_word) s (place c)
  run_got n l = sym (words_got s n (place c) (omega (arith, i.inside)))

-- ---- a string by its opaque: n of its bytes are well-formed
module _ (s : List ℕ) (c : Cursor) {x : Span} {d : Cursor} (e : got (a_part x) (place d) ≡ read_item opaque s (place c))
    {n : ℕ} (u : n ≡ well_formed_of (take (x.start + x.count - x.start) (drop x.start s))) where
  good : n ≡ well_formed_of (bytes s (span x))
  good = let k : x.start + x.count - x.start ≡ x.count = omega arith in rw k at u

  size : length (bytes s (span x)) ≡ x.count
  size = length-take-le x.count (drop x.start s) (omega (arith, length-drop x.start s, opaques.opaque_fits s (place c) e))

  pub string_got : x.count ≤ n → got (a_part x) (place d) ≡ read_item string s (place c)
  string_got l = opaques.string_got s (place c) e (all_well (bytes s (span x)) (omega (arith, good, size)))

  pub string_bad : n < x.count → refusal (ill_formed_of (x.start + n) c) ≡ read_item string s (place c)
  string_bad l = rw good (opaques.string_refused s (place c) e (part_well (bytes s (span x)) (omega (arith, good, size))))

pub ruleset runs = (run_stop, run_got)

pub ruleset strings = (string_got, string_bad)
