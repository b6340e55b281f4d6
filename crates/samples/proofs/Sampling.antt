-- The first pass over samples: a law for each way out of its functions. Assumes nothing.
use Rattle.std.proofs.Common.{ℕ, zero, suc, ◌+◌, ◌*◌, ◌-◌, ◌≡◌, ◌≤◌, refl, sym, ap, ◌∙◌, List, length, arith}
use Rattle.reading.specs.Sizes.{depth_limit}
use Rattle.reading.specs.Bytes.{be4}
use Rattle.reading.specs.Script.{Value, nothing, Script}
use Rattle.reading.specs.Cursor.{Place, Out, got, stop, then, times, follow}
use Rattle.reading.specs.Layout.{Mode, any_word, words, last_number, opened, fixed_rows, counters, counter, samples, sample}
use Rattle.reading.proofs.Items.{never}
use Rattle.reading.proofs.Counts.{counted, counted_none, counted_stop, fields_stop, each_held, turns_done}
use Rattle.reading.proofs.Fields.{fields_out}
use Rattle.reading.proofs.Room.{thrifty_counter, thrifty_sample}
use Rattle.reading.proofs.Words.{numbers, last_word, row_got, run_row, run_cut}
use Rattle.xdr.specs.declared.Cursor.{Cursor}
use Rattle.xdr.specs.Shown.{Inside, place}
use Rattle.layout.specs.Scanned.{Scan}
use Rattle.layout.proofs.Scan.{Thrift, scan_row}
use Rattle.samples.specs.Held.{IsKind, counted_by_last, held, last_of}
use Rattle.samples.specs.declared.kinds.SampleKind.{SampleKind}
use Rattle.samples.specs.declared.kinds.SampleKind.TheVariants as kind

pub counter_thrift : Thrift counter
counter_thrift = record { is = thrifty_counter }

pub sample_thrift : (mode : Mode) → Thrift (sample mode depth_limit)
sample_thrift mode = record { is = thrifty_sample mode depth_limit }

-- ---- a counter record's payload, which has no descriptor more
module _ (f : ℕ) (s : List ℕ) (p : Place) (k : ℕ) where
  pub counter_stop : {c a n : ℕ} → stop c a n ≡ follow (opened (fixed_rows counters) f) s p → stop c a n ≡ counted k (follow (opened (fixed_rows counters) f) s p)
  counter_stop e = counted_stop k _ e

  pub counter_got : {q : Place} → got nothing q ≡ follow (opened (fixed_rows counters) f) s p → got k q ≡ counted k (follow (opened (fixed_rows counters) f) s p)
  counter_got e = counted_none k _ e

-- ---- the words before a sample's records

-- the last of n words, where there is one
pub last_is : (n : ℕ) (s : List ℕ) (at : ℕ) → 1 ≤ n → last_number (numbers n s at) ≡ be4 s (at + 4 * n - 4)
last_is zero s at h = absurd (omega arith)
last_is (suc n) s at h = let z : at + 4 * n ≡ at + 4 * suc n - 4 = omega arith in last_word n s at ∙ ap (λ (j : ℕ). be4 s j) z

module _ (n : ℕ) (s : List ℕ) (c : Cursor) (i : Inside s c) where
  pub last_cut : {x a m : ℕ} → stop x a m ≡ times n (follow any_word) s (place c) → stop x a m ≡ last_of n s (place c)
  last_cut e = sym (rw (run_cut s n (place c) i.inside e))

  module _ {d : Cursor} (e : got nothing (place d) ≡ times n (follow any_word) s (place c)) where
    pub last_fits : c.at + 4 * n ≤ length s
    last_fits = (run_row s n (place c) i.inside e).0

    pub last_ends : d.at ≡ c.at + 4 * n
    last_ends =
        let h : got (numbers n s c.at) (place d) ≡ got (numbers n s c.at) (record { at = c.at + 4 * n; steps = c.steps + n }) = sym (run_row s n (place c) i.inside e).1 ∙ row_got s n (place c) last_fits in
        let z : place d ≡ record { at = c.at + 4 * n; steps = c.steps + n } = cc in
        ap (λ (p : Place). p.at) z

    pub last_got : 1 ≤ n → got (be4 s (d.at - 4)) (place d) ≡ last_of n s (place c)
    last_got l = sym (rw (run_row s n (place c) i.inside e).1 (ap (λ (m : ℕ). got m (place d)) (last_is n s c.at l ∙ ap (λ (j : ℕ). be4 s (j - 4)) (sym last_ends))))

-- ---- what a sample holds, by its kind
module _ (mode : Mode) {r : SampleKind} {f : ℕ} (q : IsKind r f) (s : List ℕ) (p : Place) (k : ℕ) where
  of_kind : {b : SampleKind} → r ≡ b → follow (held mode b) s p ≡ follow (opened (samples mode depth_limit) f) s p
  of_kind e = ap (λ (x : Script). follow x s p) (sym (q.is mode ∙ ap (held mode) e))

  module _ {b : SampleKind} (e : r ≡ b) (n : ℕ) (body : Script) (h : held mode b ≡ counted_by_last n body) where
    is : counted k (follow (counted_by_last n body) s p) ≡ counted k (follow (opened (samples mode depth_limit) f) s p)
    is = ap (λ (x : Script). counted k (follow x s p)) (sym h) ∙ ap (counted k) (of_kind e)

    pub rows_stop : {c a m : ℕ} → stop c a m ≡ last_of n s p → stop c a m ≡ counted k (follow (opened (samples mode depth_limit) f) s p)
    rows_stop {c} {a} {m} w = go (fields_out (words n) s p) refl w ∙ is
      where
        go : (o : Out (List Value)) → fields_out (words n) s p ≡ o → stop c a m ≡ then o (λ vs q. got (last_number vs) q) → stop c a m ≡ counted k (follow (counted_by_last n body) s p)
        go (got vs r) y z = never z
        go (stop c' a' m') y z = z ∙ fields_stop (words n) s p k _ y

    pub rows_held : {m : ℕ} {d : Place} → got m d ≡ last_of n s p → {o : Out ℕ} → o ≡ counted k (times m (follow body) s d) → o ≡ counted k (follow (opened (samples mode depth_limit) f) s p)
    rows_held {m} {d} w {o} i = i ∙ go (fields_out (words n) s p) refl w ∙ is
      where
        go : (o : Out (List Value)) → fields_out (words n) s p ≡ o → got m d ≡ then o (λ vs q. got (last_number vs) q) → counted k (times m (follow body) s d) ≡ counted k (follow (counted_by_last n body) s p)
        go (got vs r) y z =
            let u : m ≡ last_number vs = cc in
            let v : d ≡ r = cc in
            rw (u, v) (sym (each_held (words n) s p k body y))
        go (stop c' a' m') y z = never (sym z)

  pub raw_held : r ≡ kind.Raw → got k p ≡ counted k (follow (opened (samples mode depth_limit) f) s p)
  unfolding follow
  raw_held e = counted_none k p (of_kind e)

-- where a sample's records begin
pub rows_scan : (n : ℕ) (s : List ℕ) (c : Cursor) (k : ℕ) {m : ℕ} {d : Cursor} → Scan s c k → got m (place d) ≡ last_of n s (place c) → Scan s d k
rows_scan n s c k {m} {d} g w = go (fields_out (words n) s (place c)) refl w
  where
    go : (o : Out (List Value)) → fields_out (words n) s (place c) ≡ o → got m (place d) ≡ then o (λ vs q. got (last_number vs) q) → Scan s d k
    go (got vs r) y z = let v : place d ≡ r = cc in scan_row (words n) s c k g (y ∙ ap (λ (t : Place). got vs t) (sym v))
    go (stop c' a' m') y z = never (sym z)

-- none is left
pub none_left : (sc : Script) (s : List ℕ) (p : Place) (k n : ℕ) {t : Out ℕ} → n ≡ 0 → counted k (times n (follow sc) s p) ≡ t → got k p ≡ t
none_left sc s p k n z e = turns_done (follow sc) s p k ∙ (rw z at e)
