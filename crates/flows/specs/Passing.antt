-- What is passed ahead of the full reading, in its terms: the same in each mode. Assumes nothing.
use Rattle.std.specs.Prelude.{ℕ, ◌+◌, ◌≤◌, ◌≡◌, List}
use Rattle.reading.specs.Sizes.{depth_limit}
use Rattle.reading.specs.Script.{nothing, give}
use Rattle.reading.specs.Cursor.{got, times, follow}
use Rattle.reading.specs.Layout.{Mode, base as base_mode, opened, flows, flow}
use Rattle.reading.specs.Answer.{from}
use Rattle.reading.proofs.Counts.{counted}
use Rattle.xdr.specs.declared.Cursor.{Cursor}
use Rattle.xdr.specs.Shown.{place}
use Rattle.flows.specs.declared.scan_ahead.Ahead.{Ahead}
use Rattle.store.specs.declared.Pen.{Pen}
use Rattle.flows.specs.declared.put.Flat.{Flat}
use Rattle.layout.specs.Scanned.{Scan}
use Rattle.store.specs.Written.{Ready, placed}

-- the payload of a record of format f is read so far, and is no aggregation
pub record Passes (s : List ℕ) (c : Cursor) (f : ℕ) (d : Cursor) : Type 0 where
  pub flat : f ≡ 1016 → ⊥
  pub is : (mode : Mode) → got nothing (place d) ≡ follow (opened (flows mode (give nothing)) f) s (place c)

-- a record of a sample is read so far, on top of k descriptors
pub record PassesRecord (s : List ℕ) (c : Cursor) (d : Cursor) : Type 0 where
  pub is : (mode : Mode) (k : ℕ) → got (k + 1) (place d) ≡ counted k (follow (flow mode depth_limit depth_limit) s (place c))

-- to read on from here is to read n records of a sample from c, on top of k descriptors
pub record AheadOf (s : List ℕ) (c : Cursor) (n k : ℕ) (r : Ahead) : Type 0 where
  pub scan : Scan s r.cursor r.count
  pub same : (mode : Mode) → counted r.count (times r.rest (follow (flow mode depth_limit depth_limit)) s (place r.cursor)) ≡ counted k (times n (follow (flow mode depth_limit depth_limit)) s (place c))

-- to write on from here, into the store l', is to write n records at `at` into l
pub record FlatOf (left : ℕ) (s l : List ℕ) (at n : ℕ) (pen : Pen) (r : Flat) (l' : List ℕ) : Type 0 where
  pub ready : Ready s l' (record { base = pen.base; parent = pen.parent; word = r.word }) (times r.rest (follow (flow base_mode depth_limit left)) s (from r.at))
  pub same : placed (record { base = pen.base; parent = pen.parent; word = r.word }) (times r.rest (follow (flow base_mode depth_limit left)) s (from r.at)) l' ≡ placed pen (times n (follow (flow base_mode depth_limit left)) s (from at)) l
  pub few : r.rest ≤ n
