-- Where each item of a reading begins: a step is one item, and owns the four bytes from there on. Definitions only. Assumes nothing.
use Rattle.std.specs.Prelude.{ℕ, zero, suc, ◌+◌, ◌≤◌, ◌<◌, ◌≡◌, List, [], ◌∷◌, ◌++◌, length, take, drop}
use Rattle.reading.specs.Script.{Value, Forest, Found, Script, give, refuse, here, item, within, repeat}
use Rattle.reading.specs.Grammar.{Meaning, Many, Is}
use Rattle.reading.specs.Layout.{Mode, datagram_to, datagram}
use Rattle.reading.specs.Values.{alone}
use Rattle.reading.specs.Answer.{layout_of}
use Rattle.reading.specs.Sizes.{longest_input}
use Rattle.demands.specs.Stops.{Stops, barred, standing, no_item, not_text, past_item, no_opaque, inside_it, past_it, among, past_all}
use Rattle.demands.specs.Readings.{Allowed}
use Rattle.demands.specs.FieldsItemised.{only_values, FieldsReading}
use Rattle.demands.specs.Tries.{Run, over, next, cut, RunStops, this, later}

-- the first byte of each item of so many in a row
unfoldable pub firsts_of_many : (c : ℕ) (P : Meaning) → ((o : ℕ) (b : List ℕ) (f : Found) (n : ℕ) → P o b f n → List ℕ) → (o : ℕ) (b : List ℕ) (f : Found) (n : ℕ) → Many c P o b f n → List ℕ
unfolding Many
firsts_of_many zero P each o b f n t = []
firsts_of_many (suc c) P each o b f n (x, y, g, h, m, l, _, _, _, t, u) = each o x g m t ++ firsts_of_many c P each (o + length x) y h l u

-- of each item of a reading by the grammar, in the order of reading: an opaque, and then those inside it
unfoldable pub firsts : (sc : Script) (o : ℕ) (b : List ℕ) (f : Found) (n : ℕ) → Is sc o b f n → List ℕ
unfolding Is firsts_of_many
firsts (give a) o b f n t = []
firsts (refuse code) o b f n t = []
firsts (here k) o b f n t = firsts (k o) o b f n t
firsts (item i k) o b f n (x, y, v, m, _, _, _, t) = o ∷ firsts (k v) (o + length x) y f m t
firsts (within body k) o b f n (u, y, x, inner, rest, a, m, l, _, _, _, _, t, v) = o ∷ (firsts body (o + 4) inner a m t ++ firsts (k (record { start = o + 4; count = length x }) a) (o + length u) y f l v)
firsts (repeat c body k) o b f n (x, y, a, m, l, _, _, t, v) = firsts_of_many c (Is body) (firsts body) o x a m t ++ firsts (k a) (o + length x) y f l v

-- of each item before a fault
unfoldable pub firsts_before : {sc : Script} {o c i n : ℕ} {b : List ℕ} → Stops sc o b c i n → List ℕ
firsts_before (barred e f g) = []
firsts_before (standing t) = firsts_before t
firsts_before (no_item m e f) = []
firsts_before (not_text x j q l g z e f) = []
firsts_before {o = o} (past_item x y v m e f i t) = o ∷ firsts_before t
firsts_before (no_opaque m e f) = []
firsts_before {o = o} (inside_it x m f q t) = o ∷ firsts_before t
firsts_before {o = o} (past_it {body} x u y inner rest a m l e f q j r t) = o ∷ (firsts body (o + 4) inner a m r ++ firsts_before t)
firsts_before {o = o} (among {body = body} j x y a m l k e f r t) = firsts_of_many j (Is body) (firsts body) o x a m r ++ firsts_before t
firsts_before {o = o} (past_all {c} {body} x y a m l e f r t) = firsts_of_many c (Is body) (firsts body) o x a m r ++ firsts_before t

-- of each item of a datagram
abbrev pub firsts_of : {mode : Mode} {o : ℕ} {b : List ℕ} {f : Found} {bytes items : ℕ} → Allowed mode o b f bytes items → List ℕ
firsts_of {mode} {o = o} {f = f} {items = items} r = firsts (datagram_to mode r.reading.levels) o r.reading.begins.read f items r.reading.begins.is

-- of each item of every datagram tried: of a run, and of one that is refused
unfoldable pub run_firsts : {mode : Mode} {s : List ℕ} {at end n : ℕ} {g : Forest} → Run mode s at g end n → List ℕ
run_firsts (over e f m z) = []
run_firsts (next f bytes items h m d e z t) = firsts_of d.allowed ++ run_firsts t
run_firsts (cut h i t e z) = firsts_before t

unfoldable pub run_firsts_before : {mode : Mode} {s : List ℕ} {at c i n : ℕ} → RunStops mode s at c i n → List ℕ
run_firsts_before (this h t z) = firsts_before t
run_firsts_before (later f bytes items m d e t) = firsts_of d.allowed ++ run_firsts_before t

-- positions from lo on, four bytes before each next one and before hi: the four bytes from each on are apart, and lie between lo and hi
pub data Apart : (lo hi : ℕ) → List ℕ → Type 0 where
  none : {lo hi : ℕ} → lo ≤ hi → Apart lo hi []
  and : {lo hi i : ℕ} {rest : List ℕ} → lo ≤ i → Apart (i + 4) hi rest → Apart lo hi (i ∷ rest)

-- n items that begin at these positions, each with four bytes of its own between lo and hi
pub record Own (lo hi n : ℕ) (at : List ℕ) : Type 0 where
  pub each : length at ≡ n
  pub apart : Apart lo hi at

-- the items that the answer to s counts, by where they begin: those of the reading, or those before the fault, or none where s is too long
pub data Counted (mode : Mode) (s : List ℕ) : List ℕ → Type 0 where
  too_long : longest_input < length s → Counted mode s []
  faulty : {c i n : ℕ} (t : Stops (datagram mode) 0 s c i n) → Counted mode s (firsts_before t)
  whole : {f : Found} {bytes items : ℕ} (r : Allowed mode 0 s f bytes items) → Counted mode s (firsts_of r)

pub data RunCounted (mode : Mode) (s : List ℕ) : List ℕ → Type 0 where
  too_long : longest_input < length s → RunCounted mode s []
  faulty : {c i n : ℕ} (t : RunStops mode s 0 c i n) → RunCounted mode s (run_firsts_before t)
  whole : {g : Forest} {end n : ℕ} (t : Run mode s 0 g end n) → RunCounted mode s (run_firsts t)

-- of field reading: those of the layout, or those before the fault, in the range; none where the range is not read
pub data FieldsCounted (mode : Mode) (ak af : ℕ) (s : List ℕ) (k f start extent : ℕ) : List ℕ → Type 0 where
  not_read : (length s ≤ longest_input → start + extent ≤ length s → k ≡ ak → f ≡ af → ⊥) → FieldsCounted mode ak af s k f start extent []
  faulty : {c i n : ℕ} (t : Stops (alone (layout_of mode ak af)) start (take extent (drop start s)) c i n) → FieldsCounted mode ak af s k f start extent (firsts_before t)
  whole : {vs : List Value} {bytes items : ℕ} (r : FieldsReading (layout_of mode ak af) start (take extent (drop start s)) vs bytes items)
      → FieldsCounted mode ak af s k f start extent (firsts (alone (layout_of mode ak af)) start r.read (only_values vs) items r.is)
