-- What each answer says of the reading, of one datagram or of a run: how many items were read, and why the next is none. Definitions only. Assumes
-- nothing.
use Rattle.std.specs.Prelude.{ℕ, ◌*◌, ◌≤◌, ◌<◌, ◌≡◌, List, ◌++◌, length, drop}
use Rattle.reading.specs.Script.{Forest, Found}
use Rattle.reading.specs.Layout.{Mode, datagram}
use Rattle.reading.specs.Answer.{nobody, size, rows, room, Header, header_of, no_header, Answer, refused}
use Rattle.reading.specs.Sizes.{longest_input, descriptor_words}
use Rattle.demands.specs.Stops.{Stops}
use Rattle.demands.specs.Readings.{Allowed}
use Rattle.demands.specs.Tries.{Run, RunStops}

-- what a call is to read of an input s, by the grammar: what is found where s is read whole, with where that ends and how many items it has; where the
-- reading stops; and what is shown of a finding
pub record Subject : Type 1 where
  pub Finding : Type 0
  pub Whole : (s : List ℕ) → Finding → (end items : ℕ) → Type 0
  pub Stopped : (s : List ℕ) → (code at items : ℕ) → Type 0
  pub ranges : Finding → Forest
  pub head : Finding → Header

-- one datagram
abbrev pub a_datagram : Mode → Subject
a_datagram mode = record { Finding = Found; Whole = Allowed mode 0; Stopped = Stops (datagram mode) 0; ranges = λ f. f.ranges; head = λ f. header_of f.values }

-- a run of them, which has no header
abbrev pub a_run : Mode → Subject
a_run mode = record { Finding = Forest; Whole = λ s. Run mode s 0; Stopped = λ s. RunStops mode s 0; ranges = λ g. g; head = λ _. no_header }

module _ (t : Subject) where
  -- what is answered where a reading that finds x and ends there is accepted into the store w
  pub record Answers (w : List ℕ) (x : t.Finding) (end : ℕ) (a : Answer) : Type 0 where
    pub code : a.code ≡ 0
    pub at : a.at ≡ end
    pub needed : a.needed ≡ size (t.ranges x)
    pub head : a.head ≡ t.head x
    pub store : a.store ≡ rows 0 nobody (t.ranges x) ++ drop (descriptor_words * size (t.ranges x)) w

  -- what code 0 says: s is not too long, there is a reading of it, the store has room for that, and it is answered
  pub record Accepted (s w : List ℕ) (a : Answer) : Type 0 where
    pub short : length s ≤ longest_input
    pub found : t.Finding
    pub end : ℕ
    pub items : ℕ
    pub reading : t.Whole s found end items
    pub fits : size (t.ranges found) ≤ room w
    pub answers : Answers w found end a

  -- what each answer to s and w says of the reading of s
  pub data Itemised (s w : List ℕ) (a : Answer) : Type 0 where
    -- s is too long: no item is read
    too_long : longest_input < length s → a ≡ refused 1 0 0 0 w → Itemised s w a
    -- the reading stops at a fault: the steps are the items before it, in a run those of every datagram tried
    faulty : length s ≤ longest_input → (c i n : ℕ) → t.Stopped s c i n → a ≡ refused c i n 0 w → Itemised s w a
    -- there is a whole reading, for which the store has no room: the steps are its items, the descriptors needed are its ranges
    no_room : length s ≤ longest_input → (x : t.Finding) (end n : ℕ) → t.Whole s x end n → room w < size (t.ranges x) → a ≡ refused 9 0 n (size (t.ranges x)) w → Itemised s w a
    -- there is one, and the answer is that reading's: so are the steps
    whole : (k : Accepted s w a) → a.steps ≡ k.items → Itemised s w a
