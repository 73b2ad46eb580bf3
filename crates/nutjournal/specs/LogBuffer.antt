-- What waits for standard error, and what is dropped.
use Rattle.std.specs.Prelude.{ℕ, ◌+◌, ◌^◌, ◌-◌, ◌*◌, min, List, ◌++◌, Bool, ◌&&◌, ◌||◌, ◌==◌}
use Rattle.std.specs.Prelude.{◌≡◌, Option, [], ◌∷◌, length, take, drop, nat_lt, if◌then◌else◌}
use Rattle.std.specs.Prelude.{true, false, codes, Some, None, zero, suc}
use Rattle.std.specs.Io.KnownBytes.{Appends}
use Rattle.nutjournal.specs.declared.log_buffer.LogBuffer.{LogBuffer}
use Rattle.nutjournal.specs.declared.log_buffer.TheConstants.{CRITICAL, LOG_LIMIT, NOTICE, RESERVE, WARNING}

-- The last bytes are for critical lines, and as many before these for warnings too.
abbrev pub room_for : ℕ → ℕ
room_for priority =
    if priority == CRITICAL then LOG_LIMIT
    else if priority == WARNING then LOG_LIMIT - RESERVE else LOG_LIMIT - 2 * RESERVE

-- A line has room where none as urgent was dropped before it, and where it fits with its LF.
abbrev pub has_room : ℕ → List ℕ → LogBuffer → Bool
has_room priority line was =
    nat_lt priority was.worst && nat_lt (length was.waiting + length line) (room_for priority)

abbrev pub one_dropped : ℕ → LogBuffer → LogBuffer
one_dropped priority was = record was {
  dropped = min (was.dropped + 1) (2 ^ 64 - 1);
  worst = min was.worst priority;
}

-- A line waits as the last one, ended by its LF, or is dropped.
abbrev pub after_line : ℕ → List ℕ → LogBuffer → LogBuffer
after_line priority line was =
    if has_room priority line was then record was { waiting = was.waiting ++ line ++ 10 ∷ [] }
    else one_dropped priority was

-- A line begins with its priority, where that is asked for, with the program, and with the UPS that
-- it is about.
abbrev pub mark : ℕ → List ℕ
mark priority =
    if priority == CRITICAL then codes "<2>"
    else if priority == WARNING then codes "<4>"
    else if priority == NOTICE then codes "<5>" else codes "<6>"

abbrev pub named : Option (List ℕ) → List ℕ
named None = []
named (Some ups) = ups ++ codes ": "

abbrev pub line_about : Bool → ℕ → Option (List ℕ) → List ℕ → List ℕ
line_about has_priorities priority ups text =
    (if has_priorities then mark priority else []) ++ codes "upsd: " ++ named ups ++ text

pub record OneLineMore (priority : ℕ) (ups : Option (List ℕ)) (old new : LogBuffer) : Type 0 where
  pub text : List ℕ
  pub added : new ≡ after_line priority (line_about old.has_priorities priority ups text) old

-- A line more where it is due, by its priority, and nothing else.
abbrev pub PlaceMore : Option ℕ → Option (List ℕ) → LogBuffer → LogBuffer → Type 0
PlaceMore None ups old new = new ≡ old
PlaceMore (Some priority) ups old new = OneLineMore priority ups old new

-- Such lines, one after another: each has a priority where it is due, and the UPS that it is about.
pub record Place : Type 0 where
  pub due : Option ℕ
  pub ups : Option (List ℕ)

abbrev pub PlacesMore : List Place → LogBuffer → LogBuffer → Type 0
PlacesMore [] old new = new ≡ old
PlacesMore (place ∷ later) old new =
    (next : LogBuffer) × PlaceMore place.due place.ups old next × PlacesMore later next new

-- Some lines more.
pub record SomeMore (old new : LogBuffer) : Type 0 where
  pub places : List Place
  pub are : PlacesMore places old new

-- Once no line waits, the number of those that were dropped does, with the priority of the most
-- urgent one, and none counts as dropped.
abbrev pub none_dropped : LogBuffer → LogBuffer
none_dropped log = record log { dropped = 0; worst = 2 ^ 8 - 1 }

abbrev pub MoreAfter : Bool → LogBuffer → LogBuffer → Type 0
MoreAfter true old new = OneLineMore old.worst None (none_dropped old) new
MoreAfter false old new = new ≡ old

abbrev pub CountsDropped : LogBuffer → LogBuffer → Type 0
CountsDropped old new = MoreAfter (length old.waiting == 0 && nat_lt 0 old.dropped) old new

-- What waits is written, its beginning first, as far as standard error takes it: so many times.
pub record IsFlushedOnce (old new : LogBuffer) : Type 0 where
  pub counted : LogBuffer
  pub counts : CountsDropped old counted
  pub taken : ℕ
  pub is : new ≡ record counted {
    waiting = drop taken counted.waiting;
    terminal = new.terminal;
  }

abbrev pub AreFlushes : ℕ → LogBuffer → LogBuffer → Type 0
AreFlushes zero old new = new ≡ old
AreFlushes (suc n) old new =
    (next : LogBuffer) × AreFlushes n old next × IsFlushedOnce next new

pub record IsFlushed (old new : LogBuffer) : Type 0 where
  pub times : ℕ
  pub are : AreFlushes times old new

-- A writer took the first bytes of what waited, and all others still wait.
pub record IsWritten {W : Type 0} (contents : W → Option (List ℕ)) (was is : List ℕ) (out out' : W)
    : Type 0 where
  pub count : ℕ
  pub takes : Appends (contents out) (contents out') (take count was)
  pub rest : is ≡ drop count was

-- Lines wait, or a count of dropped ones.
abbrev pub has_waiting : LogBuffer → Bool
has_waiting log = nat_lt 0 (length log.waiting) || nat_lt 0 log.dropped
