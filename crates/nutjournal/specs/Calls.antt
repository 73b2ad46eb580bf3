-- What a call of the journal logs and counts.
use Rattle.std.specs.Prelude.{◌≡◌, ◌≢◌, ◌+◌, ◌/◌, ℕ, Bool, List, [], ◌∷◌, ◌++◌, length, map, take}
use Rattle.std.specs.Prelude.{Option, Some, None, if◌then◌else◌}
use Rattle.nutusers.specs.UpsList.{Ups}
use Rattle.nutcore.specs.declared.note.Note.{Note}
use Rattle.nutcore.specs.Server.{ServerState}
use Rattle.nutjournal.specs.declared.doings.Doings.{Doings}
use Rattle.nutjournal.specs.declared.drivers.Driver.{Driver}
use Rattle.nutjournal.specs.declared.journal.Journal.{Journal}
use Rattle.nutjournal.specs.declared.log_buffer.LogBuffer.{LogBuffer}
use Rattle.nutjournal.specs.declared.log_buffer.TheConstants.{WARNING}
use Rattle.nutjournal.specs.declared.tallies.Clients.{Clients}
use Rattle.nutjournal.specs.declared.tallies.Tallies.{Tallies}
use Rattle.nutjournal.specs.declared.tally.Count.{Count}
use Rattle.nutjournal.specs.declared.tally.Tally.{Tally}
use Rattle.nutjournal.specs.declared.tally.TheConstants.{MINUTE}
use Rattle.nutjournal.specs.Lines.{DuesMore, Line, after_dues, drivers_along, dues_of, left_due}
use Rattle.nutjournal.specs.LogBuffer.{IsFlushed, OneLineMore, Place, PlacesMore, SomeMore}
use Rattle.nutjournal.specs.Tallies.{after_second_of}
use Rattle.nutjournal.specs.Tally.{after_count, begins_minute, is_counted, reported}

-- Where a second begins, what was counted of each UPS and each address has a line, where that is
-- due now.
abbrev pub place_of_tally : Bool → Option (List ℕ) → Tally → Place
place_of_tally is_minute ups y = record { due = reported y is_minute; ups = ups }

abbrev pub ups_places : Bool → List Ups → List Tally → List Place
ups_places is_minute (ups ∷ list) (y ∷ ys) =
    place_of_tally is_minute (Some ups.name) y ∷ ups_places is_minute list ys
ups_places is_minute _ _ = []

abbrev pub client_places : Bool → Clients → List Place
client_places is_minute all =
    map (place_of_tally is_minute None) (take (length all.addresses.items + 1) all.tallies)

abbrev pub tally_places : Bool → List Ups → Tallies → List Place
tally_places is_minute list all =
    (ups_places is_minute list all.upses ++ client_places is_minute all.users)
    ++ client_places is_minute all.clients

-- So does each count that is more than what was logged of it, once a minute.
abbrev pub count_due : ℕ → ℕ → Count → Option ℕ
count_due n minute was = if is_counted n minute was then Some WARNING else None

abbrev pub after_counts : ℕ → List ℕ → List Count → List Count
after_counts minute (n ∷ ns) (was ∷ weres) =
    after_count n minute was ∷ after_counts minute ns weres
after_counts minute _ weres = weres

-- What had a line is counted no longer. Behind these are the lines of the counts, and of the newcomers
-- that were sent away.
pub record IsBegun (s : ServerState) (is_minute : Bool) (doings : Doings) (old new : Journal)
    : Type 0 where
  pub counted : LogBuffer
  pub lines : PlacesMore (tally_places is_minute s.list old.tallies) old.log counted
  pub others : SomeMore counted new.log
  pub is : new ≡ record old {
    log = new.log;
    tallies = after_second_of (length s.list) is_minute old.tallies;
    counts = after_counts (s.moment / MINUTE) doings.counts old.counts;
    refusals = new.refusals;
  }

-- Where a second begins, what was counted is logged, then what is new of the drivers, and then who
-- has the places. Else nothing is.
pub record Second (s : ServerState) (doings : Doings) (old new : Journal) : Type 0 where
  pub begun : Journal
  pub lines : IsBegun s (begins_minute old.moment s.moment) doings
      (record old { moment = Some s.moment }) begun
  pub seen : Journal
  pub news : SomeMore begun.log seen.log
  pub same : seen ≡ record begun { log = seen.log; drivers = seen.drivers }
  pub crowd : SomeMore seen.log new.log
  pub is : new ≡ record seen { log = new.log; crowded = new.crowded }

pub record Begins (s : ServerState) (doings : Doings) (old new : Journal) : Type 0 where
  pub goes_on : old.moment ≡ Some s.moment → new ≡ old
  pub begins : old.moment ≢ Some s.moment → Second s doings old new

-- Then the lines of the notes, in their order, and that of who left are logged or counted: each of
-- them, and no other. At last standard error takes what it takes.
abbrev pub dues_of_call : ServerState → List Note → Doings → List Driver → List (Option Line)
dues_of_call s all doings drivers =
    dues_of s.moment all drivers ++ left_due doings ∷ []

pub record IsCall (s : ServerState) (all : List Note) (doings : Doings) (old new : Journal)
    : Type 0 where
  pub begun : Journal
  pub second : Begins s doings old begun
  pub logged : LogBuffer
  pub lines : DuesMore s.list (dues_of_call s all doings begun.drivers) begun.tallies begun.log
      logged
  pub flushed : IsFlushed logged new.log
  pub same : new ≡ record begun {
    log = new.log;
    drivers = drivers_along s.moment all begun.drivers;
    tallies = after_dues (dues_of_call s all doings begun.drivers) begun.tallies;
    refusals = new.refusals;
    has_more = new.has_more;
  }

-- A line of this priority, that is of no note, is logged at once.
pub record IsLoggedNow (priority : ℕ) (old new : Journal) : Type 0 where
  pub logged : LogBuffer
  pub line : OneLineMore priority None old.log logged
  pub flushed : IsFlushed logged new.log
  pub same : new ≡ record old { log = new.log }
