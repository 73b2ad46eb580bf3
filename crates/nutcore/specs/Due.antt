-- The seconds that a server waits for: before them the clock changes nothing but the moment.
use Rattle.std.specs.Prelude.{◌≡◌, ◌<◌, ◌≤◌, ◌+◌, ◌-◌, ◌/◌, ◌^◌, ℕ, List, [], ◌∷◌, None, max, min}
use Rattle.std.specs.Prelude.{not, nat_lt, if◌then◌else◌}
use Rattle.nutcore.specs.declared.event.Event.TheVariants.{Tick}
use Rattle.nutcore.specs.Ups.{UpsState}
use Rattle.nutcore.specs.Server.{ServerState}
use Rattle.nutcore.specs.DriverEvents.{ticked}
use Rattle.nutcore.specs.Notes.{all_notes}
use Rattle.nutcore.specs.Sound.{IsSound}

-- No second is due.
abbrev pub never : ℕ
never = 2 ^ 64 - 1

-- A driver is pinged once it sent nothing, and wasn't pinged, for a third of the greatest age,
abbrev pub ping_second : ℕ → UpsState → ℕ
ping_second max_age x = max x.report.heard x.pinged + max_age / 3

-- and its data become stale, once, after the greatest age.
abbrev pub stale_second : ℕ → UpsState → ℕ
stale_second max_age x = x.report.heard + max_age + 1

-- What comes first of a UPS, where its driver is connected.
abbrev pub due_of : ℕ → ℕ → UpsState → ℕ
due_of max_age moment x =
    if not x.report.connected then never
    else if nat_lt moment (stale_second max_age x)
    then min (ping_second max_age x) (stale_second max_age x)
    else ping_second max_age x

abbrev pub due_among : ℕ → ℕ → List UpsState → ℕ
due_among max_age moment [] = never
due_among max_age moment (x ∷ xs) = min (due_of max_age moment x) (due_among max_age moment xs)

-- What comes first of all, after the moment.
abbrev pub due_second : ServerState → ℕ
due_second s = max (min (s.moment + 1) never) (due_among s.max_age s.moment s.upses)

-- A tick at the early second changes nothing but the moment, and notes nothing; and where it is
-- left out, the late one makes the same server, and notes the same.
pub record IsSleptOver (s : ServerState) (early late : ℕ) : Type 0 where
  pub moment : ticked early s ≡ record s { moment = early }
  pub notes : all_notes s (Tick early) None ≡ []
  pub later : ticked late (ticked early s) ≡ ticked late s
  pub later_notes : all_notes (ticked early s) (Tick late) None ≡ all_notes s (Tick late) None

-- So is each second between the moment and the one that is due.
abbrev pub NothingDueIsSleptOver : Type 0
NothingDueIsSleptOver =
    (s : ServerState) (early late : ℕ) → IsSound s → s.moment < early → early < due_second s
    → early ≤ late → IsSleptOver s early late
