-- Clients that are over stay over, and ids rise.
use Rattle.std.specs.Prelude.{◌≡◌, ◌<◌, ◌≤◌, ◌+◌, ℕ, true, false, List, [], ◌∷◌, ◌++◌}
use Rattle.std.specs.List.{flat_map}
use Rattle.nutcore.specs.declared.event.Event.{Event}
use Rattle.nutcore.specs.declared.event.Event.TheVariants.{Tick, Open}
use Rattle.nutcore.specs.declared.event.Outcome.{Outcome}
use Rattle.nutcore.specs.declared.event.Outcome.TheVariants.{Opened}
use Rattle.nutcore.specs.Server.{ServerState, session}
use Rattle.nutcore.specs.Step.{Step}
use Rattle.nutcore.specs.Run.{Run}
use Rattle.nutcore.specs.History.{executions, of_client, taken, owed, is_closed, is_over}
use Rattle.nutcore.specs.Headline.{IsLawful}

-- Of a client that is ending, or was closed, a run executes nothing; and what it takes, followed by
-- what it is owed after, is what it was owed before, until it is closed.
pub record IsAskedNoMore (c : ℕ) (old : ServerState) (events : List Event)
    (outcomes : List Outcome) (new : ServerState) : Type 0 where
  pub nothing : of_client c (executions old events outcomes) ≡ []
  pub owed_less : is_closed c new ≡ false
      → owed c old ≡ taken c old events outcomes ++ owed c new

abbrev pub WhoIsOverIsAskedNoMore : Type 0
WhoIsOverIsAskedNoMore =
    (old new : ServerState) (events : List Event) (outcomes : List Outcome) (c : ℕ) → IsLawful old
    → is_over c old ≡ true → Run old events outcomes new → IsAskedNoMore c old events outcomes new

-- The ids that were given to new sessions, in order.
abbrev pub id_given : Outcome → List ℕ
id_given (Opened c) = c ∷ []
id_given _ = []

abbrev pub ids_given : List Outcome → List ℕ
ids_given outcomes = flat_map id_given outcomes

-- Each is above the one before it: they are from the first number on, and below the second.
abbrev pub RiseFrom : ℕ → ℕ → List ℕ → Type 0
RiseFrom least next [] = least ≤ next
RiseFrom least next (c ∷ ids) = (least ≤ c) × RiseFrom (c + 1) next ids

-- So none is given twice, and none that was given before.
abbrev pub IdsThatAreGivenRise : Type 0
IdsThatAreGivenRise =
    (old new : ServerState) (events : List Event) (outcomes : List Outcome)
    → Run old events outcomes new → RiseFrom old.next_id new.next_id (ids_given outcomes)

-- A tick leaves every session as it is, and the whole server except the moment and the UPSs.
abbrev pub ATickTouchesNoSession : Type 0
ATickTouchesNoSession =
    (old new : ServerState) (seconds : ℕ) (outcome : Outcome) → Step old (Tick seconds) outcome new
    → (let but : ServerState = record new { moment = old.moment; upses = old.upses } in but) ≡ old

-- So does an opening every session that there was, and the whole server except the sessions and the
-- next id.
pub record LeavesOlderSessions (old new : ServerState) : Type 0 where
  pub sessions : (c : ℕ) → c < old.next_id → session c new ≡ session c old
  pub server : (let but : ServerState
      = record new { sessions = old.sessions; next_id = old.next_id } in but)
      ≡ old

abbrev pub AnOpeningTouchesNoOther : Type 0
AnOpeningTouchesNoOther =
    (old new : ServerState) (address : List ℕ) (outcome : Outcome)
    → Step old (Open address) outcome new → LeavesOlderSessions old new
