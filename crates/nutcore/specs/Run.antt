-- A run: events one after another, each with its outcome.
use Rattle.std.specs.Prelude.{◌≡◌, List, [], ◌∷◌}
use Rattle.nutcore.specs.declared.event.Event.{Event}
use Rattle.nutcore.specs.declared.event.Outcome.{Outcome}
use Rattle.nutcore.specs.Server.{ServerState}
use Rattle.nutcore.specs.Step.{Step}

abbrev pub Run : ServerState → List Event → List Outcome → ServerState → Type 0
Run old [] [] new = new ≡ old
Run old (e ∷ es) (o ∷ os) new = (mid : ServerState) × Step old e o mid × Run mid es os new
Run old [] (o ∷ os) new = ⊥
Run old (e ∷ es) [] new = ⊥

-- Every list of events has a run: nothing that peers do is without an outcome.
abbrev pub EveryListOfEventsHasARun : Type 0
EveryListOfEventsHasARun =
    (old : ServerState) (events : List Event)
    → (outcomes : List Outcome) × ((new : ServerState) × Run old events outcomes new)
