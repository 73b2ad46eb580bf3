-- A client that takes all that it is offered gets everything.
use Rattle.std.specs.Prelude.{◌≡◌, ◌≤◌, ◌+◌, ◌/◌, ◌==◌, ℕ, Bool, true, false, List, [], ◌∷◌}
use Rattle.std.specs.Prelude.{length}
use Rattle.std.specs.List.{filter}
use Rattle.std.specs.Option.{option_map_or}
use Rattle.nutlisting.specs.declared.outbox.TheConstants.{QUEUE_LIMIT}
use Rattle.nutcore.specs.declared.event.Event.{Event}
use Rattle.nutcore.specs.declared.event.Event.TheVariants.{Took}
use Rattle.nutcore.specs.declared.event.Outcome.{Outcome}
use Rattle.nutcore.specs.Server.{ServerState, session}
use Rattle.nutcore.specs.Pump.{pump_stops}
use Rattle.nutcore.specs.Step.{offered, after, outcome_of}
use Rattle.nutcore.specs.Run.{Run}
use Rattle.nutcore.specs.History.{owed, held, executions, of_client, answers}
use Rattle.nutcore.specs.Isolation.{client_of}

-- The event is the client's taking of all that it is offered at that moment, and its outcome is the
-- one where memory is there.
abbrev pub IsTakeOfAll : ℕ → ServerState → Event → Outcome → Type 0
IsTakeOfAll c s e o = (e ≡ Took c (length (offered (session c s)))) × (o ≡ outcome_of s e)

-- Each event is one.
abbrev pub TakesAll : ℕ → ServerState → List Event → List Outcome → Type 0
TakesAll c s [] [] = Unit {0}
TakesAll c s (e ∷ es) (o ∷ os) = IsTakeOfAll c s e o × TakesAll c (after s e o) es os
TakesAll c s [] (o ∷ os) = ⊥
TakesAll c s (e ∷ es) [] = ⊥

-- So many lines of the client a run executed, a notice counted with them.
abbrev pub lines_done : ℕ → ServerState → List Event → List Outcome → ℕ
lines_done c s es os = length (of_client c (executions s es os))

-- So many takes are enough: one for each 8,192 bytes of what is owed and is answered, one for each
-- line that is executed, and one more.
abbrev pub enough_takes : ℕ → ServerState → List Event → List Outcome → ℕ
enough_takes c s es os =
    (length (owed c s) + length (answers c s es os)) / QUEUE_LIMIT + lines_done c s es os + 1

-- There is a run of so many takes, with no other event between, after which the client is owed
-- nothing, and no line of it is held that may be executed. They are no more than are enough, and
-- execute no more lines than bytes were held.
pub record GetsEverything (c : ℕ) (old : ServerState) : Type 0 where
  pub events : List Event
  pub outcomes : List Outcome
  pub new : ServerState
  pub run : Run old events outcomes new
  pub takes : TakesAll c old events outcomes
  pub nothing_owed : owed c new ≡ []
  pub nothing_left : pump_stops new c ≡ true
  pub few : length events ≤ enough_takes c old events outcomes
  pub lines : lines_done c old events outcomes ≤ length (held c old)

-- Of every server and every client: of one that isn't open there is nothing to take.
abbrev pub WhoTakesGetsEverything : Type 0
WhoTakesGetsEverything = (s : ServerState) (c : ℕ) → GetsEverything c s

-- How many events are the client's.
abbrev pub is_event_of : ℕ → Event → Bool
is_event_of c e = option_map_or (λ d. d == c) (client_of e) false

abbrev pub events_of : ℕ → List Event → ℕ
events_of c es = length (filter (is_event_of c) es)
