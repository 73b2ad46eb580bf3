-- A client that takes, among the events of others, all that it is offered or some bytes at a time.
use Rattle.std.specs.Prelude.{◌≡◌, ◌≤◌, ◌<◌, ◌+◌, ◌*◌, ℕ, true, List, [], ◌∷◌, Some, length, min}
use Rattle.nutlisting.specs.declared.outbox.TheConstants.{QUEUE_LIMIT}
use Rattle.nutcore.specs.declared.event.Event.{Event}
use Rattle.nutcore.specs.declared.event.Event.TheVariants.{Took}
use Rattle.nutcore.specs.declared.event.Outcome.{Outcome}
use Rattle.nutcore.specs.Server.{ServerState, session}
use Rattle.nutcore.specs.Pump.{pump_stops}
use Rattle.nutcore.specs.Step.{offered, after, outcome_of}
use Rattle.nutcore.specs.Run.{Run}
use Rattle.nutcore.specs.History.{owed, held, answers}
use Rattle.nutcore.specs.Isolation.{client_of}
use Rattle.nutcore.specs.Taking.{lines_done, events_of}

-- The event is the client's taking of k bytes, or of all that it is offered where those are fewer,
-- and its outcome is the one where memory is there.
abbrev pub IsTakeOf : ℕ → ℕ → ServerState → Event → Outcome → Type 0
IsTakeOf k c s e o = (e ≡ Took c (min k (length (offered (session c s))))) × (o ≡ outcome_of s e)

-- Each event of the client is one; others' are any, and may lack memory.
abbrev pub TakesSomeAmongOthers : ℕ → ℕ → ServerState → List Event → List Outcome → Type 0
TakesSomeAmongOthers k c s [] os = Unit {0}
TakesSomeAmongOthers k c s (e ∷ es) [] = Unit {0}
TakesSomeAmongOthers k c s (e ∷ es) (o ∷ os) =
    (client_of e ≡ Some c → IsTakeOf k c s e o) × TakesSomeAmongOthers k c (after s e o) es os

-- The run executes no more lines of the client than bytes were held. With more takes than one for
-- each k bytes of what is owed and is answered, and one for each line that is executed, nothing is
-- owed to the client, and no line of it is held that may be executed.
pub record IsServed (k c : ℕ) (old : ServerState) (events : List Event) (outcomes : List Outcome)
    (new : ServerState) : Type 0 where
  pub lines : lines_done c old events outcomes ≤ length (held c old)
  pub served : length (owed c old) + length (answers c old events outcomes)
      + lines_done c old events outcomes * k < events_of c events * k
      → (owed c new ≡ []) × (pump_stops new c ≡ true)

-- Whatever drivers and other clients do between, and however often the clock ticks.
abbrev pub WhoTakesSomeGetsEverything : Type 0
WhoTakesSomeGetsEverything =
    (old new : ServerState) (events : List Event) (outcomes : List Outcome) (c k : ℕ)
    → k ≤ QUEUE_LIMIT → Run old events outcomes new → TakesSomeAmongOthers k c old events outcomes
    → IsServed k c old events outcomes new
