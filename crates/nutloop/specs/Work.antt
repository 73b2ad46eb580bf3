-- How much turns make the server do for its clients.
use Rattle.std.specs.Prelude.{◌≤◌, ◌+◌, ◌*◌, ℕ, List, [], ◌∷◌, length, sum_by}
use Rattle.nutlisting.specs.declared.outbox.TheConstants.{QUEUE_LIMIT}
use Rattle.nutcore.specs.declared.TheConstants.{HELD_LIMIT}
use Rattle.nutcore.specs.declared.cost.Cost.{Cost}
use Rattle.nutcore.specs.declared.event.Event.{Event}
use Rattle.nutcore.specs.declared.event.Outcome.{Outcome}
use Rattle.nutcore.specs.Cost.{cost_of}
use Rattle.nutcore.specs.History.{executions}
use Rattle.nutcore.specs.Recording.{Recorded}
use Rattle.nutcore.specs.Run.{Run}
use Rattle.nutcore.specs.Server.{ServerState}
use Rattle.nutcore.specs.Sound.{IsSound}
use Rattle.nutcore.specs.Step.{after}
use Rattle.nutloop.specs.declared.over_mio.pass.TheConstants.{STOPS, TURNS_PER_LOOK}
use Rattle.nutloop.specs.declared.turns.Loop.{Loop}
use Rattle.nutloop.specs.Fairness.{FromALook, Turn}
use Rattle.nutloop.specs.Serving.{Turns}
use Rattle.nutloop.specs.Sockets.{Told}

-- What each event of a run costs.
abbrev pub costs : ServerState → List Event → List Outcome → List Cost
costs s [] os = []
costs s (e ∷ es) [] = []
costs s (e ∷ es) (o ∷ os) = cost_of s e (after s e o) ∷ costs (after s e o) es os

-- A run of at most so many events. Each executes at most 2,048 lines, a notice counted with them,
-- and places at most 8,192 bytes, of which it renders no more lines.
pub record IsWork (most : ℕ) (old new : ServerState) : Type 0 where
  pub events : List Event
  pub outcomes : List Outcome
  pub run : Run old events outcomes new
  pub few : length events ≤ most
  pub lines : length (executions old events outcomes) ≤ most * HELD_LIMIT
  pub placed : sum_by (λ cost. cost.placed) (costs old events outcomes) ≤ most * QUEUE_LIMIT
  pub renders : sum_by (λ cost. cost.rendered) (costs old events outcomes)
      ≤ sum_by (λ cost. cost.placed) (costs old events outcomes)

module _ {S R : Type 0} (told : S → Told) (holds : R → Recorded) where
  -- Each turn is one event at most. From a look up to the next one they are those of at most 208
  -- turns of peers and newcomers, a tick, and as many ids as were due.
  pub record TheWorkOfTurnsIsBounded : Type 0 where
    pub turns : (most : ℕ) (old new : Loop S R) → IsSound old.server.state
        → Turns told holds old most new → IsWork most old.server.state new.server.state
    pub stretch : (old new : Loop S R) (turns : List Turn)
        (looks : FromALook told holds old turns new) → IsSound old.server.state
        → IsWork (TURNS_PER_LOOK + STOPS + looks.begins.is.so_far.ids)
        old.server.state new.server.state
