-- How much one event makes the server do for its clients.
use Rattle.std.specs.Prelude.{◌≤◌, ◌+◌, ℕ, length}
use Rattle.nutlisting.specs.declared.outbox.TheConstants.{QUEUE_LIMIT}
use Rattle.nutcore.specs.declared.TheConstants.{HELD_LIMIT}
use Rattle.nutcore.specs.declared.event.Event.{Event}
use Rattle.nutcore.specs.declared.event.Outcome.{Outcome}
use Rattle.nutcore.specs.Server.{ServerState, session}
use Rattle.nutcore.specs.Step.{Step, offered}
use Rattle.nutcore.specs.History.{executions_in_event, of_client, held, taken_in_event}
use Rattle.nutcore.specs.History.{asked_in_event}
use Rattle.nutcore.specs.Cost.{cost_of}
use Rattle.nutcore.specs.Sound.{IsSound}

-- lines: the event executes no more lines of a client, the notice counted with them, than bytes of
-- its input were held and came. in_all: nor more than a session may hold. placed: what is offered
-- to a client after it, and what the client took, is at most 8,192 bytes more than was offered
-- before. bytes, renders: so the event costs at most 8,192 bytes placed, and no more lines rendered
-- than bytes placed.
pub record IsBounded (old : ServerState) (event : Event) (outcome : Outcome) (new : ServerState)
    : Type 0 where
  pub lines : (c : ℕ)
      → length (of_client c (executions_in_event old event outcome))
      ≤ length (held c old) + length (asked_in_event c old event)
  pub in_all : length (executions_in_event old event outcome) ≤ HELD_LIMIT
  pub placed : (c : ℕ)
      → length (offered (session c new)) + length (taken_in_event c old event)
      ≤ length (offered (session c old)) + QUEUE_LIMIT
  pub bytes : (cost_of old event new).placed ≤ QUEUE_LIMIT
  pub renders : (cost_of old event new).rendered ≤ (cost_of old event new).placed

-- Of every event of a sound server, as each server is.
abbrev pub EachEventIsBounded : Type 0
EachEventIsBounded =
    (old new : ServerState) (event : Event) (outcome : Outcome) → Step old event outcome new
    → IsSound old → IsBounded old event outcome new
