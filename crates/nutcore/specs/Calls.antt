-- What the server's calls answer and do: their results as outcomes of events.
use Rattle.std.specs.Prelude.{◌≡◌, ℕ, Bool, List, [], ◌∷◌, Result, Ok, Err, Option, Some, None}
use Rattle.std.specs.Prelude.{◌-◌, ◌&&◌}
use Rattle.std.specs.Prelude.{◌==◌, if◌then◌else◌, length, take}
use Rattle.nutcore.specs.declared.TheConstants.{HELD_LIMIT}
use Rattle.nutcore.specs.declared.event.Event.{Event}
use Rattle.nutcore.specs.declared.event.Outcome.{Outcome}
use Rattle.nutcore.specs.declared.server.status.Standing.{Standing}
use Rattle.nutcore.specs.declared.event.Outcome.TheVariants.{Done, Fed, Opened, Refused}
use Rattle.nutcore.specs.declared.event.Fault.{Fault}
use Rattle.nutcore.specs.declared.event.Fault.TheVariants.{NoSuchUps, NoSuchClient}
use Rattle.nutlisting.specs.Owed.{Owes, owed, IsOutbox}
use Rattle.nutlisting.specs.declared.outbox.TheConstants.{QUEUE_LIMIT}
use Rattle.nutcore.specs.Session.{SessionState}
use Rattle.nutcore.specs.Ups.{UpsState}
use Rattle.nutcore.specs.Step.{Step}
use Rattle.nutcore.specs.Headline.{SentAndOwed, TakenUp}
use Rattle.nutcore.specs.Cost.{RunningServer, cost_of}
use Rattle.nutcore.specs.Notes.{notes_of}

abbrev pub fed : Result ℕ Fault → Outcome
fed (Ok n) = Fed n
fed (Err fault) = Refused fault

abbrev pub done : Result (Unit {0}) Fault → Outcome
done (Ok u) = Done
done (Err fault) = Refused fault

abbrev pub opened_as : Result ℕ Fault → Outcome
opened_as (Ok c) = Opened c
opened_as (Err fault) = Refused fault

-- The session is ending, and nothing is owed.
abbrev pub is_finished : SessionState → Bool
is_finished x = x.ending && (length x.owed == 0)

-- How many bytes the session takes in now. An ending one takes and drops any.
abbrev pub room_of : SessionState → ℕ
room_of x = if x.ending then HELD_LIMIT else HELD_LIMIT - length x.held

-- The status of a client.
abbrev pub standing_of : SessionState → Standing
standing_of x =
    record {
      offered = length (take QUEUE_LIMIT x.owed);
      room = room_of x;
      is_finished = is_finished x;
    }

-- The call reads this off the client's session, and is refused exactly where the client isn't open.
abbrev pub Reads : {A : Type 0} → (SessionState → A) → Option SessionState → Result A Fault → Type 0
Reads read None answer = answer ≡ Err NoSuchClient
Reads read (Some x) answer = answer ≡ Ok (read x)

-- The call reads this off the UPS, and is refused exactly where the list has no such UPS.
abbrev pub ReadsUps : {A : Type 0} → (UpsState → A) → Option UpsState → Result A Fault → Type 0
ReadsUps read None answer = answer ≡ Err NoSuchUps
ReadsUps read (Some x) answer = answer ≡ Ok (read x)

-- The outbox owes these bytes, and no others: its queue is those that are offered, and a cursor is
-- there only while something rests.
pub record IsOutboxOf (bytes : List ℕ) (o : Owes) : Type 0 where
  pub owed_is : owed o ≡ bytes
  pub queue_is : o.queue ≡ take QUEUE_LIMIT bytes
  pub resting : IsOutbox o.queue o.cursor

-- A driver is connected to the UPS.
abbrev pub is_connected : UpsState → Bool
is_connected x = x.report.connected

-- What the UPS's driver is owed.
abbrev pub owed_to : UpsState → List ℕ
owed_to x = x.owed

-- One event: what it leaves by its outcome, and the same of it by itself as of a run; what it cost;
-- and what was noted of it.
pub record IsEvent (old : RunningServer) (event : Event) (outcome : Outcome) (new : RunningServer)
    : Type 0 where
  pub step : Step old.state event outcome new.state
  pub sent_and_owed : (c : ℕ) → SentAndOwed c old.state (event ∷ []) (outcome ∷ []) new.state
  pub taken_up : (c : ℕ) → TakenUp c old.state (event ∷ []) (outcome ∷ []) new.state
  pub cost : new.cost ≡ cost_of old.state event new.state
  pub notes : new.notes ≡ notes_of old.state event outcome
