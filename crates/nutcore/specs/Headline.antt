-- The laws of every run: what was sent and is owed is the answers.
use Rattle.std.specs.Prelude.{◌≡◌, ℕ, ◌<◌, ◌≤◌, length, true, false, List, ◌∷◌, ◌++◌, All, Some}
use Rattle.std.specs.Prelude.{is_some, codes, nat_eq}
use Rattle.std.specs.List.{starts_with}
use Rattle.nutlisting.specs.declared.outbox.TheConstants.{OWED_LIMIT}
use Rattle.nutcore.specs.declared.event.Event.{Event}
use Rattle.nutcore.specs.declared.event.Event.TheVariants.{Feed, Took}
use Rattle.nutcore.specs.declared.event.Outcome.{Outcome}
use Rattle.nutcore.specs.declared.event.Outcome.TheVariants.{Done, Fed}
use Rattle.nutcore.specs.Session.{SessionState}
use Rattle.nutcore.specs.Server.{ServerState, session, with_session}
use Rattle.nutcore.specs.Reply.{reply}
use Rattle.nutcore.specs.Pump.{next_line_for, pump_stops, after_line, after_lines, after_all_lines}
use Rattle.nutcore.specs.Pump.{is_overlong, answered}
use Rattle.nutcore.specs.Step.{Step, with_input, without_output}
use Rattle.nutcore.specs.Run.{Run}
use Rattle.nutcore.specs.History.{Execution, of_line, of_notice, executions, answers, executed}
use Rattle.nutcore.specs.History.{taken, asked, owed, held, is_closed, is_over}

-- The bytes begin the text: they are a front part of it, none and all of it included.
abbrev pub IsBeginning : List ℕ → List ℕ → Type 0
IsBeginning bytes text = (rest : List ℕ) × (bytes ++ rest ≡ text)

-- Every open session has an id that was handed out. Of a server it always holds.
abbrev pub IsLawful : ServerState → Type 0
IsLawful s = (c : ℕ) → is_some (session c s) ≡ true → c < s.next_id

-- What was owed before, followed by the answers of the run, is what the client took, followed by
-- what it is owed after. A client that was closed took a beginning of that.
pub record SentAndOwed (c : ℕ) (old : ServerState) (events : List Event) (outcomes : List Outcome)
    (new : ServerState) : Type 0 where
  pub while_open : is_closed c new ≡ false
      → owed c old ++ answers c old events outcomes ≡ taken c old events outcomes ++ owed c new
  pub once_closed : is_closed c new ≡ true
      → IsBeginning (taken c old events outcomes) (owed c old ++ answers c old events outcomes)

-- What was held before, followed by what was asked in the run, is the executed lines, followed by
-- what is held after. Of a client that is closed or ending, the executed lines are a beginning of
-- that.
pub record TakenUp (c : ℕ) (old : ServerState) (events : List Event) (outcomes : List Outcome)
    (new : ServerState) : Type 0 where
  pub while_going : is_over c new ≡ false
      → held c old ++ asked c old events outcomes ≡ executed c old events outcomes ++ held c new
  pub once_over : is_over c new ≡ true
      → IsBeginning (executed c old events outcomes) (held c old ++ asked c old events outcomes)

-- In every run, of every client.
abbrev pub WhatWasSentAndIsOwedIsTheAnswers : Type 0
WhatWasSentAndIsOwedIsTheAnswers =
    (old new : ServerState) (events : List Event) (outcomes : List Outcome) → IsLawful old
    → Run old events outcomes new → (c : ℕ) → SentAndOwed c old events outcomes new

abbrev pub WhatWasAskedIsExecutedOrHeld : Type 0
WhatWasAskedIsExecutedOrHeld =
    (old new : ServerState) (events : List Event) (outcomes : List Outcome) → IsLawful old
    → Run old events outcomes new → (c : ℕ) → TakenUp c old events outcomes new

-- It belongs to the pump that began so: the line is its client's next one once so many lines before
-- it are executed; the notice comes once all lines are, where as many bytes are held as may be, and
-- no LF is among them.
abbrev pub IsInPump : ServerState → ℕ → Execution → Type 0
IsInPump begun c (of_line s d line) =
    (d ≡ c) × (k : ℕ) × (s ≡ after_lines k begun c) × (next_line_for s c ≡ Some line)
IsInPump begun c (of_notice s d) =
    (d ≡ c) × (s ≡ after_all_lines begun c) × (is_overlong s c ≡ true)

-- It belongs to this event on this server: to the pump that begins once the bytes have come, or are
-- taken.
abbrev pub IsInEvent : ServerState → Event → Execution → Type 0
IsInEvent s (Feed c piece) x = IsInPump (with_input s c piece) c x
IsInEvent s (Took c n) x = IsInPump (without_output s c n) c x
IsInEvent s _ x = ⊥

-- It belongs to an event of the run, on the server to which the run's own beginning before that
-- event leads.
pub record IsTimely (old : ServerState) (events : List Event) (outcomes : List Outcome)
    (x : Execution) : Type 0 where
  pub events_before : List Event
  pub event : Event
  pub events_after : List Event
  pub outcomes_before : List Outcome
  pub outcome : Outcome
  pub outcomes_after : List Outcome
  pub server : ServerState
  pub events_are : events ≡ events_before ++ event ∷ events_after
  pub outcomes_are : outcomes ≡ outcomes_before ++ outcome ∷ outcomes_after
  pub reached : Run old events_before outcomes_before server
  pub executed : IsInEvent server event x

-- Each answer of a run is the reply to its line on the server of that point of that run, at which
-- the line was the next to be executed; each notice came where it was due.
abbrev pub EachAnswerIsTimely : Type 0
EachAnswerIsTimely =
    (old new : ServerState) (events : List Event) (outcomes : List Outcome)
    → Run old events outcomes new
    → All (IsTimely old events outcomes) (executions old events outcomes)

-- After bytes that were taken in, and after bytes that were taken, nothing is left that may be
-- executed.
pub record NothingIsLeftToExecute : Type 0 where
  pub fed : (old new : ServerState) (c n : ℕ) (piece : List ℕ) → Step old (Feed c piece) (Fed n) new
      → pump_stops new c ≡ true
  pub took : (old new : ServerState) (c n : ℕ) → Step old (Took c n) Done new
      → pump_stops new c ≡ true

-- A line is executed only while at most 4,096 bytes are owed to its client, and its answer is
-- joined after them: so what is owed is at most that, and one answer.
abbrev pub OneAnswerAtMostIsOwedAbove : Type 0
OneAnswerAtMostIsOwedAbove =
    (s : ServerState) (c : ℕ) (line : List ℕ) → next_line_for s c ≡ Some line
    → (length (owed c s) ≤ OWED_LIMIT) × (owed c (after_line s c) ≡ owed c s ++ (reply s c line))

-- A whole line that is refused, by an answer that begins with ERR, changes nothing but its own
-- session's held and owed bytes.
abbrev pub ARefusedLineChangesNothing : Type 0
ARefusedLineChangesNothing =
    (s : ServerState) (c : ℕ) (line : List ℕ) (x : SessionState) → session c s ≡ Some x
    → next_line_for s c ≡ Some line → starts_with nat_eq (reply s c line) (codes "ERR") ≡ true
    → after_line s c ≡ with_session s (answered line (reply s c line) x)
