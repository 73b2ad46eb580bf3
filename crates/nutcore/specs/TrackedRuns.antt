-- Tracked orders over whole runs: their ids, and what is answered on them.
use Rattle.std.specs.Prelude.{◌≡◌, ◌<◌, ℕ, List, [], ◌∷◌, ◌++◌, Option, Some, None, length, map}
use Rattle.std.specs.List.{flat_map}
use Rattle.circular_buffer.specs.Buffer.{keep_last}
use Rattle.nuttracking.specs.declared.limits.TheConstants.{ORDER_LIMIT}
use Rattle.nuttracking.specs.Acts.{Act, after_acts, taken_in, given, first_report}
use Rattle.nuttracking.specs.Acts.Act.{handed_in, ordered, reported}
use Rattle.nuttracking.specs.Laws.{as_given}
use Rattle.nuttracking.specs.Sound.{IsSoundTracking}
use Rattle.nuttracking.specs.Tracking.{nothing_tracked, next_id, progress_of, with_order}
use Rattle.nutanswer.specs.declared.reply.Change.{Change}
use Rattle.nutanswer.specs.declared.reply.Change.TheVariants.{Tracked}
use Rattle.nutcommand.specs.Command.{read_command}
use Rattle.nutcore.specs.declared.event.Event.{Event}
use Rattle.nutcore.specs.declared.event.Event.TheVariants.{DriverBytes, Id}
use Rattle.nutcore.specs.declared.event.Outcome.{Outcome}
use Rattle.nutdriver.specs.Report.{OrderEnd, end_in}
use Rattle.nutcore.specs.Reply.{change_by}
use Rattle.nutcore.specs.Server.{ServerState}
use Rattle.nutcore.specs.Step.{after}
use Rattle.nutcore.specs.Run.{Run}
use Rattle.nutcore.specs.History.{Execution, of_line, of_notice, executions_in_event}
use Rattle.nutcore.specs.DriverHistory.{heard_in_event}
use Rattle.nutcore.specs.DriverRuns.{IsNewServer}

-- A line of the driver of the UPS at this place reports on an order, or does nothing of the kind.
abbrev pub act_of_end : ℕ → Option OrderEnd → List Act
act_of_end place None = []
act_of_end place (Some e) = reported place e.id e.number ∷ []

-- An executed line of a client gives a tracked order, or does nothing of the kind.
abbrev pub act_of_change : Change → List Act
act_of_change (Tracked u id line) = ordered u.place ∷ []
act_of_change _ = []

abbrev pub act_of : Execution → List Act
act_of (of_line s c line) = act_of_change (change_by s c (read_command line))
act_of (of_notice s c) = []

-- What an event does to them, in order.
abbrev pub acts_in_event : ServerState → Event → Outcome → List Act
acts_in_event s (Id id) outcome = handed_in id ∷ []
acts_in_event s (DriverBytes u piece) outcome =
    flat_map (λ x. act_of_end u.place (end_in x.line))
    (heard_in_event u s (DriverBytes u piece) outcome)
acts_in_event s e outcome = flat_map act_of (executions_in_event s e outcome)

abbrev pub acts : ServerState → List Event → List Outcome → List Act
acts s [] os = []
acts s (e ∷ es) [] = []
acts s (e ∷ es) (o ∷ os) = acts_in_event s e o ++ acts (after s e o) es os

-- The available ids and the tracked orders after a run are what these acts make of those before it.
abbrev pub WhatIsTrackedComesOfTheActs : Type 0
WhatIsTrackedComesOfTheActs =
    (old new : ServerState) (events : List Event) (outcomes : List Outcome)
    → Run old events outcomes new
    → new.tracking ≡ after_acts old.tracking (acts old events outcomes)

-- Of a run from a new server. once: an id stands for one order, and there are at most 64 ids and
-- 256 orders. in_order: the ids that were used, in order, and then the available ones are those
-- that were taken in, in order: each is used once, the first one first. last: the orders that are
-- kept are the last 256 that were given. settled: the state of an order, from when it was given
-- with an id, for as long as it is kept, is pending, up to the first report on it by the driver of
-- its UPS, and from then on what that said.
pub record IsTrackedInRun (acts : List Act) (new : ServerState) : Type 0 where
  pub once : IsSoundTracking new.tracking
  pub in_order : map (λ order. order.id) (given nothing_tracked acts) ++ new.tracking.ids
      ≡ taken_in nothing_tracked acts
  pub last : map as_given new.tracking.orders
      ≡ keep_last ORDER_LIMIT (given nothing_tracked acts)
  pub settled : (earlier later : List Act) (place id : ℕ) → acts ≡ earlier ++ ordered place ∷ later
      → next_id (after_acts nothing_tracked earlier) ≡ Some id
      → length (given (with_order place (after_acts nothing_tracked earlier)) later) < ORDER_LIMIT
      → progress_of id new.tracking ≡ Some (first_report place id later)

abbrev pub EachRunTracksItsOrders : Type 0
EachRunTracksItsOrders =
    (old new : ServerState) (events : List Event) (outcomes : List Outcome) → IsNewServer old
    → Run old events outcomes new → IsTrackedInRun (acts old events outcomes) new
