-- Which lines of a driver a run executed, and what they made of its report.
use Rattle.std.specs.Prelude.{◌≡◌, ◌≤◌, ◌+◌, ℕ, Bool, true, false, List, [], ◌∷◌, ◌++◌}
use Rattle.std.specs.Prelude.{Some, None, ◌==◌, ◌&&◌, if◌then◌else◌, length, min}
use Rattle.std.specs.List.{flat_map}
use Rattle.std.specs.Option.{option_map_or}
use Rattle.nutwords.specs.SplitLine.{split_line}
use Rattle.nutwords.specs.declared.limits.TheConstants.{LINE_LIMIT}
use Rattle.nutusers.specs.declared.ups_list.UpsId.{UpsId}
use Rattle.nutdriver.specs.declared.report.Report.{Report}
use Rattle.nutdriver.specs.declared.report.LineOutcome.{LineOutcome}
use Rattle.nutdriver.specs.Report.{after_line}
pub use Rattle.nutdriver.specs.Report.{Heard, after_heard}
use Rattle.nutcore.specs.declared.event.Event.{Event}
use Rattle.nutcore.specs.declared.event.Event.TheVariants.{DriverBytes}
use Rattle.nutcore.specs.declared.event.Outcome.{Outcome}
use Rattle.nutwords.specs.SplitLine.{with_lf}
use Rattle.nuttracking.specs.Tracking.{TrackingState}
use Rattle.nutwords.specs.WholeLines.{whole_lines}
use Rattle.nutdriver.specs.Report.{end_in}
use Rattle.nutcore.specs.Reports.{with_end, is_unawaited}
use Rattle.nutcore.specs.Ups.{UpsState, greatest_count, is_refused, as_far}
use Rattle.nutcore.specs.Server.{ServerState}
use Rattle.nutcore.specs.Parts.{ups_at}
use Rattle.nutcore.specs.Step.{after, refused_after}
use Rattle.nutcore.specs.Run.{Run}
use Rattle.nutcore.specs.Sound.{Each}

-- The bytes of the lines, each with its LF.
abbrev pub bytes_heard : List Heard → List ℕ
bytes_heard lines = flat_map (λ x. with_lf x.line) lines

-- How many of the lines are refused, each on the report that those before it made.
abbrev pub refusals : Bool → LineOutcome → ℕ
refusals unawaited outcome = if is_refused unawaited outcome then 1 else 0

abbrev pub refused_among : Report → List Heard → ℕ
refused_among report [] = 0
refused_among report (x ∷ lines) =
    refusals x.unawaited (after_line x.moment report x.line).1
    + refused_among (after_line x.moment report x.line).0 lines

-- A line has no LF, and at most 2,047 bytes.
pub record IsWholeLine (x : Heard) : Type 0 where
  pub one : split_line x.line ≡ None
  pub short : length x.line ≤ LINE_LIMIT

-- What came from the driver of this UPS in an event, and in a run.
abbrev pub came_in_event : UpsId → Event → List ℕ
came_in_event u (DriverBytes v piece) = if v.place == u.place then piece else []
came_in_event u _ = []

abbrev pub came : UpsId → List Event → List ℕ
came u [] = []
came u (e ∷ es) = came_in_event u e ++ came u es

-- A driver is connected to the UPS,
abbrev pub has_driver : UpsId → ServerState → Bool
has_driver u s = option_map_or (λ x. x.report.connected) (ups_at u.place s) false

-- and was never lost in the run.
abbrev pub StaysConnected : UpsId → ServerState → List Event → List Outcome → Type 0
StaysConnected u s [] os = has_driver u s ≡ true
StaysConnected u s (e ∷ es) [] = has_driver u s ≡ true
StaysConnected u s (e ∷ es) (o ∷ os) =
    (has_driver u s ≡ true) × StaysConnected u (after s e o) es os

-- What is unfinished of what came from it.
abbrev pub unfinished_of : UpsId → ServerState → List ℕ
unfinished_of u s = option_map_or (λ x. x.unfinished) (ups_at u.place s) []

-- The lines that are executed in an event, and in a run: where the driver is connected, the whole
-- lines of what was unfinished and of what came, at the event's moment; or as many as memory let.
abbrev pub heard_at : ℕ → ℕ → TrackingState → List (List ℕ) → List Heard
heard_at moment place t [] = []
heard_at moment place t (line ∷ lines) =
    (record {
      moment = moment;
      line = line;
      unawaited = is_unawaited place (end_in line) t;
    }) ∷ heard_at moment place (with_end place (end_in line) t) lines

abbrev pub heard_in_event : UpsId → ServerState → Event → Outcome → List Heard
heard_in_event u s (DriverBytes v piece) outcome =
    if v.place == u.place && has_driver u s
    then heard_at s.moment u.place s.tracking
    (as_far (refused_after outcome) (whole_lines (unfinished_of u s ++ piece)))
    else []
heard_in_event u s _ outcome = []

abbrev pub heard : UpsId → ServerState → List Event → List Outcome → List Heard
heard u s [] os = []
heard u s (e ∷ es) [] = []
heard u s (e ∷ es) (o ∷ os) = heard_in_event u s e o ++ heard u (after s e o) es os

-- The count of refused lines grows by those of these lines that are refused, up to its greatest
-- number.
abbrev pub CountsRefused : UpsState → List Heard → UpsState → Type 0
CountsRefused before lines after =
    before.faulty ≤ greatest_count
    → after.faulty ≡ min (before.faulty + refused_among before.report lines) greatest_count

-- From one state of a UPS to another: what was unfinished, followed by what came, is the executed
-- lines, followed by what is unfinished; the report is what these lines made of it, in order, and
-- those that are refused are counted.
pub record IsHeard (before : UpsState) (came : List ℕ) (lines : List Heard) (after : UpsState)
    : Type 0 where
  pub whole : Each IsWholeLine lines
  pub all : before.unfinished ++ came ≡ bytes_heard lines ++ after.unfinished
  pub report : after.report ≡ after_heard before.report lines
  pub counted : CountsRefused before lines after

pub record DriverIsHeard (u : UpsId) (old : ServerState) (came : List ℕ) (lines : List Heard)
    (new : ServerState) : Type 0 where
  pub before : UpsState
  pub after : UpsState
  pub there_before : ups_at u.place old ≡ Some before
  pub there_after : ups_at u.place new ≡ Some after
  pub is_heard : IsHeard before came lines after

-- While a driver isn't lost, all that came from it is its executed lines, followed by what is
-- unfinished, its report is what these lines made of it, and the refused ones are counted.
abbrev pub WhatADriverReportedIsExecuted : Type 0
WhatADriverReportedIsExecuted =
    (old new : ServerState) (events : List Event) (outcomes : List Outcome) (u : UpsId)
    → Run old events outcomes new → StaysConnected u old events outcomes
    → DriverIsHeard u old (came u events) (heard u old events outcomes) new
