-- What a driver has reported, and what each of its lines does to that.
use Rattle.std.specs.Prelude.{◌≡◌, ◌≤◌, ⊤, ℕ, Bool, true, false, List, [], ◌∷◌, Option, Some, None}
use Rattle.std.specs.Prelude.{Result, Ok, Err}
use Rattle.nuttracking.specs.declared.limits.TheConstants.{DONE_LIMIT}
use Rattle.nutdriver.specs.declared.line.DriverLine.{DriverLine}
use Rattle.nutdriver.specs.declared.line.DriverLine.TheVariants.{Tracking}
use Rattle.nutdriver.specs.declared.fault.DriverFault.{DriverFault}
use Rattle.nutdriver.specs.declared.effect.Effect.{Effect}
use Rattle.nutdriver.specs.declared.effect.Effect.TheVariants.{Nothing, Changed, DumpDone, DataOk}
use Rattle.nutdriver.specs.declared.effect.Effect.TheVariants.{DataStale, Pong}
use Rattle.nutdriver.specs.declared.effect.Effect.TheVariants.{Tracked as OrderTracked}
use Rattle.nutdriver.specs.declared.report.Report.{Report}
use Rattle.nutdriver.specs.declared.report.LineOutcome.{LineOutcome}
use Rattle.nutdriver.specs.declared.report.LineOutcome.TheVariants.{Accepted, Tracked, Refused}
use Rattle.nutdriver.specs.Tree.{TreeState, empty_tree}
use Rattle.nutdriver.specs.DriverLine.{read_driver_line}
use Rattle.nutdriver.specs.DriverStep.{driver_step, changes_tree, entries_before}

-- No driver is connected.
abbrev pub lost_report : Report
lost_report = record { connected = false; dumped = false; ok = false; heard = 0; tree = empty_tree }

-- A driver has connected at this moment, and has reported nothing yet.
abbrev pub connected_report : ℕ → Report
connected_report moment =
    record { connected = true; dumped = false; ok = false; heard = moment; tree = empty_tree }

-- What a line does beside the tree.
abbrev pub after_effect : Effect → Report → Report
after_effect Nothing report = report
after_effect Changed report = report
after_effect DumpDone report = record report { dumped = true }
after_effect DataOk report = record report { ok = true }
after_effect DataStale report = record report { ok = false }
after_effect Pong report = report
after_effect (OrderTracked id number) report = report

-- What comes of a line that was done.
abbrev pub effect_outcome : Effect → LineOutcome
effect_outcome (OrderTracked id number) = Tracked id number
effect_outcome _ = Accepted

abbrev pub after_step : Report → Result (TreeState × Effect) DriverFault → Report × LineOutcome
after_step report (Ok (tree, effect)) =
    (after_effect effect (record report { tree = tree }), effect_outcome effect)
after_step report (Err fault) = (report, Refused fault)

abbrev pub after_reading : Report → Result DriverLine DriverFault → Report × LineOutcome
after_reading report (Ok line) = after_step report (driver_step report.tree line)
after_reading report (Err fault) = (report, Refused fault)

-- A whole line is heard at this moment, accepted or refused. A refused one changes nothing more.
abbrev pub after_line : ℕ → Report → List ℕ → Report × LineOutcome
after_line moment report line =
    after_reading (record report { heard = moment }) (read_driver_line line)

-- How an order ended: its id, and the number that its driver reports.
pub record OrderEnd : Type 0 where
  pub id : ℕ
  pub number : ℕ

-- What a driver's line says of an order, if it is such a line.
abbrev pub end_read : Result DriverLine DriverFault → Option OrderEnd
end_read (Ok (Tracking id number)) = Some (record { id = id; number = number })
end_read _ = None

abbrev pub end_in : List ℕ → Option OrderEnd
end_in line = end_read (read_driver_line line)

-- What the outcome of a line says of an order.
abbrev pub reported_end : LineOutcome → Option OrderEnd
reported_end (Tracked id number) = Some (record { id = id; number = number })
reported_end _ = None

-- What the outcome of a line says of an order is what the line says of it.
abbrev pub WhatIsReportedOfAnOrderIsRead : Type 0
WhatIsReportedOfAnOrderIsRead =
    (moment : ℕ) (report : Report) (line : List ℕ)
    → reported_end (after_line moment report line).1 ≡ end_in line

-- The number of a report on an order is one that an order may be done with.
abbrev pub HasLawfulNumber : LineOutcome → Type 0
HasLawfulNumber (Tracked id number) = number ≤ DONE_LIMIT
HasLawfulNumber _ = ⊤

abbrev pub ReportedNumbersAreLawful : Type 0
ReportedNumbersAreLawful =
    (moment : ℕ) (report : Report) (line : List ℕ)
    → HasLawfulNumber (after_line moment report line).1

-- A whole line of a driver, the moment at which it is heard, and whether it reports on an order
-- that isn't awaited then.
pub record Heard : Type 0 where
  pub moment : ℕ
  pub line : List ℕ
  pub unawaited : Bool

-- The report once the lines are heard, one after another.
abbrev pub after_heard : Report → List Heard → Report
after_heard report [] = report
after_heard report (x ∷ lines) = after_heard (after_line x.moment report x.line).0 lines

-- The line would change the tree, for which memory may be refused.
abbrev pub reading_changes : TreeState → Result DriverLine DriverFault → Bool
reading_changes tree (Ok line) = changes_tree tree line
reading_changes tree (Err fault) = false

abbrev pub line_changes : TreeState → List ℕ → Bool
line_changes tree line = reading_changes tree (read_driver_line line)

-- How many entries the map has that the line may change.
abbrev pub entries_before_reading : TreeState → Result DriverLine DriverFault → ℕ
entries_before_reading tree (Ok line) = entries_before tree line
entries_before_reading tree (Err fault) = 0
