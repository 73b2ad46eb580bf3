-- A UPS: its driver's connection and report, and what each event leaves of them.
use Rattle.std.specs.Prelude.{ℕ, ◌+◌, ◌-◌, ◌^◌, Bool, true, false, List, [], ◌∷◌, ◌++◌, Option}
use Rattle.std.specs.Prelude.{Some, None, codes, length, min, nat_le, ◌&&◌, ◌/◌, take, slice_get}
use Rattle.std.specs.Prelude.{if◌then◌else◌}
use Rattle.nutcore.specs.declared.TheConstants.{DRIVER_OWED_LIMIT}
use Rattle.nutwords.specs.WholeLines.{whole_lines, unfinished_after, is_too_long}
use Rattle.nutdriver.specs.declared.report.Report.{Report}
use Rattle.nutdriver.specs.declared.report.LineOutcome.{LineOutcome}
use Rattle.nutdriver.specs.declared.report.LineOutcome.TheVariants.{Accepted, Tracked, Refused}
use Rattle.nutdriver.specs.Report.{lost_report, connected_report, after_line, line_changes}
use Rattle.nuttracking.specs.Tracking.{TrackingState}
use Rattle.nutdriver.specs.Report.{end_in}
use Rattle.nutcore.specs.Reports.{with_end, is_unawaited}

-- report: what its driver has reported. pinged: the moment of the last PING to it, in seconds. fsd:
-- a forced shutdown is set. owed: what the driver is still to be sent. unfinished: what came of its
-- next line. faulty: how many of its lines were refused.
pub record UpsState : Type 0 where
  pub report : Report
  pub pinged : ℕ
  pub fsd : Bool
  pub owed : List ℕ
  pub unfinished : List ℕ
  pub faulty : ℕ

-- A UPS of a new server.
abbrev pub new_ups : UpsState
new_ups =
    record {
      report = lost_report;
      pinged = 0;
      fsd = false;
      owed = [];
      unfinished = [];
      faulty = 0;
    }

-- Its driver is connected, and is asked for all that it knows.
abbrev pub after_connecting : ℕ → UpsState → UpsState
after_connecting moment x =
    record x {
      report = connected_report moment;
      pinged = moment;
      owed = codes "DUMPALL" ++ 10 ∷ [];
      unfinished = [];
    }

-- Its driver is lost, and what it reported with it. A forced shutdown and the count of refused
-- lines stay.
abbrev pub after_loss : UpsState → UpsState
after_loss x = record x { report = lost_report; pinged = 0; owed = []; unfinished = [] }

-- A forced shutdown is set. It stays set until the server ends.
abbrev pub with_fsd : UpsState → UpsState
with_fsd x = record x { fsd = true }

-- How many bytes more its driver may be owed.
abbrev pub free_room : UpsState → ℕ
free_room x = DRIVER_OWED_LIMIT - length x.owed

-- Its driver is owed this line, after what it is owed already.
abbrev pub with_order : List ℕ → UpsState → UpsState
with_order line x = record x { owed = x.owed ++ line }

-- The line by which a driver is asked whether it is there.
abbrev pub ping_line : List ℕ
ping_line = codes "PING" ++ 10 ∷ []

-- A PING is due where a connected driver sent nothing, and wasn't pinged, for a third of the
-- greatest age, and the line fits in what it may be owed.
abbrev pub ping_is_due : ℕ → ℕ → UpsState → Bool
ping_is_due max_age moment x =
    x.report.connected
    && (nat_le (max_age / 3) (moment - x.report.heard)
    && (nat_le (max_age / 3) (moment - x.pinged)
    && nat_le (length x.owed + length ping_line) DRIVER_OWED_LIMIT))

-- The moment is this one now.
abbrev pub after_tick : ℕ → ℕ → UpsState → UpsState
after_tick max_age moment x =
    if ping_is_due max_age moment x then record x { pinged = moment; owed = x.owed ++ ping_line }
    else x

-- The count of refused lines stops at its greatest number.
abbrev pub greatest_count : ℕ
greatest_count = 2 ^ 64 - 1

abbrev pub with_faulty_line : UpsState → UpsState
with_faulty_line x = record x { faulty = min (x.faulty + 1) greatest_count }

-- The line is refused: so is a report on an order that isn't awaited.
abbrev pub is_refused : Bool → LineOutcome → Bool
is_refused unawaited Accepted = false
is_refused unawaited (Tracked id number) = unawaited
is_refused unawaited (Refused fault) = true

abbrev pub after_outcome : Bool → UpsState → Report × LineOutcome → UpsState
after_outcome unawaited x r =
    let y : UpsState = record x { report = r.0 } in
    if is_refused unawaited r.1 then with_faulty_line y else y

-- A whole line does what it says of the report, and is counted where it is refused.
abbrev pub after_text : ℕ → Bool → UpsState → List ℕ → UpsState
after_text moment unawaited x line = after_outcome unawaited x (after_line moment x.report line)

-- The UPS at this place after these lines of its driver, one by one, where these are the orders
-- before them.
abbrev pub after_texts : ℕ → ℕ → TrackingState → List (List ℕ) → UpsState → UpsState
after_texts moment place t [] x = x
after_texts moment place t (line ∷ lines) x =
    after_texts moment place (with_end place (end_in line) t) lines
    (after_text moment (is_unawaited place (end_in line) t) x line)

-- These bytes of its driver's next line have come.
abbrev pub with_unfinished : List ℕ → UpsState → UpsState
with_unfinished bytes x = record x { unfinished = bytes }

-- The rest stays unfinished, or the driver is lost where that is too long.
abbrev pub with_rest : List ℕ → UpsState → UpsState
with_rest rest x = if is_too_long rest then after_loss x else with_unfinished rest x

-- Of these lines, those that are done: all, or as many as memory let.
abbrev pub as_far : Option ℕ → List (List ℕ) → List (List ℕ)
as_far None lines = lines
as_far (Some k) lines = take k lines

-- What its driver reported is whole lines and a rest: the UPS after these lines, with the rest; or,
-- where memory was refused after k of them, after these k, the driver lost.
abbrev pub ups_after_text : ℕ → ℕ → TrackingState → List ℕ → Option ℕ → UpsState → UpsState
ups_after_text moment place t text None x =
    with_rest (unfinished_after text) (after_texts moment place t (whole_lines text) x)
ups_after_text moment place t text (Some k) x =
    after_loss (after_texts moment place t (take k (whole_lines text)) x)

-- A piece is read after what was unfinished. Where no driver is connected, nothing changes.
abbrev pub ups_after_bytes : ℕ → ℕ → TrackingState → List ℕ → Option ℕ → UpsState → UpsState
ups_after_bytes moment place t piece m x =
    if x.report.connected then ups_after_text moment place t (x.unfinished ++ piece) m x else x

-- The lines that are done then.
abbrev pub lines_of : List ℕ → Option ℕ → UpsState → List (List ℕ)
lines_of piece m x =
    if x.report.connected then as_far m (whole_lines (x.unfinished ++ piece)) else []

-- The line, if there is one, would change the tree, for which memory may be refused.
abbrev pub wants_memory_for : Option (List ℕ) → UpsState → Bool
wants_memory_for None x = false
wants_memory_for (Some line) x = line_changes x.report.tree line

-- There is a whole line after the first k of what its driver reported, and it would change the
-- tree.
abbrev pub wants_memory_at : ℕ → ℕ → TrackingState → List ℕ → ℕ → UpsState → Bool
wants_memory_at moment place t text k x =
    wants_memory_for (slice_get (whole_lines text) k)
    (after_texts moment place t (take k (whole_lines text)) x)
