-- What the events of drivers, of the clock and of ids do, and which outcomes they have.
use Rattle.std.specs.Prelude.{ℕ, ◌+◌, ◌-◌, Bool, false, List, [], ◌++◌, Option, Some, None, nat_le}
use Rattle.std.specs.Prelude.{◌&&◌, if◌then◌else◌, length, drop, max, map, not}
use Rattle.std.specs.Option.{option_map_or}
use Rattle.nutusers.specs.declared.ups_list.UpsId.{UpsId}
use Rattle.nutcore.specs.declared.event.Outcome.{Outcome}
use Rattle.nutcore.specs.declared.event.Outcome.TheVariants.{Done, Refused}
use Rattle.nutcore.specs.declared.event.Fault.TheVariants as faults
use Rattle.nuttracking.specs.declared.tracking.IdFault.{IdFault}
use Rattle.nuttracking.specs.declared.tracking.IdFault.TheVariants.{Known, TooMany}
use Rattle.nuttracking.specs.Tracking.{with_id}
use Rattle.nutwords.specs.WholeLines.{unfinished_after, is_too_long}
use Rattle.nutcore.specs.Reports.{after_ends}
use Rattle.nutcore.specs.Ups.{UpsState, after_connecting, after_loss, after_tick, lines_of}
use Rattle.nutcore.specs.Ups.{ups_after_bytes, wants_memory_at}
use Rattle.nutcore.specs.Server.{ServerState}
use Rattle.nutcore.specs.Parts.{ups_at, with_ups_changed, with_tracking}

-- Drivers come and are lost. A refused event changes nothing.
abbrev pub connected : ℕ → UpsState → UpsState
connected moment x = if x.report.connected then x else after_connecting moment x

abbrev pub disconnected : UpsState → UpsState
disconnected x = if x.report.connected then after_loss x else x

-- Drivers report. What came changes the driver's UPS, at the server's moment; and where these lines
-- report how orders ended that this UPS waits for, these orders.
abbrev pub changed_both : (UpsState → UpsState) → List (List ℕ) → UpsId → ServerState → ServerState
changed_both f lines u s =
    with_tracking (after_ends u.place lines s.tracking) (with_ups_changed f u s)

unfoldable pub lines_read : UpsId → List ℕ → Option ℕ → ServerState → List (List ℕ)
lines_read u piece m s = option_map_or (lines_of piece m) (ups_at u.place s) []

unfoldable pub after_driver_bytes : UpsId → List ℕ → Option ℕ → ServerState → ServerState
after_driver_bytes u piece m s =
    changed_both (ups_after_bytes s.moment u.place s.tracking piece m) (lines_read u piece m s) u s

-- The driver took n bytes of what it is owed.
abbrev pub driver_may_take : ℕ → UpsState → Bool
driver_may_take n x = x.report.connected && nat_le n (length x.owed)

abbrev pub after_driver_took : ℕ → UpsState → UpsState
after_driver_took n x = if driver_may_take n x then record x { owed = drop n x.owed } else x

-- Time. The moment never goes back, and each UPS whose PING is due gets one.
unfoldable pub ticked : ℕ → ServerState → ServerState
ticked seconds s =
    let moment = max seconds s.moment in
    record s { moment = moment; upses = map (after_tick s.max_age moment) s.upses }

-- An id for an order is handed in.
abbrev pub handed_in : ℕ → ServerState → ServerState
handed_in id s = with_tracking (with_id id s.tracking) s

abbrev pub connected_by : Option UpsState → Outcome
connected_by None = Refused faults.NoSuchUps
connected_by (Some x) = if x.report.connected then Refused faults.AlreadyConnected else Done

abbrev pub driver_text_outcome : List ℕ → Outcome
driver_text_outcome text = if is_too_long (unfinished_after text) then Refused faults.LineTooLong
    else Done

abbrev pub driver_bytes_by : List ℕ → Option UpsState → Outcome
driver_bytes_by piece None = Refused faults.NoSuchUps
driver_bytes_by piece (Some x) =
    if x.report.connected then driver_text_outcome (x.unfinished ++ piece) else Refused
    faults.NotConnected

abbrev pub driver_took_by : ℕ → Option UpsState → Outcome
driver_took_by n None = Refused faults.NoSuchUps
driver_took_by n (Some x) =
    if not x.report.connected then Refused faults.NotConnected else if nat_le n (length x.owed)
    then Done
    else Refused faults.TookTooMuch

abbrev pub disconnected_by : Option UpsState → Outcome
disconnected_by None = Refused faults.NoSuchUps
disconnected_by (Some x) = if x.report.connected then Done else Refused faults.NotConnected

abbrev pub id_outcome : Option IdFault → Outcome
id_outcome None = Done
id_outcome (Some Known) = Refused faults.KnownId
id_outcome (Some TooMany) = Refused faults.TooManyIds

-- A driver is connected, and of what it reported the line after the first k wants memory.
abbrev pub driver_may_lack_memory : UpsId → List ℕ → ℕ → ServerState → Bool
driver_may_lack_memory u piece k s =
    option_map_or
    (λ x. x.report.connected
    && wants_memory_at s.moment u.place s.tracking (x.unfinished ++ piece) k x)
    (ups_at u.place s) false
