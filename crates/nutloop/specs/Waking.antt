-- How long a look at the system may wait: nothing that is due is slept over.
use Rattle.std.specs.Prelude.{ℕ, Bool, false, List, [], ◌∷◌, suc, ◌&&◌, ◌||◌, is_none, is_some}
use Rattle.std.specs.Prelude.{if◌then◌else◌, min, fold, slice_get, Option}
use Rattle.std.specs.Prelude.{Some, None, nat_lt}
use Rattle.std.specs.List.{list_any}
use Rattle.std.specs.Option.{option_and_then, option_map_or}
use Rattle.nutcore.specs.Server.{ServerState}
use Rattle.nutcore.specs.Due.{due_second, never}
use Rattle.nutloop.specs.Doors.{is_tried_again}
use Rattle.nutloop.specs.Places.{first_silent, next_second}
use Rattle.nutloop.specs.declared.over_mio.MioSockets.{MioSockets}
use Rattle.nutloop.specs.declared.over_mio.closing.Closing.{Closing}
use Rattle.nutloop.specs.declared.over_mio.drivers.Driver.{Driver}
use Rattle.nutloop.specs.declared.sockets.Ready.{Ready}
use Rattle.nutloop.specs.declared.sockets.Ready.TheVariants.{Tick}

-- A tick is due where the clock has a later second than the server's moment.
abbrev pub due_tick : ℕ → ℕ → Option ℕ
due_tick moment now = if nat_lt moment now then Some now else None

-- The second of a tick.
abbrev pub tick_in : Ready → Option ℕ
tick_in (Tick second) = Some second
tick_in _ = None

-- A driver that isn't connected is tried again each second, if its socket has a path.
abbrev pub is_absent : ServerState → ℕ → Driver → Bool
is_absent s place x =
    is_none x.socket && is_some (option_and_then (λ ups. ups.socket) (slice_get s.list place))

abbrev pub is_any_absent : ServerState → ℕ → List Driver → Bool
is_any_absent s place [] = false
is_any_absent s place (x ∷ xs) = is_absent s place x || is_any_absent s (suc place) xs

-- The second at which the first closing connection ends.
abbrev pub first_end : List Closing → ℕ
first_end closing = fold (λ least x. min least x.until) never closing

-- The next second is waited for, as the latest, where the look is to end soon, or something is
-- tried again: an accept that failed, or a driver.
abbrev pub is_due_soon : {R F : Type 0} → ServerState → Bool → MioSockets R F → Bool
is_due_soon s soon sockets =
    soon || (is_tried_again sockets.entrance || is_any_absent s 0 sockets.drivers.items)

abbrev pub is_any_readable : List Closing → Bool
is_any_readable closing = list_any (λ x. x.socket.readable) closing

-- Nothing is waited for where somebody had a turn, or a closing connection may be read.
abbrev pub is_busy : {R F : Type 0} → MioSockets R F → Bool
is_busy sockets = sockets.pass.had_turn || is_any_readable sockets.closing.items

-- The second at which the first client is to be ended for its silence.
abbrev pub silent_due : {R F : Type 0} → MioSockets R F → ℕ
silent_due sockets =
    option_map_or (λ idle. first_silent idle sockets.second sockets.clients.items)
    sockets.rules.idle never

-- The second up to which a look may wait.
abbrev pub wake_second : {R F : Type 0} → ServerState → Bool → MioSockets R F → ℕ
wake_second s soon sockets =
    let due = min (min (due_second s) (first_end sockets.closing.items)) (silent_due sockets) in
    if is_busy sockets then 0
    else if is_due_soon s soon sockets then min due (next_second sockets.second) else due
