-- Which lines of a UPS, or of a client's address, are logged, and which are counted.
use Rattle.std.specs.Prelude.{◌≡◌, ℕ, ◌+◌, ◌-◌, ◌^◌, ◌<◌, ◌==◌, ◌&&◌, ◌||◌, Bool, List, [], ◌∷◌}
use Rattle.std.specs.Prelude.{◌≢◌, ◌/◌, true, Option, Some, None, if◌then◌else◌, not, nat_lt, min}
use Rattle.std.specs.Prelude.{max, ◌≤◌, length, slice_index, slice_set}
use Rattle.std.specs.Prelude.{nat_eq, nat_le, is_some}
use Rattle.std.specs.List.{repeat}
use Rattle.std.specs.Option.{option_eq, option_map_or}
use Rattle.nutjournal.specs.declared.tally.Count.{Count}
use Rattle.nutjournal.specs.declared.tally.Kind.{Kind}
use Rattle.nutjournal.specs.declared.tally.Kind.TheVariants as kinds
use Rattle.nutjournal.specs.declared.tally.Tally.{Tally}
use Rattle.nutjournal.specs.declared.log_buffer.TheConstants.{CRITICAL, WARNING, NOTICE, INFO}
use Rattle.nutjournal.specs.declared.tally.TheConstants.{LINE_LIMIT, ALARM_LIMIT, PLAIN_LIMIT}
use Rattle.nutjournal.specs.declared.tally.TheConstants.{MINUTE_LIMIT, MINUTE}

-- The most lines in a second before one of this kind: alarms and orders have one more than all
-- else, and a forced shutdown one more than these.
abbrev pub limit_of : Kind → ℕ
limit_of kinds.ForcedShutdown = LINE_LIMIT
limit_of kinds.Alarm = ALARM_LIMIT
limit_of kinds.LowBattery = ALARM_LIMIT
limit_of kinds.Order = ALARM_LIMIT
limit_of kinds.EmptyOrder = ALARM_LIMIT
limit_of kind = PLAIN_LIMIT

-- How urgent a line of a kind is (syslog(3)).
abbrev pub priority_of : Kind → ℕ
priority_of kinds.LowBattery = CRITICAL
priority_of kinds.ForcedShutdown = CRITICAL
priority_of kinds.Lost = WARNING
priority_of kinds.Stale = WARNING
priority_of kinds.Alarm = WARNING
priority_of kinds.Denied = WARNING
priority_of kinds.EmptyOrder = WARNING
priority_of kinds.GaveWay = WARNING
priority_of kinds.RefusedStatus = WARNING
priority_of kinds.OrderFailed = WARNING
priority_of kinds.Order = NOTICE
priority_of kind = INFO

-- The number of a kind.
abbrev pub number : Kind → ℕ
number kinds.Lost = 0
number kinds.Awaited = 1
number kinds.Good = 2
number kinds.Stale = 3
number kinds.Status = 4
number kinds.Alarm = 5
number kinds.LowBattery = 6
number kinds.LoggedIn = 7
number kinds.LoggedOut = 8
number kinds.Order = 9
number kinds.ForcedShutdown = 10
number kinds.RefusedLogin = 11
number kinds.RefusedOrder = 12
number kinds.Denied = 13
number kinds.EmptyOrder = 14
number kinds.Silent = 15
number kinds.GaveWay = 16
number kinds.RefusedStatus = 17
number kinds.OrderDone = 18
number kinds.OrderFailed = 19

-- A count stops at its greatest number.
abbrev pub one_more : ℕ → ℕ
one_more n = min (n + 1) (2 ^ 64 - 1)

-- So many lines were logged in this minute that only alarms and orders still are.
abbrev pub is_restless : Tally → Bool
is_restless y = nat_le MINUTE_LIMIT y.lines

-- A line is logged where the others leave it room, while there are fewer than its limit.
abbrev pub is_logged : Bool → Tally → Kind → Bool
is_logged has_room y kind =
    has_room
    && (nat_lt y.logged (limit_of kind) && not (is_restless y && limit_of kind == PLAIN_LIMIT))

-- How many of a kind are counted.
abbrev pub count : Kind → Tally → ℕ
count kind y = slice_index y.more (number kind)

-- What is not logged is counted, and the most urgent of what is counted gives it its priority.
abbrev pub after_line : Bool → Tally → Kind → Tally
after_line has_room y kind =
    if is_logged has_room y kind
    then record y { lines = one_more y.lines; logged = y.logged + 1 }
    else record y {
      more = slice_set y.more (number kind) (one_more (count kind y));
      worst = Some (option_map_or (λ n. min n (priority_of kind)) y.worst (priority_of kind));
    }

-- Another minute has begun since the second in which the journal was written last.
abbrev pub begins_minute : Option ℕ → ℕ → Bool
begins_minute None now = true
begins_minute (Some second) now = not (second / MINUTE == now / MINUTE)

-- What was counted is reported once the second is over: after too many lines once the minute is.
abbrev pub is_reported : Tally → Bool → Bool
is_reported y is_minute = is_minute || not (is_restless y)

abbrev pub reported : Tally → Bool → Option ℕ
reported y is_minute = if is_reported y is_minute then y.worst else None

abbrev pub nothing : List ℕ
nothing = repeat 20 (0 ∷ [])

abbrev pub after_second : Tally → Bool → Tally
after_second y is_minute =
    record {
      lines = if is_minute then 0 else y.lines;
      logged = 0;
      more = if is_reported y is_minute then nothing else y.more;
      worst = if is_reported y is_minute then None else y.worst;
    }

-- Lines were counted that weren't reported yet.
abbrev pub has_more : Tally → Bool
has_more y = is_some y.worst

-- Of what no note says, what is new is logged, but once a minute at most.
abbrev pub is_behind : ℕ → Count → Bool
is_behind count was = nat_lt was.logged count

abbrev pub is_of : ℕ → Count → Bool
is_of minute was = option_eq nat_eq was.minute (Some minute)

abbrev pub is_counted : ℕ → ℕ → Count → Bool
is_counted count minute was = is_behind count was && not (is_of minute was)

abbrev pub more_counted : ℕ → ℕ → Count → Option ℕ
more_counted count minute was =
    if is_counted count minute was then Some (count - was.logged) else None

abbrev pub after_count : ℕ → ℕ → Count → Count
after_count count minute was =
    if is_counted count minute was then record { logged = count; minute = Some minute } else was

-- A line that comes: whether the others leave it room, and its kind.
pub record Coming : Type 0 where
  pub has_room : Bool
  pub kind : Kind

-- The tally after such lines, how many of one kind were logged, and how many there were.
abbrev pub after_lines : Tally → List Coming → Tally
after_lines y [] = y
after_lines y (next ∷ later) = after_lines (after_line next.has_room y next.kind) later

abbrev pub one_if : Bool → ℕ
one_if holds = if holds then 1 else 0

abbrev pub is_same : Kind → Kind → Bool
is_same kind other = number kind == number other

abbrev pub logged_of : Kind → Tally → List Coming → ℕ
logged_of kind y [] = 0
logged_of kind y (next ∷ later) =
    one_if (is_same kind next.kind && is_logged next.has_room y next.kind)
    + logged_of kind (after_line next.has_room y next.kind) later

abbrev pub times : Kind → List Coming → ℕ
times kind [] = 0
times kind (next ∷ later) = one_if (is_same kind next.kind) + times kind later

-- Of the lines of a second each is logged, or is counted by its kind, while the count has room. No
-- more are logged than the limit.
pub record EachLineIsLoggedOrCounted : Type 0 where
  pub each : (y : Tally) (kind : Kind) (lines : List Coming)
      → length y.more ≡ 20 → count kind y + length lines < 2 ^ 64
      → logged_of kind y lines + count kind (after_lines y lines) ≡ count kind y + times kind lines
  pub most : (y : Tally) (lines : List Coming)
      → (after_lines y lines).logged ≤ max y.logged LINE_LIMIT

-- A minute counts its own lines only, whatever seconds the clock skipped before. However many there
-- were, an alarm of a UPS, as OB or LB, is logged while its second has fewer than nine lines.
pub record MinutesAreApart : Type 0 where
  pub none_yet : (y : Tally) (was now : ℕ) → was / MINUTE ≢ now / MINUTE
      → (after_second y (begins_minute (Some was) now)).lines ≡ 0
  pub alarms : (y : Tally) → y.logged < ALARM_LIMIT
      → (is_logged true y kinds.Alarm ≡ true) × (is_logged true y kinds.LowBattery ≡ true)
