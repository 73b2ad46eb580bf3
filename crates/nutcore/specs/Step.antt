-- What each event does, and which outcome it has.
use Rattle.std.specs.Prelude.{◌≡◌, ℕ, ◌+◌, ◌-◌, ◌^◌, Bool, false, List, [], ◌∷◌, ◌++◌, Option, Some}
use Rattle.std.specs.Prelude.{None, nat_lt, nat_le, ◌&&◌, if◌then◌else◌, length, take, drop, min}
use Rattle.std.specs.Prelude.{◌⊎◌, IsTrue}
use Rattle.nutcore.specs.declared.TheConstants.{HELD_LIMIT}
use Rattle.nutlisting.specs.declared.outbox.TheConstants.{QUEUE_LIMIT}
use Rattle.nutusers.specs.declared.limits.TheConstants.{SESSION_LIMIT}
use Rattle.nutcore.specs.declared.event.Event.{Event}
use Rattle.nutcore.specs.declared.event.Event.TheVariants as events
use Rattle.nutcore.specs.declared.event.Outcome.{Outcome}
use Rattle.nutcore.specs.declared.event.Outcome.TheVariants.{Done, Fed, Opened, Refused}
use Rattle.nutcore.specs.declared.event.Fault.TheVariants as faults
use Rattle.nuttracking.specs.Tracking.{id_fault}
use Rattle.nutcore.specs.Session.{SessionState, new_session, without}
use Rattle.nutcore.specs.Server.{ServerState, session, with_session_changed}
use Rattle.nutcore.specs.Parts.{ups_at, with_ups_changed}
use Rattle.nutcore.specs.Pump.{pumped, after_all_lines, after_lines, is_overlong, wants_memory}
use Rattle.nutcore.specs.Pump.{owed_of}
use Rattle.nutcore.specs.DriverEvents.{connected, disconnected, after_driver_bytes}
use Rattle.nutcore.specs.DriverEvents.{after_driver_took, ticked, handed_in, connected_by}
use Rattle.nutcore.specs.DriverEvents.{driver_bytes_by, driver_took_by, disconnected_by, id_outcome}
use Rattle.nutcore.specs.DriverEvents.{driver_may_lack_memory}

-- Clients: bytes come.

-- The bytes of a piece that join held input: as many as there is room for, and none where the
-- session is ending.
abbrev pub accepted_bytes : Option SessionState → List ℕ → List ℕ
accepted_bytes None piece = []
accepted_bytes (Some x) piece = if x.ending then [] else take (HELD_LIMIT - length x.held) piece

-- The session once they have joined.
abbrev pub joined : List ℕ → SessionState → SessionState
joined piece x = record x { held = x.held ++ accepted_bytes (Some x) piece }

-- The server once the piece has come.
unfoldable pub with_input : ServerState → ℕ → List ℕ → ServerState
with_input s c piece = with_session_changed (joined piece) c s

-- Clients: bytes are taken.

-- What is offered: the first 8,192 bytes of what is owed, or all.
abbrev pub offered : Option SessionState → List ℕ
offered x = take QUEUE_LIMIT (owed_of x)

abbrev pub may_take : Option SessionState → ℕ → Bool
may_take None n = false
may_take (Some x) n = nat_le n (length (offered (Some x)))

-- The session of which n of the bytes that it owes are taken.
abbrev pub taken_from : ℕ → SessionState → SessionState
taken_from n x = record x { owed = drop n x.owed }

-- The server once the client has taken n bytes.
unfoldable pub without_output : ServerState → ℕ → ℕ → ServerState
without_output s c n = with_session_changed (taken_from n) c s

-- Clients come: at most 64 at once, and an id is never used again.
abbrev pub may_open : ServerState → Bool
may_open s = nat_lt (length s.sessions) SESSION_LIMIT && nat_lt s.next_id (2 ^ 64)

unfoldable pub opened : ServerState → List ℕ → Option ℕ → ServerState
opened s address None =
    if may_open s
    then record s {
      sessions = s.sessions ++ new_session s.next_id address ∷ [];
      next_id = s.next_id + 1;
    } else s
opened s address (Some k) = s

-- Out of memory.

-- After how many lines of the event memory was refused, if it was.
abbrev pub refused_after : Outcome → Option ℕ
refused_after (Refused (faults.Memory k)) = Some k
refused_after _ = None

-- The pump, as far as memory lets it.
unfoldable pub pumped_until : ServerState → ℕ → Option ℕ → ServerState
pumped_until s c None = pumped s c
pumped_until s c (Some k) = after_lines k s c

-- What an event leaves, where memory was there or was refused after k lines.
unfoldable pub after_by : ServerState → Event → Option ℕ → ServerState
after_by s (events.DriverUp u) m = with_ups_changed (connected s.moment) u s
after_by s (events.DriverBytes u piece) m = after_driver_bytes u piece m s
after_by s (events.DriverTook u n) m = with_ups_changed (after_driver_took n) u s
after_by s (events.DriverDown u) m = with_ups_changed disconnected u s
after_by s (events.Tick seconds) m = ticked seconds s
after_by s (events.Open address) m = opened s address m
after_by s (events.Feed c piece) m = pumped_until (with_input s c piece) c m
after_by s (events.Took c n) m =
    if may_take (session c s) n then pumped_until (without_output s c n) c m else s
after_by s (events.Close c) m = record s { sessions = without c s.sessions }
after_by s (events.Id id) m = handed_in id s

-- What an event leaves, by its outcome.
abbrev pub after : ServerState → Event → Outcome → ServerState
after s e outcome = after_by s e (refused_after outcome)

-- The outcome where memory is there.

-- How many bytes of a piece are taken in. An ending session takes and drops all.
abbrev pub accepted : SessionState → List ℕ → ℕ
accepted x piece =
    if x.ending then length piece else min (length piece) (HELD_LIMIT - length x.held)

abbrev pub fed_by : Option SessionState → List ℕ → Bool → Outcome
fed_by None piece overlong = Refused faults.NoSuchClient
fed_by (Some x) piece overlong =
    if overlong then Refused faults.LineTooLong else Fed (accepted x piece)

abbrev pub took_by : Option SessionState → ℕ → Bool → Outcome
took_by None n overlong = Refused faults.NoSuchClient
took_by (Some x) n overlong =
    if may_take (Some x) n then (if overlong then Refused faults.LineTooLong else Done)
    else Refused faults.TookTooMuch

abbrev pub closed_by : Option SessionState → Outcome
closed_by None = Refused faults.NoSuchClient
closed_by (Some x) = Done

unfoldable pub outcome_of : ServerState → Event → Outcome
outcome_of s (events.DriverUp u) = connected_by (ups_at u.place s)
outcome_of s (events.DriverBytes u piece) = driver_bytes_by piece (ups_at u.place s)
outcome_of s (events.DriverTook u n) = driver_took_by n (ups_at u.place s)
outcome_of s (events.DriverDown u) = disconnected_by (ups_at u.place s)
outcome_of s (events.Tick seconds) = Done
outcome_of s (events.Open address) =
    if may_open s then Opened s.next_id else Refused faults.TooManyClients
outcome_of s (events.Feed c piece) =
    fed_by (session c s) piece (is_overlong (after_all_lines (with_input s c piece) c) c)
outcome_of s (events.Took c n) =
    took_by (session c s) n (is_overlong (after_all_lines (without_output s c n) c) c)
outcome_of s (events.Close c) = closed_by (session c s)
outcome_of s (events.Id id) = id_outcome (id_fault id s.tracking)

-- Memory may be refused after k lines of the event. The next line of a client stays held, to be
-- tried again.
unfoldable pub MayLackMemory : ServerState → Event → ℕ → Type 0
MayLackMemory s (events.DriverBytes u piece) k = IsTrue (driver_may_lack_memory u piece k s)
MayLackMemory s (events.Open address) k = (k ≡ 0) × IsTrue (may_open s)
MayLackMemory s (events.Feed c piece) k =
    IsTrue (wants_memory (after_lines k (with_input s c piece) c) c)
MayLackMemory s (events.Took c n) k =
    IsTrue (may_take (session c s) n)
    × IsTrue (wants_memory (after_lines k (without_output s c n) c) c)
MayLackMemory s _ k = ⊥

-- Beside the one outcome there is only being out of memory.
abbrev pub MayAnswer : ServerState → Event → Outcome → Type 0
MayAnswer s e outcome =
    (outcome ≡ outcome_of s e) ⊎ ((k : ℕ) × (outcome ≡ Refused (faults.Memory k)) ×
    MayLackMemory s e k)

-- One event: what was answered may be, and the new server is what that leaves.
pub record Step (old : ServerState) (event : Event) (outcome : Outcome) (new : ServerState)
    : Type 0 where
  pub allowed : MayAnswer old event outcome
  pub leaves : new ≡ after old event outcome
