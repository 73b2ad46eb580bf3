-- One pass over all peers, and what holds between two looks at the system.
use Rattle.std.specs.Prelude.{◌≡◌, ◌⊎◌, ◌+◌, ◌^◌, ◌-◌, ◌<◌, ◌≤◌, ◌==◌, ◌&&◌, ◌||◌, ℕ, Bool, true}
use Rattle.std.specs.Prelude.{false, not}
use Rattle.std.specs.Prelude.{List, Option, Some, None, if◌then◌else◌, length, min, nat_lt}
use Rattle.std.specs.Prelude.{slice_get}
use Rattle.std.specs.Option.{option_and_then, option_map_or}
use Rattle.nutusers.specs.UpsList.{id_at}
use Rattle.nutusers.specs.declared.ups_list.UpsId.{UpsId}
use Rattle.nutcore.specs.Calls.{standing_of}
use Rattle.nutcore.specs.Server.{ServerState, session}
use Rattle.nutcore.specs.declared.server.status.Standing.{Standing}
use Rattle.nutcore.specs.DriverHistory.{has_driver}
use Rattle.nutcore.specs.DriverOrders.{owed_to_driver}
use Rattle.nutloop.specs.declared.over_mio.clients.Client.{Client}
use Rattle.nutloop.specs.declared.over_mio.drivers.Driver.{Driver}
use Rattle.nutloop.specs.declared.over_mio.socket.Socket.{Socket}
use Rattle.nutloop.specs.declared.over_mio.pass.Pass.{Pass}
use Rattle.nutloop.specs.declared.over_mio.pass.Stop.{Stop}
use Rattle.nutloop.specs.declared.over_mio.pass.Stop.TheVariants as stop
use Rattle.nutloop.specs.declared.over_mio.pass.Way.{Way}
use Rattle.nutloop.specs.declared.over_mio.pass.Way.TheVariants.{Read, Write}
use Rattle.nutloop.specs.declared.over_mio.pass.TheConstants.{CLIENT_READS, CLIENT_WRITES}
use Rattle.nutloop.specs.declared.over_mio.pass.TheConstants.{DRIVER_READS, DRIVER_WRITES, STOPS}
use Rattle.nutloop.specs.declared.over_mio.pass.TheConstants.{TURNS_PER_LOOK}

-- A client that is owed something is read where its session has room, unless its socket has ended.
-- One that is finished is written to, which closes it.
abbrev pub goes : {T : Type 0} → Way → Socket T → Standing → Bool
goes Read socket standing =
    socket.readable
    && (if nat_lt 0 standing.offered
    then nat_lt 0 standing.room && not socket.ended
    else not standing.is_finished)
goes Write socket standing =
    if nat_lt 0 standing.offered then socket.writable else standing.is_finished

-- A client may be read or written to by its socket and by what the server has of its session.
unfoldable pub client_may : ServerState → Way → Client → Bool
client_may s way x =
    option_map_or (λ session. goes way x.socket (standing_of session)) (session x.id s) false

-- The client at a place.
abbrev pub client_in : List (Option Client) → ℕ → Option Client
client_in clients place = option_and_then (λ slot. slot) (slice_get clients place)

abbrev pub client_at : ServerState → Way → List (Option Client) → ℕ → Bool
client_at s way clients place =
    option_map_or (client_may s way) (client_in clients place) false

-- A driver that is connected has a turn to report that, and from then on where there may be
-- something to read, or it may take what it is owed.
abbrev pub driver_may : ServerState → UpsId → Way → Driver → Bool
driver_may s u Read x =
    option_map_or (λ socket. socket.readable || not (has_driver u s)) x.socket false
driver_may s u Write x =
    option_map_or (λ socket. socket.writable && not (length (owed_to_driver u s) == 0))
    x.socket false

abbrev pub driver_at : ServerState → Way → List Driver → ℕ → Bool
driver_at s way drivers place =
    option_map_or (driver_may s (id_at place) way) (slice_get drivers place) false

-- What may be done at a stop.
abbrev pub may : ServerState → Bool → List Driver → List (Option Client) → Stop → Bool
may s is_knocked_at drivers clients stop.Listener = is_knocked_at
may s is_knocked_at drivers clients (stop.Driver place way) = driver_at s way drivers place
may s is_knocked_at drivers clients (stop.Client place way) = client_at s way clients place

-- The first place from this one on at which something may be done, if there is one.
abbrev pub FirstFrom : (ℕ → Bool) → ℕ → Option ℕ → Type 0
FirstFrom may from (Some place) =
    (from ≤ place) × (may place ≡ true)
    × ((k : ℕ) → from ≤ k → k < place → may k ≡ false)
FirstFrom may from None = (k : ℕ) → from ≤ k → may k ≡ false

-- The first pass after a look, and the next one without a look.
abbrev pub fresh : Pass
fresh = record { next = 0; had_turn = false; was_driver_read = false; turns = 0 }

abbrev pub again : Pass → Pass
again pass = record pass { next = 0; had_turn = false }

-- The numbers of the stops, in the order of their visits: the listener, the reads of drivers, the
-- writes to them, the reads of clients, the writes to them.
abbrev pub number : Stop → ℕ
number stop.Listener = 0
number (stop.Driver place Read) = DRIVER_READS + place
number (stop.Driver place Write) = DRIVER_WRITES + place
number (stop.Client place Read) = CLIENT_READS + place
number (stop.Client place Write) = CLIENT_WRITES + place

-- The stop was visited in this pass.
abbrev pub WasVisited : Pass → Stop → Type 0
WasVisited pass s = number s < pass.next

-- A driver is read there.
abbrev pub reads_driver : Stop → Bool
reads_driver (stop.Driver place Read) = true
reads_driver _ = false

-- A visit has one turn, at a stop that wasn't visited before and at which something may be done. Or
-- the pass is over. Of the others nothing could be done at any that is visited from now on.
pub record HasTurn (may : Stop → Bool) (old : Pass) (visited : Stop) (new : Pass) : Type 0 where
  pub ready : may visited ≡ true
  pub others : (s : Stop) → WasVisited new s → WasVisited old s ⊎ ((s ≡ visited) ⊎ (may s ≡ false))
  pub later : old.next ≤ number visited
  pub next : new.next ≡ number visited + 1
  pub within : new.next ≤ STOPS
  pub had : new.had_turn ≡ true
  pub was_driver_read : new.was_driver_read ≡ (old.was_driver_read || reads_driver visited)
  pub turns : new.turns ≡ min (old.turns + 1) (2 ^ 32 - 1)

pub record IsOver (may : Stop → Bool) (old new : Pass) : Type 0 where
  pub nobody : (s : Stop) → may s ≡ true → WasVisited old s
  pub same : new ≡ old

abbrev pub Visits : (Stop → Bool) → Pass → Option Stop → Pass → Type 0
Visits may old (Some visited) new = HasTurn may old visited new
Visits may old None new = IsOver may old new

-- The next pass begins without a look where there was a turn, no driver was read, and there were
-- fewer turns than these.
abbrev pub goes_on : Pass → Bool
goes_on pass = pass.had_turn && not pass.was_driver_read && nat_lt pass.turns TURNS_PER_LOOK

-- A turn without a look: one of this pass, or of the next one where the loop goes on without a
-- look.
abbrev pub HasNext : (Stop → Bool) → Pass → Stop → Pass → Type 0
HasNext may old visited new =
    HasTurn may old visited new
    ⊎ ((mid : Pass) × IsOver may old mid × (goes_on mid ≡ true)
    × HasTurn may (again mid) visited new)
