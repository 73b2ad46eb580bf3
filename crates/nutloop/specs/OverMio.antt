-- What the sockets over mio have ready, what they move, and what they report.
use Rattle.std.specs.Prelude.{◌≡◌, ◌≢◌, ◌⊎◌, ◌==◌, ◌||◌, ℕ, ℤ, Bool, true, false, List, [], ◌∷◌, length}
use Rattle.std.specs.Prelude.{take}
use Rattle.std.specs.Prelude.{Option, Some, None, Result, Ok, MatchOption, if◌then◌else◌, slice_get}
use Rattle.std.specs.Io.KnownBytes.{Consumes, Keeps}
use Rattle.mio.specs.Event.{event_token, is_error, is_read_closed, is_readable, is_writable, is_write_closed}
use Rattle.mio.specs.declared.event.event.Event.{Event}
use Rattle.std.specs.Option.{option_and_then, option_map, option_map_or}
use Rattle.nutusers.specs.UpsList.{id_at}
use Rattle.nutusers.specs.declared.ups_list.UpsId.{UpsId}
use Rattle.nutcore.specs.declared.event.Peer.{Peer}
use Rattle.nutcore.specs.declared.event.Peer.TheVariants as peer
use Rattle.nutcore.specs.Server.{ServerState}
use Rattle.nutcore.specs.DriverHistory.{has_driver}
use Rattle.nutloop.specs.declared.sockets.Ready.{Ready}
use Rattle.nutloop.specs.declared.sockets.Ready.TheVariants as ready
use Rattle.nutloop.specs.declared.sockets.Got.{Got}
use Rattle.nutloop.specs.declared.sockets.Got.TheVariants.{Bytes, Later}
use Rattle.nutloop.specs.declared.over_mio.MioSockets.{MioSockets}
use Rattle.nutloop.specs.declared.over_mio.Rules.{Rules}
use Rattle.nutloop.specs.declared.over_mio.clients.Client.{Client}
use Rattle.nutloop.specs.declared.over_mio.socket.Socket.{Socket}
use Rattle.nutloop.specs.declared.over_mio.drivers.Driver.{Driver}
use Rattle.nutloop.specs.declared.over_mio.tokens.Source.{Source}
use Rattle.nutloop.specs.declared.over_mio.tokens.Source.TheVariants as source
use Rattle.nutloop.specs.Tokens.{source_of}
use Rattle.nutloop.specs.declared.over_mio.pass.Pass.{Pass}
use Rattle.nutloop.specs.declared.over_mio.pass.Stop.{Stop}
use Rattle.nutloop.specs.declared.over_mio.pass.Stop.TheVariants as stop
use Rattle.nutloop.specs.declared.over_mio.pass.Way.{Way}
use Rattle.nutloop.specs.declared.over_mio.pass.Way.TheVariants.{Read, Write}
use Rattle.nutloop.specs.Doors.{is_knocked_at}
use Rattle.nutloop.specs.Pass.{HasTurn, IsOver, client_in, fresh, may}
use Rattle.nutloop.specs.Sockets.{Passing, Told}

-- What may be done at a stop of these sockets.
abbrev pub may_at : {R F : Type 0} → ServerState → MioSockets R F → Stop → Bool
may_at s sockets = may s (is_knocked_at sockets.entrance) sockets.drivers.items sockets.clients.items

-- The turn of a stop. A driver that the server doesn't know to be connected is
-- reported first.
abbrev pub turn_of : Peer → Way → Ready
turn_of p Read = ready.Read p
turn_of p Write = ready.Write p

abbrev pub turn_at : {R F : Type 0} → ServerState → MioSockets R F → Stop → Ready
turn_at s sockets stop.Listener = ready.Newcomer
turn_at s sockets (stop.Driver place way) =
    let u = id_at place in
    if has_driver u s then turn_of (peer.Driver u) way else ready.DriverUp u
turn_at s sockets (stop.Client place way) =
    option_map_or (λ client. turn_of (peer.Client client.id) way)
    (client_in sockets.clients.items place) ready.Nothing

-- A visit of the pass: the turn of a stop, or the pass is over.
abbrev pub GivesTurn : {R F : Type 0} → ServerState → MioSockets R F → Pass → Option Ready → Pass
    → Type 0
GivesTurn s sockets old answer new =
    MatchOption answer (IsOver (may_at s sockets) old new)
    (λ turn. (visited : Stop) × (turn ≡ turn_at s sockets visited)
    × HasTurn (may_at s sockets) old visited new)

-- How far these sockets have come, and what they report. The bytes that the system moves are not
-- known.
abbrev pub passing_of : {R F : Type 0} → MioSockets R F → Passing
passing_of sockets =
    record {
      so_far = record {
        pass = sockets.pass;
        second = sockets.second;
        ids = option_map_or (λ ids. ids.due) sockets.ids 0;
      };
      may = λ s. may_at s sockets;
      ready_at = λ s. turn_at s sockets;
    }

abbrev pub told_of : {R F : Type 0} → MioSockets R F → Told
told_of sockets =
    record { calls = None; failures = sockets.failures; passing = Some (passing_of sockets) }

-- The address of the newcomer that has no session yet, and the number of the error by which a
-- driver couldn't be connected to.
abbrev pub newcomer_of : {R F : Type 0} → MioSockets R F → Option (List ℕ)
newcomer_of sockets = option_map (λ x. x.address) sockets.entrance.newcomer

abbrev pub error_of : {R F : Type 0} → MioSockets R F → UpsId → Option ℤ
error_of sockets u =
    option_and_then (λ driver. driver.error) (slice_get sockets.drivers.items u.place)

-- A read consumes the bytes that it gives, and no others: they are the front of the buffer.
abbrev pub Gives : {E : Type 0} → Option (List ℕ) → Option (List ℕ) → Result Got E → List ℕ → Type 0
Gives old new (Ok (Bytes n)) into = Consumes old new (take n into)
Gives old new _ into = Keeps old new

-- How many bytes a read gave of a client.
abbrev pub read_of_client : {E : Type 0} → Peer → Result Got E → ℕ
read_of_client (peer.Client c) (Ok (Bytes n)) = n
read_of_client p answer = 0

-- What is known of a socket after a read. There may be more where the bytes filled the buffer, or
-- the peer has ended, which no event reports again. After `Later` an event reports more, unless the
-- peer has ended.
abbrev pub IsKnownAfter : {S E : Type 0} → Result Got E → List ℕ → Socket S → Socket S → Type 0
IsKnownAfter (Ok (Bytes n)) into old new =
    (new.ended ≡ old.ended) × (new.readable ≡ (n == length into || new.ended))
IsKnownAfter (Ok Later) into old new = (new.readable ≡ false) ⊎ (new.ended ≡ true)
IsKnownAfter _ into old new = new.ended ≡ true

-- An event is of this client's or driver's place.
abbrev pub is_same : Source → Source → Bool
is_same (source.Client place) (source.Client k) = place == k
is_same (source.Driver place) (source.Driver k) = place == k
is_same _ _ = false

abbrev pub is_of_source : Source → Event → Bool
is_of_source own e = is_same own (source_of (event_token e).0)

-- What is known of a socket after an event. One that has ended is read up to its end.
abbrev pub heard : {S : Type 0} → Event → Socket S → Socket S
heard e x =
    let ended = x.ended || (is_read_closed e || is_error e) in
    record x {
      readable = x.readable || (is_readable e || ended);
      writable = x.writable || (is_writable e || is_write_closed e);
      ended = ended;
    }

-- The place is this client's.
abbrev pub is_of : ℕ → List (Option Client) → ℕ → Bool
is_of c clients place = option_map_or (λ x. x.id == c) (client_in clients place) false

-- The client at a place, if it is another one than this.
abbrev pub other_in : ℕ → List (Option Client) → ℕ → Option Client
other_in c clients place =
    option_and_then (λ x. if x.id == c then None else Some x) (client_in clients place)

-- The client of each place is the one that was there, by its session and its address.
abbrev pub who : Option Client → Option (ℕ × List ℕ)
who slot = option_map (λ (x : Client). (x.id, x.address)) slot

abbrev pub StayInTheirPlaces : List (Option Client) → List (Option Client) → Type 0
StayInTheirPlaces old new = (place : ℕ) → who (client_in new place) ≡ who (client_in old place)

-- All other clients stay at their places, as they were.
abbrev pub OthersStay : ℕ → List (Option Client) → List (Option Client) → Type 0
OthersStay c old new = (place : ℕ) → other_in c new place ≡ other_in c old place

abbrev pub client_heard : Event → Client → Client
client_heard e x = record x { socket = heard e x.socket }

abbrev pub driver_heard : Event → Driver → Driver
driver_heard e x = record x { socket = option_map (heard e) x.socket }

-- Whoever has a socket has heard each of the events that are its own, in order, and no other one.
abbrev pub heard_all : {X : Type 0} → (Event → X → X) → Source → List Event → X → X
heard_all hear own [] x = x
heard_all hear own (e ∷ events) x =
    heard_all hear own events (if is_of_source own e then hear e x else x)

-- So has each client and each driver, and nothing else of them changes.
abbrev pub ClientsHear : List Event → List (Option Client) → List (Option Client) → Type 0
ClientsHear events old new =
    (place : ℕ) → client_in new place
    ≡ option_map (heard_all client_heard (source.Client place) events) (client_in old place)

abbrev pub DriversHear : List Event → List Driver → List Driver → Type 0
DriversHear events old new =
    (place : ℕ) → slice_get new place
    ≡ option_map (heard_all driver_heard (source.Driver place) events) (slice_get old place)

pub record Hears {R F : Type 0} (events : List Event) (old new : MioSockets R F) : Type 0 where
  pub only : new ≡ record old {
    entrance = record old.entrance { doors = new.entrance.doors };
    drivers = new.drivers;
    clients = new.clients;
    closing = new.closing;
  }
  pub clients : ClientsHear events old.clients.items new.clients.items
  pub drivers : DriversHear events old.drivers.items new.drivers.items

-- New sockets have these rules. They have no client yet, and nothing is counted.
pub record AreNew {R F : Type 0} (rules : Rules) (sockets : MioSockets R F) : Type 0 where
  pub settled : sockets.rules ≡ rules
  pub clients : sockets.clients.items ≡ []
  pub closing : sockets.closing.items ≡ []
  pub pass : sockets.pass ≡ fresh
  pub second : sockets.second ≡ 0
  pub failures : sockets.failures ≡ 0
  pub cut_off : sockets.cut_off ≡ 0

-- No socket of another peer is touched: of another client, or of the driver of another place.
abbrev pub TouchesOnly : {R F : Type 0} → Peer → MioSockets R F → MioSockets R F → Type 0
TouchesOnly (peer.Client c) old new =
    OthersStay c old.clients.items new.clients.items × (new.drivers ≡ old.drivers)
TouchesOnly (peer.Driver u) old new =
    (new.clients ≡ old.clients)
    × ((place : ℕ) → place ≢ u.place
    → slice_get new.drivers.items place ≡ slice_get old.drivers.items place)
