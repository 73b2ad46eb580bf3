-- The places of clients: who is silent, who is let in, and who gives way to a newcomer.
use Rattle.std.specs.Prelude.{◌≡◌, ◌≢◌, ◌+◌, ◌-◌, ◌*◌, ◌^◌, ◌<◌, ◌≤◌, ◌&&◌, ℕ, Bool, true, false, not}
use Rattle.std.specs.Prelude.{List, Option, Some, None, is_none, is_some, length, min, max, fold}
use Rattle.std.specs.Prelude.{⊤, nat_le, nat_lt, count_by, if◌then◌else◌, Result, Ok, Err}
use Rattle.std.specs.Option.{option_map, option_map_or}
use Rattle.std.specs.Str.{bytes_eq}
use Rattle.nutcore.specs.Due.{never}
use Rattle.nutcore.specs.Server.{ServerState}
use Rattle.nutusers.specs.declared.limits.TheConstants.{SESSION_LIMIT}
use Rattle.nutloop.specs.declared.over_mio.clients.Client.{Client}
use Rattle.nutloop.specs.declared.over_mio.clients.Leave.{Leave}
use Rattle.nutloop.specs.declared.over_mio.clients.Leave.TheVariants.{Silent, GaveWay}
use Rattle.nutloop.specs.declared.over_mio.pass.Way.TheVariants.{Read}
use Rattle.nutloop.specs.declared.over_mio.places.Admission.{Admission}
use Rattle.nutloop.specs.declared.over_mio.places.Admission.TheVariants.{Enters, After, SentAway}
use Rattle.nutloop.specs.declared.over_mio.places.TheConstants.{GIVES_WAY_AFTER}
use Rattle.nutloop.specs.declared.sockets.Got.{Got}
use Rattle.nutloop.specs.declared.sockets.Got.TheVariants.{Bytes}
use Rattle.nutloop.specs.declared.over_mio.MioSockets.{MioSockets}
use Rattle.nutloop.specs.declared.over_mio.door.Newcomer.{Newcomer}
use Rattle.nutloop.specs.OverMio.{is_of}
use Rattle.nutloop.specs.Highest.{IsFirstHighest}
use Rattle.nutloop.specs.Pass.{client_in, client_may}

-- For how many seconds a client neither sent nor took a byte.
abbrev pub silence : ℕ → Client → ℕ
silence second x = second - x.active

-- A client is silent for so many seconds if it neither sent nor took a byte in them. One that may
-- be read isn't: what it sent waits for the server. Nor is one that leaves.
unfoldable pub is_silent : ServerState → ℕ → ℕ → Client → Bool
is_silent s least second x =
    nat_le least (silence second x) && not (client_may s Read x) && is_none x.leaving

abbrev pub is_silent_at : ServerState → ℕ → ℕ → List (Option Client) → ℕ → Bool
is_silent_at s least second clients place =
    option_map_or (is_silent s least second) (client_in clients place) false

-- A client was active in the second in which it last sent or took a byte.
abbrev pub active_after_read : {E : Type 0} → ℕ → Result Got E → ℕ → ℕ
active_after_read second (Ok (Bytes n)) active = second
active_after_read second _ active = active

abbrev pub active_after_write : {E : Type 0} → ℕ → Result ℕ E → ℕ → ℕ
active_after_write second (Ok n) active = if nat_lt 0 n then second else active
active_after_write second (Err e) active = active

-- A client goes: its socket has ended, so that its next turn closes it.
pub record Goes (leave : Leave) (old new : Client) : Type 0 where
  pub only : new ≡ record old { socket = new.socket; leaving = Some leave }
  pub ended : new.socket.ended ≡ true
  pub readable : new.socket.readable ≡ true
  pub writable : new.socket.writable ≡ true

-- At a tick a client of a place goes if it was silent for so many seconds, and else stays as it is.
abbrev pub EndsIfSilent : ServerState → ℕ → ℕ → Option Client → Option Client → Type 0
EndsIfSilent s idle second None new = new ≡ None
EndsIfSilent s idle second (Some x) new =
    (is_silent s idle second x ≡ false → new ≡ Some x)
    × (is_silent s idle second x ≡ true → (y : Client) × (new ≡ Some y) × Goes (Silent idle) x y)

pub record EndsSilent (s : ServerState) (idle second : ℕ) (old new : List (Option Client))
    : Type 0 where
  pub places : length new ≡ length old
  pub each : (place : ℕ) → EndsIfSilent s idle second (client_in old place) (client_in new place)

-- The second after this one, as long as there is one.
abbrev pub next_second : ℕ → ℕ
next_second second = min (second + 1) never

-- The second, after this one, at which the first client is silent for so many seconds.
abbrev pub silent_second : ℕ → ℕ → Option Client → ℕ
silent_second idle least slot = option_map_or (λ x. min least (min (x.active + idle) never)) slot least

abbrev pub first_silent : ℕ → ℕ → List (Option Client) → ℕ
first_silent idle second clients =
    max (fold (silent_second idle) never clients) (next_second second)

-- How many places are taken, and how many of them by clients of an address.
abbrev pub taken_places : List (Option Client) → ℕ
taken_places clients = count_by is_some clients

abbrev pub is_from : List ℕ → Option Client → Bool
is_from address slot = option_map_or (λ x. bytes_eq x.address address) slot false

abbrev pub places_of : List ℕ → List (Option Client) → ℕ
places_of address clients = count_by (is_from address) clients

abbrev pub places_at : List (Option Client) → ℕ → ℕ
places_at clients place = option_map_or (λ x. places_of x.address clients) (client_in clients place) 0

-- A client that was silent for long enough gives way the sooner, the more places its address has,
-- and among those of one address the longer it was silent.
abbrev pub rank : ServerState → ℕ → List (Option Client) → Client → ℕ
rank s second clients x =
    if is_silent s GIVES_WAY_AFTER second x
    then places_of x.address clients * 2 ^ 64 + silence second x else 0

abbrev pub rank_at : ServerState → ℕ → List (Option Client) → ℕ → ℕ
rank_at s second clients place = option_map_or (rank s second clients) (client_in clients place) 0

-- A newcomer enters where more places are free than are kept from it. Else one gives way to it. It
-- is sent away only where nobody gives way.
abbrev pub free_places : List (Option Client) → ℕ
free_places clients = SESSION_LIMIT - taken_places clients

abbrev pub Admits : ServerState → ℕ → ℕ → List (Option Client) → Admission → Type 0
Admits s kept second clients Enters = kept < free_places clients
Admits s kept second clients (After place) =
    (free_places clients ≤ kept)
    × IsFirstHighest (rank_at s second clients) (length clients) (Some place)
Admits s kept second clients SentAway =
    (free_places clients ≤ kept)
    × IsFirstHighest (rank_at s second clients) (length clients) None

-- What becomes of a newcomer of these sockets. One to whom a client gives way waits until that one
-- has left. Places are kept from those of other machines.
abbrev pub kept_from : {R F : Type 0} → MioSockets R F → Newcomer → ℕ
kept_from sockets x = if x.is_of_this_machine then 0 else sockets.rules.kept_places

abbrev pub Decides : {R F : Type 0} → ServerState → MioSockets R F → Newcomer → Option Admission
    → Type 0
Decides s sockets x None =
    (c : ℕ) × (x.awaits ≡ Some c) × (place : ℕ) × (is_of c sockets.clients.items place ≡ true)
Decides s sockets x (Some decision) =
    (x.awaits ≡ None
    → Admits s (kept_from sockets x) sockets.second sockets.clients.items decision)
    × ((c : ℕ) → x.awaits ≡ Some c → (decision ≡ Enters)
    × ((place : ℕ) → is_of c sockets.clients.items place ≡ false))

-- The client of a place gives way: the newcomer waits for its end, and nobody else is touched.
abbrev pub gives_way_to : Client → Option Newcomer → Option Newcomer
gives_way_to x newcomer = option_map (λ (n : Newcomer). record n { awaits = Some x.id }) newcomer

abbrev pub GivesWay : ℕ → Option Client → Option Newcomer → Option Client → Option Newcomer → Type 0
GivesWay second None newcomer new waits = (new ≡ None) × (waits ≡ newcomer)
GivesWay second (Some x) newcomer new waits =
    ((y : Client) × (new ≡ Some y) × Goes (GaveWay (silence second x)) x y)
    × (waits ≡ gives_way_to x newcomer)

pub record LetsGo {R F : Type 0} (place : ℕ) (old new : MioSockets R F) : Type 0 where
  pub only : new ≡ record old { entrance = new.entrance; clients = new.clients }
  pub door : new.entrance ≡ record old.entrance { newcomer = new.entrance.newcomer }
  pub gives : GivesWay old.second (client_in old.clients.items place) old.entrance.newcomer
      (client_in new.clients.items place) new.entrance.newcomer
  pub others : (k : ℕ) → k ≢ place
      → client_in new.clients.items k ≡ client_in old.clients.items k

-- The newcomer is sent away.
pub record SendsAway {R F : Type 0} (old new : MioSockets R F) : Type 0 where
  pub only : new ≡ record old {
    entrance = record old.entrance { newcomer = None };
    sent_away = new.sent_away;
  }
  pub noted : new.sent_away ≡ option_map (λ x. x.address) old.entrance.newcomer

-- What is done with a newcomer, by what is decided. It enters by its address.
abbrev pub IsDoneWith : {R F : Type 0} → Option Admission → Newcomer → MioSockets R F
    → Option (List ℕ) → MioSockets R F → Type 0
IsDoneWith None x old result new = (result ≡ None) × (new ≡ old)
IsDoneWith (Some Enters) x old result new = (result ≡ Some x.address) × (new ≡ old)
IsDoneWith (Some (After place)) x old result new = (result ≡ None) × LetsGo place old new
IsDoneWith (Some SentAway) x old result new = (result ≡ None) × SendsAway old new

pub record BecomesOf {R F : Type 0} (s : ServerState) (x : Newcomer) (old : MioSockets R F)
    (result : Option (List ℕ)) (new : MioSockets R F) : Type 0 where
  pub decision : Option Admission
  pub decided : Decides s old x decision
  pub done : IsDoneWith decision x old result new

-- After a tick nobody stays who was silent for so many seconds as a client may be.
abbrev pub NobodyIsSilent : ServerState → Option ℕ → ℕ → List (Option Client) → Type 0
NobodyIsSilent s None second clients = ⊤
NobodyIsSilent s (Some idle) second clients =
    (place : ℕ) → is_silent_at s idle second clients place ≡ false
