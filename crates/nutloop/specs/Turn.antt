-- What one turn does: one row of a table, by what is ready and by what the sockets answer.
use Rattle.std.specs.Prelude.{◌≡◌, ◌≤◌, ℕ, Bool, true, false, List, [], ◌∷◌, ◌++◌, ⊤, Option, Some}
use Rattle.std.specs.Prelude.{Result, Ok, Err, ◌==◌, if◌then◌else◌, is_some, length, IfSome}
use Rattle.std.specs.Prelude.{IsTrue}
use Rattle.std.specs.Option.{option_map_or}
use Rattle.nutwords.specs.Reading.{is_address}
use Rattle.nutusers.specs.declared.ups_list.UpsId.{UpsId}
use Rattle.nutcore.specs.declared.event.Event.{Event}
use Rattle.nutcore.specs.declared.event.Event.TheVariants as event
use Rattle.nutcore.specs.declared.event.Outcome.{Outcome}
use Rattle.nutcore.specs.declared.event.Outcome.TheVariants as outcome
use Rattle.nutcore.specs.declared.event.Fault.TheVariants.{LineTooLong, Memory}
use Rattle.nutcore.specs.declared.event.Peer.{Peer}
use Rattle.nutcore.specs.declared.event.Peer.TheVariants.{Client, Driver}
use Rattle.nutcore.specs.Server.{ServerState, session}
use Rattle.nutcore.specs.Step.{Step, offered}
use Rattle.nutcore.specs.Run.{Run}
use Rattle.nutcore.specs.Cost.{RunningServer, forgetful}
use Rattle.nutcore.specs.Notes.{notes_of}
use Rattle.nutcore.specs.Recording.{Recorded, Continues}
use Rattle.nutcore.specs.Calls.{room_of, is_finished}
use Rattle.nutcore.specs.DriverHistory.{has_driver}
use Rattle.nutcore.specs.DriverOrders.{owed_to_driver}
use Rattle.nutloop.specs.declared.sockets.Ready.{Ready}
use Rattle.nutloop.specs.declared.sockets.Ready.TheVariants as readies
use Rattle.nutloop.specs.declared.sockets.Call.{Call}
use Rattle.nutloop.specs.declared.sockets.Call.TheVariants as calls
use Rattle.nutloop.specs.declared.fault.LoopFault.{LoopFault}
use Rattle.nutloop.specs.declared.fault.LoopFault.TheVariants as fault
use Rattle.nutloop.specs.declared.turns.Loop.{Loop}
use Rattle.nutcore.specs.declared.TheConstants.{DRIVER_READ_LIMIT}
use Rattle.nutio.specs.Ends.{counted}
use Rattle.nutloop.specs.Sockets.{Told, Answers, FailsToLook, IsFound, Reports}

-- The one call that a row makes of the sockets and that may fail, if it makes one: reads has how
-- many bytes are asked for, writes which ones are offered.
pub data Ask : Type 0 where
  nobody : Ask
  accepts : Ask
  reads : (peer : Peer) → (most : ℕ) → Ask
  writes : (peer : Peer) → (bytes : List ℕ) → Ask

-- What is answered to it.
pub data Answer : Type 0 where
  unasked : Answer
  newcomer : (address : Option (List ℕ)) → Answer
  gave : (bytes : List ℕ) → Answer
  later : Answer
  ended : Answer
  took : (count : ℕ) → Answer
  failed : Answer

-- A client takes in no bytes where it isn't open.
abbrev pub room_at : ℕ → ServerState → ℕ
room_at c s = option_map_or room_of (session c s) 0

abbrev pub is_finished_at : ℕ → ServerState → Bool
is_finished_at c s = option_map_or is_finished (session c s) false

-- A read is of some bytes, and a write is of all that is offered, if that is anything.
abbrev pub read_of : Peer → ℕ → Ask
read_of p most = if most == 0 then nobody else reads p most

abbrev pub write_of : Peer → List ℕ → Ask
write_of p [] = nobody
write_of p (x ∷ xs) = writes p (x ∷ xs)

-- Which call a row makes: the rows, by what is ready.
abbrev pub ask : ServerState → Ready → Ask
ask s readies.Nothing = nobody
ask s (readies.Tick seconds) = nobody
ask s readies.Newcomer = accepts
ask s (readies.Id id) = nobody
ask s (readies.DriverUp u) = nobody
ask s (readies.Read (Client c)) = read_of (Client c) (room_at c s)
ask s (readies.Read (Driver u)) =
    if has_driver u s then reads (Driver u) DRIVER_READ_LIMIT else nobody
ask s (readies.Write (Client c)) = write_of (Client c) (offered (session c s))
ask s (readies.Write (Driver u)) = write_of (Driver u) (owed_to_driver u s)

-- Which answers that call has; a newcomer's address is lawful. An `accept` that fails is no row:
-- the
-- turn fails.
abbrev pub MayAnswer : Ask → Answer → Type 0
MayAnswer nobody unasked = ⊤
MayAnswer accepts (newcomer address) = IfSome address (λ bytes. IsTrue (is_address bytes))
MayAnswer (reads p most) (gave bytes) = length bytes ≤ most
MayAnswer (reads p most) later = ⊤
MayAnswer (reads p most) ended = ⊤
MayAnswer (reads p most) failed = ⊤
MayAnswer (writes p bytes) (took n) = n ≤ length bytes
MayAnswer (writes p bytes) failed = ⊤
MayAnswer _ _ = ⊥

-- What is reported of it: a read asks for so many bytes and no fewer, and a write offers all of
-- them.
abbrev pub answered : Ask → Answer → List Call
answered accepts (newcomer address) = calls.Accepted address ∷ []
answered (reads p most) (gave bytes) = calls.Gave p most bytes ∷ []
answered (reads p most) later = calls.Waits p most ∷ []
answered (reads p most) ended = calls.Ended p most ∷ []
answered (writes p bytes) (took n) = calls.Wrote p bytes n ∷ []
answered _ _ = []

-- The events of a row, by the answer. Where nothing is asked of a client that is open, it has no
-- room, and the lines that it holds are tried again.
abbrev pub read_of_client : ServerState → ℕ → Answer → List Event
read_of_client s c unasked = if is_some (session c s) then event.Feed c [] ∷ [] else []
read_of_client s c (gave bytes) = event.Feed c bytes ∷ []
read_of_client s c ended = event.Close c ∷ []
read_of_client s c failed = event.Close c ∷ []
read_of_client s c _ = []

abbrev pub read_of_driver : UpsId → Answer → List Event
read_of_driver u (gave bytes) = event.DriverBytes u bytes ∷ []
read_of_driver u ended = event.DriverDown u ∷ []
read_of_driver u failed = event.DriverDown u ∷ []
read_of_driver u _ = []

-- A client that is finished is offered nothing, and closed.
abbrev pub end_of : ℕ → ServerState → List Event
end_of c s = if is_finished_at c s then event.Close c ∷ [] else []

abbrev pub write_to_client : ServerState → ℕ → Answer → List Event
write_to_client s c unasked = end_of c s
write_to_client s c (took n) = event.Took c n ∷ []
write_to_client s c failed = event.Close c ∷ []
write_to_client s c _ = []

abbrev pub write_to_driver : UpsId → Answer → List Event
write_to_driver u (took n) = event.DriverTook u n ∷ []
write_to_driver u failed = event.DriverDown u ∷ []
write_to_driver u _ = []

abbrev pub opening : Answer → List Event
opening (newcomer (Some address)) = event.Open address ∷ []
opening _ = []

-- The events of each row, one at most.
abbrev pub row_events : ServerState → Ready → Answer → List Event
row_events s readies.Nothing answer = []
row_events s (readies.Tick seconds) answer = event.Tick seconds ∷ []
row_events s readies.Newcomer answer = opening answer
row_events s (readies.Id id) answer = event.Id id ∷ []
row_events s (readies.DriverUp u) answer = event.DriverUp u ∷ []
row_events s (readies.Read (Client c)) answer = read_of_client s c answer
row_events s (readies.Read (Driver u)) answer = read_of_driver u answer
row_events s (readies.Write (Client c)) answer = write_to_client s c answer
row_events s (readies.Write (Driver u)) answer = write_to_driver u answer

-- A driver is lost by a line that is too long, and where memory is refused.
abbrev pub loses_driver : Outcome → Bool
loses_driver (outcome.Refused LineTooLong) = true
loses_driver (outcome.Refused (Memory k)) = true
loses_driver _ = false

-- The loss of a peer.
abbrev pub loss_of : Peer → Event
loss_of (Client c) = event.Close c
loss_of (Driver u) = event.DriverDown u

-- The calls after an event, which can't fail: a newcomer is named, or refused where no session is
-- opened; who is gone is shut, and so is a driver that is lost by what it sent.
abbrev pub calls_behind : Event → Outcome → List Call
calls_behind (event.Open address) (outcome.Opened c) = calls.Named c ∷ []
calls_behind (event.Open address) _ = calls.Refused ∷ []
calls_behind (event.Close c) _ = calls.Shut (Client c) ∷ []
calls_behind (event.DriverDown u) _ = calls.Shut (Driver u) ∷ []
calls_behind (event.DriverBytes u piece) o =
    if loses_driver o then calls.Shut (Driver u) ∷ [] else []
calls_behind _ _ = []

-- The calls after each of the events.
abbrev pub calls_behind_all : List Event → List Outcome → List Call
calls_behind_all [] os = []
calls_behind_all (e ∷ es) [] = []
calls_behind_all (e ∷ es) (o ∷ os) = calls_behind e o ++ calls_behind_all es os

-- What is noted then: what the one event notes, and without an event what was noted before.
abbrev pub AreNoted : RunningServer → List Event → List Outcome → RunningServer → Type 0
AreNoted old [] [] new = new.notes ≡ old.notes
AreNoted old (e ∷ []) (o ∷ []) new = new.notes ≡ notes_of old.state e o
AreNoted old events outcomes new = ⊥

abbrev pub failures_by : Answer → ℕ → ℕ
failures_by failed n = counted n
failures_by _ n = n

-- An event is recorded and happens to the server, and its sockets are as they were.
pub record Happens {S R : Type 0} (holds : R → Recorded) (e : Event) (old : Loop S R)
    (outcome : Outcome) (new : Loop S R) : Type 0 where
  pub step : Step old.server.state e outcome new.server.state
  pub noted : new.server.notes ≡ notes_of old.server.state e outcome
  pub recorded : Continues (holds old.recorder) (e ∷ []) (holds new.recorder)
  pub sockets : new.sockets ≡ old.sockets

module _ {S R : Type 0} (told : S → Told) (holds : R → Recorded) where
  -- These events were recorded and done, with the calls after them, and no call failed.
  pub record Does (events : List Event) (old new : Loop S R) : Type 0 where
    pub outcomes : List Outcome
    pub run : Run old.server.state events outcomes new.server.state
    pub noted : AreNoted old.server events outcomes new.server
    pub recorded : Continues (holds old.recorder) events (holds new.recorder)
    pub reported : Answers (told old.sockets) (calls_behind_all events outcomes) (told new.sockets)

  -- A row is done: its call is answered, then its events are done, with the calls after them.
  pub record IsRow (ready : Ready) (old new : Loop S R) : Type 0 where
    pub answer : Answer
    pub may : MayAnswer (ask old.server.state ready) answer
    pub mid : S
    pub called : Reports (failures_by answer) (told old.sockets)
        (answered (ask old.server.state ready) answer) (told mid)
    pub does : Does (row_events old.server.state ready answer) (record old { sockets = mid }) new

  -- What earlier turns noted is forgotten, and as much waits to be taken apart as of that server.
  abbrev pub forgotten : Loop S R → RunningServer → Loop S R
  forgotten old server = record old { server = forgetful old.server.state server.waste }

  -- A turn that ends well: what is ready is found, by these sockets then, and its row is done.
  pub record IsTurn (soon : Bool) (old new : Loop S R) : Type 0 where
    pub ready : Ready
    pub mid : S
    pub found : IsFound soon old.server.state ready (told old.sockets) (told mid)
    pub server : RunningServer
    pub row : IsRow ready (record (forgotten old server) { sockets = mid }) new

  -- The server is as it was, and so is what is recorded of it.
  pub record IsLeft (old new : Loop S R) : Type 0 where
    pub server : new.server ≡ old.server
    pub recorded : Continues (holds old.recorder) [] (holds new.recorder)

  -- What is ready is found, or the look fails.
  abbrev pub ReadyGives : Bool → Loop S R → Result Ready LoopFault → Loop S R → Type 0
  ReadyGives soon old (Ok ready) new =
      IsLeft old new
      × IsFound soon old.server.state ready (told old.sockets) (told new.sockets)
  ReadyGives soon old (Err fault.Ready) new =
      IsLeft old new × FailsToLook (told old.sockets) (told new.sockets)
  ReadyGives soon old (Err fault.Accept) new = ⊥

  -- A newcomer's row, or `accept` fails.
  abbrev pub NewcomerGives : Loop S R → Result (Unit {0}) LoopFault → Loop S R → Type 0
  NewcomerGives old (Ok u) new = IsRow readies.Newcomer old new
  NewcomerGives old (Err fault.Ready) new = ⊥
  NewcomerGives old (Err fault.Accept) new =
      IsLeft old new × Reports counted (told old.sockets) [] (told new.sockets)

  -- A turn: it ends well; or the look fails, or `accept` of a newcomer that was found.
  abbrev pub TurnGives : Bool → Loop S R → Result (Unit {0}) LoopFault → Loop S R → Type 0
  TurnGives soon old (Ok u) new = IsTurn soon old new
  TurnGives soon old (Err fault.Ready) new =
      IsLeft (forgotten old new.server) new × FailsToLook (told old.sockets) (told new.sockets)
  TurnGives soon old (Err fault.Accept) new =
      IsLeft (forgotten old new.server) new
      × ((mid : S)
      × IsFound soon old.server.state readies.Newcomer (told old.sockets) (told mid)
      × Reports counted (told mid) [] (told new.sockets))
