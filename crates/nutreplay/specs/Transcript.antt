-- What a replay does to the server, and its transcript.
use Rattle.std.specs.Prelude.{◌≡◌, ◌≢◌, ℕ, ◌+◌, ◌-◌, Bool, false, List, [], ◌∷◌, ◌++◌, Option, Some}
use Rattle.std.specs.Prelude.{None, ◌==◌, nat_lt, if◌then◌else◌, length, slice_get, codes, ◌⊎◌}
use Rattle.std.specs.List.{flat_map}
use Rattle.std.specs.Fmt.{decimal}
use Rattle.nutusers.specs.UpsList.{Ups, id_at}
use Rattle.nutcore.specs.declared.event.Event.{Event}
use Rattle.nutcore.specs.declared.event.Event.TheVariants.{DriverTook, Feed, Took}
use Rattle.nutcore.specs.declared.event.Peer.{Peer}
use Rattle.nutcore.specs.declared.event.Peer.TheVariants.{Client, Driver}
use Rattle.nutcore.specs.declared.event.Outcome.{Outcome}
use Rattle.nutcore.specs.declared.event.Outcome.TheVariants.{Done, Fed, Opened, Refused}
use Rattle.nutcore.specs.declared.event.Fault.{Fault}
use Rattle.nutcore.specs.Limits.{number_of_fault}
use Rattle.nutcore.specs.Server.{ServerState, session}
use Rattle.nutcore.specs.Parts.{ups_at}
use Rattle.nutcore.specs.Ups.{UpsState}
use Rattle.nutcore.specs.Step.{Step, offered}
use Rattle.nutcore.specs.History.{taken_in_event}
use Rattle.nutcore.specs.DriverOrders.{taken_in_event as driver_taken_in_event}
use Rattle.nutcore.specs.Calls.{owed_to}
use Rattle.nutreplay.specs.declared.script.action.Action.{Action}
use Rattle.nutreplay.specs.declared.script.action.Action.TheVariants as asked
use Rattle.nutreplay.specs.Script.{ScriptLine, took, actions_of}
use Rattle.nutreplay.specs.declared.transcript.sent.Taken.{Taken}
use Rattle.nutreplay.specs.declared.replaying.ReplayFault.{ReplayFault}
use Rattle.nutreplay.specs.declared.replaying.ReplayFault.TheVariants.{BadEvent, Memory, Write}

-- A transcript after the events so far. server: what they left. text: the notes of them. clients:
-- the ids, in the order of opening. taken: what clients and drivers took, in order.
pub record TranscriptState : Type 0 where
  pub server : ServerState
  pub text : List ℕ
  pub clients : List ℕ
  pub taken : List Taken

-- Before the first event.
abbrev pub new_transcript : ServerState → TranscriptState
new_transcript s = record { server = s; text = []; clients = []; taken = [] }

-- What is noted of one event.

abbrev pub note_of_refusal : ℕ → Fault → List ℕ
note_of_refusal line fault =
    codes "line " ++ decimal line ++ codes ": refused " ++ decimal (number_of_fault fault)
    ++ 10 ∷ []

abbrev pub held_count : ℕ → ℕ → List ℕ
held_count line n = codes "line " ++ decimal line ++ codes ": " ++ decimal n

abbrev pub held_total : ℕ → List ℕ
held_total all = codes " of " ++ decimal all ++ (codes " bytes held" ++ 10 ∷ [])

abbrev pub note_of_held : ℕ → ℕ → ℕ → List ℕ
note_of_held line n all = held_count line n ++ held_total all

-- Of a feed, only that it took fewer bytes than it had.
abbrev pub note_of_feed : ℕ → Event → ℕ → List ℕ
note_of_feed line (Feed c piece) n =
    if nat_lt n (length piece) then note_of_held line n (length piece) else []
note_of_feed line _ n = []

abbrev pub note_of : ℕ → Event → Outcome → List ℕ
note_of line event (Refused fault) = note_of_refusal line fault
note_of line event (Fed n) = note_of_feed line event n
note_of line event Done = []
note_of line event (Opened c) = []

abbrev pub opened_by : Outcome → List ℕ
opened_by (Opened c) = c ∷ []
opened_by _ = []

-- What one of them took.
abbrev pub taken_of : Peer → List ℕ → List Taken
taken_of peer bytes = record { peer = peer; bytes = bytes } ∷ []

-- What a client or a driver takes by the event, and which it is. It is what the server counts as
-- taken.
abbrev pub taken_by : ServerState → Event → List Taken
taken_by s (Took c n) = taken_of (Client c) (taken_in_event c s (Took c n))
taken_by s (DriverTook u n) = taken_of (Driver u) (driver_taken_in_event u s (DriverTook u n))
taken_by s _ = []

-- One event of a line happens to the server, and is noted.
pub record Happens (line : ℕ) (event : Event) (old new : TranscriptState) : Type 0 where
  pub outcome : Outcome
  pub steps : Step old.server event outcome new.server
  pub text : new.text ≡ old.text ++ note_of line event outcome
  pub clients : new.clients ≡ old.clients ++ opened_by outcome
  pub taken : new.taken ≡ old.taken ++ taken_by old.server event

abbrev pub owed_of : Option UpsState → List ℕ
owed_of None = []
owed_of (Some x) = owed_to x

-- What a client or a driver is offered.
abbrev pub offered_to : Peer → ServerState → List ℕ
offered_to (Client c) s = offered (session c s)
offered_to (Driver u) s = owed_of (ups_at u.place s)

abbrev pub count_offered : Peer → TranscriptState → ℕ
count_offered p t = length (offered_to p t.server)

-- It takes what it is offered, again and again, while something is offered.
pub data TakesAgain (line : ℕ) (p : Peer) : TranscriptState → TranscriptState → Type 0 where
  all_taken : (t : TranscriptState) → count_offered p t ≡ 0 → TakesAgain line p t t
  again : (old mid new : TranscriptState) → count_offered p old ≢ 0
      → Happens line (took p (count_offered p old)) old mid → TakesAgain line p mid new
      → TakesAgain line p old new

-- It takes what it is offered: once, and again while something is offered.
abbrev pub TakesAll : ℕ → Peer → TranscriptState → TranscriptState → Type 0
TakesAll line p old new =
    (mid : TranscriptState) × Happens line (took p (count_offered p old)) old mid
    × TakesAgain line p mid new

-- What a line asks for is done.
abbrev pub IsDone : ℕ → Action → TranscriptState → TranscriptState → Type 0
IsDone line (asked.Happens event) old new = Happens line event old new
IsDone line (asked.TookAll p) old new = TakesAll line p old new

-- The lines are done, one after another.
abbrev pub AreDone : List ScriptLine → TranscriptState → TranscriptState → Type 0
AreDone [] old new = new ≡ old
AreDone (line ∷ lines) old new =
    (mid : TranscriptState) × IsDone line.number line.action old mid × AreDone lines mid new

-- The whole text.

abbrev pub is_same : Peer → Peer → Bool
is_same (Client c) (Client d) = c == d
is_same (Driver u) (Driver v) = u.place == v.place
is_same (Client c) (Driver u) = false
is_same (Driver u) (Client c) = false

-- The bytes that the client or the driver took, in order.
abbrev pub sent_to : Peer → List Taken → List ℕ
sent_to p [] = []
sent_to p (t ∷ ts) = (if is_same t.peer p then t.bytes else []) ++ sent_to p ts

-- An LF, unless there is nothing to end or it ends with one.
abbrev pub ending_of : Option ℕ → List ℕ
ending_of None = []
ending_of (Some b) = if b == 10 then [] else 10 ∷ []

-- What was sent to a peer: how many bytes, and these.
abbrev pub sent_part : List ℕ → List ℕ → List ℕ
sent_part peer sent =
    peer ++ codes " sent " ++ decimal (length sent) ++ (codes " bytes" ++ 10 ∷ []) ++ sent
    ++ ending_of (slice_get sent (length sent - 1))

abbrev pub client_part : List Taken → ℕ → List ℕ
client_part taken c = sent_part (codes "client " ++ decimal c) (sent_to (Client c) taken)

abbrev pub driver_part : List Taken → ℕ → List ℕ → List ℕ
driver_part taken place name =
    sent_part (codes "driver " ++ name) (sent_to (Driver (id_at place)) taken)

-- The drivers of the UPSs from this place on.
abbrev pub drivers_part : List Taken → ℕ → List Ups → List ℕ
drivers_part taken place [] = []
drivers_part taken place (ups ∷ list) =
    driver_part taken place ups.name ++ drivers_part taken (place + 1) list

-- The notes of the events, then each client in the order of opening, then each UPS of the list,
-- which is in byte order.
unfoldable pub whole_text : TranscriptState → List ℕ
whole_text t =
    t.text ++ flat_map (client_part t.taken) t.clients ++ drivers_part t.taken 0 t.server.list

-- The text once the lines are done, one after another.
pub record IsTextAfter (lines : List ScriptLine) (begin : TranscriptState) (whole : List ℕ)
    : Type 0 where
  pub end : TranscriptState
  pub done : AreDone lines begin end
  pub text : whole ≡ whole_text end

-- The output of a script over this server: what the actions of its lines, in order, do to it.
abbrev pub IsOutput : ServerState → List ℕ → List ℕ → Type 0
IsOutput s script = IsTextAfter (actions_of s.list script) (new_transcript s)

-- 1 a bad line of the script, 2 no memory, 3 the output failed.
abbrev pub number_of_replay_fault : ReplayFault → ℕ
number_of_replay_fault (BadEvent line) = 1
number_of_replay_fault Memory = 2
number_of_replay_fault Write = 3

-- Memory was refused, or this is the first bad line.
abbrev pub FailsAt : Option ℕ → ReplayFault → Type 0
FailsAt bad fault = (fault ≡ Memory) ⊎ ((n : ℕ) × (fault ≡ BadEvent n) × (bad ≡ Some n))
