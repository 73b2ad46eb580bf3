-- The events of a script are one run of the server.
use Rattle.std.specs.Prelude.{◌≡◌, ℕ, false, List, [], ◌∷◌, ◌++◌, None, All, map}
use Rattle.std.specs.List.{flat_map}
use Rattle.nutusers.specs.declared.ups_list.UpsId.{UpsId}
use Rattle.nutusers.specs.UpsList.{Ups}
use Rattle.nutusers.specs.Users.{User}
use Rattle.nutusers.specs.Descriptions.{Descriptions}
use Rattle.nutcore.specs.declared.event.Event.{Event}
use Rattle.nutcore.specs.declared.event.Peer.{Peer}
use Rattle.nutcore.specs.declared.event.Peer.TheVariants.{Client, Driver}
use Rattle.nutcore.specs.declared.event.Outcome.{Outcome}
use Rattle.nutcore.specs.Server.{ServerState, new_server}
use Rattle.nutcore.specs.Step.{refused_after}
use Rattle.nutcore.specs.Run.{Run}
use Rattle.nutcore.specs.History.{taken, answers, owed, is_closed}
use Rattle.nutcore.specs.DriverOrders.{all_taken as driver_taken}
use Rattle.nutreplay.specs.declared.script.action.Action.{Action}
use Rattle.nutreplay.specs.declared.script.action.Action.TheVariants as asked
use Rattle.nutreplay.specs.Script.{ScriptLine}
use Rattle.nutreplay.specs.Script.{took, actions_of, max_age_of}
use Rattle.nutreplay.specs.Written.{IsReadAs}
use Rattle.nutreplay.specs.Transcript.{TranscriptState, new_transcript, Happens}
use Rattle.nutreplay.specs.Transcript.{TakesAgain, all_taken, again, IsDone, AreDone, IsOutput}
use Rattle.nutreplay.specs.Transcript.{opened_by, count_offered, sent_to}

pub record Happening : Type 0 where
  pub event : Event
  pub outcome : Outcome

abbrev pub events_of : List Happening → List Event
events_of hs = map (λ h. h.event) hs

abbrev pub outcomes_of : List Happening → List Outcome
outcomes_of hs = map (λ h. h.outcome) hs

-- One event.
abbrev pub once : (line : ℕ) (event : Event) (old new : TranscriptState)
    → Happens line event old new → List Happening
once line event old new h = record { event = event; outcome = h.outcome } ∷ []

-- The takings of a client or a driver, until nothing is offered.
abbrev pub takings : (line : ℕ) (p : Peer) (old new : TranscriptState) → TakesAgain line p old new
    → List Happening
takings line p old new (all_taken t none) = []
takings line p old new (again first mid last some h rest) =
    once line (took p (count_offered p first)) first mid h ++ takings line p mid last rest

-- The events of a line.
abbrev pub of_line : (line : ℕ) (action : Action) (old new : TranscriptState)
    → IsDone line action old new → List Happening
of_line line (asked.Happens event) old new h = once line event old new h
of_line line (asked.TookAll p) old new h =
    once line (took p (count_offered p old)) old h.0 h.1 ++ takings line p h.0 new h.2

-- The events of the lines.
abbrev pub of_lines : (lines : List ScriptLine) (old new : TranscriptState) → AreDone lines old new
    → List Happening
of_lines [] old new h = []
of_lines (line ∷ lines) old new h =
    of_line line.number line.action old h.0 h.1 ++ of_lines lines h.0 new h.2

-- A transcript records the run of these events. The clients listed are those that the run opened,
-- in order. What is listed for a client or a driver is what it took in the run. While it is open,
-- that, followed by what it is still owed, is the answers to its executed lines.
pub record RecordsRun (start : ServerState) (hs : List Happening) (end : TranscriptState)
    : Type 0 where
  pub run : Run start (events_of hs) (outcomes_of hs) end.server
  pub clients : end.clients ≡ flat_map opened_by (outcomes_of hs)
  pub sent : (c : ℕ) → sent_to (Client c) end.taken ≡ taken c start (events_of hs) (outcomes_of hs)
  pub sent_to_driver : (u : UpsId)
      → sent_to (Driver u) end.taken ≡ driver_taken u start (events_of hs) (outcomes_of hs)
  pub answered : (c : ℕ) → is_closed c end.server ≡ false
      → sent_to (Client c) end.taken ++ owed c end.server
      ≡ answers c start (events_of hs) (outcomes_of hs)

-- The output of a script over a new server records the one run of all its events.
abbrev pub AnOutputRecordsOneRun : Type 0
AnOutputRecordsOneRun =
    (list : List Ups) (users : List User) (descriptions : Descriptions) (max_age : ℕ)
    (script output : List ℕ)
    (is_output : IsOutput (new_server list users descriptions max_age) script output)
    → RecordsRun (new_server list users descriptions max_age)
    (of_lines (actions_of list script)
    (new_transcript (new_server list users descriptions max_age)) is_output.end is_output.done)
    is_output.end

-- Memory was refused at none of the events.
abbrev pub HadMemory : List Outcome → Type 0
HadMemory outcomes = All (λ outcome. refused_after outcome ≡ None) outcomes

-- The transcript records a run of these events. Where memory was refused neither in that nor in the
-- run with these outcomes, both are one.
pub record ReplaysRun (start : ServerState) (events : List Event) (outcomes : List Outcome)
    (new : ServerState) (end : TranscriptState) : Type 0 where
  pub hs : List Happening
  pub are : events_of hs ≡ events
  pub records : RecordsRun start hs end
  pub same : HadMemory outcomes → HadMemory (outcomes_of hs)
      → (outcomes_of hs ≡ outcomes) × (end.server ≡ new)

-- The output of what is read as the events of a run, over a new server of the age that it says.
abbrev pub ARecordReplaysToItsRun : Type 0
ARecordReplaysToItsRun =
    (list : List Ups) (users : List User) (descriptions : Descriptions) (max_age : ℕ)
    (script output : List ℕ) (events : List Event) (outcomes : List Outcome) (new : ServerState)
    → IsReadAs list max_age script events
    → Run (new_server list users descriptions max_age) events outcomes new
    → (is_output : IsOutput (new_server list users descriptions (max_age_of script)) script output)
    → ReplaysRun (new_server list users descriptions max_age) events outcomes new is_output.end
