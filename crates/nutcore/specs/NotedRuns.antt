-- What the notes of all events of a run say.
use Rattle.std.specs.Prelude.{◌≡◌, ◌≢◌, ℕ, List, [], ◌∷◌, ◌++◌, Option, Some, None, ◌==◌}
use Rattle.std.specs.Prelude.{if◌then◌else◌, All}
use Rattle.std.specs.List.{filter_map, cons_option}
use Rattle.std.specs.Option.{option_map_or, option_and_then}
use Rattle.nutusers.specs.declared.ups_list.UpsId.{UpsId}
use Rattle.nutcore.specs.declared.event.Event.{Event}
use Rattle.nutcore.specs.declared.event.Outcome.{Outcome}
use Rattle.nutcore.specs.declared.note.DataState.{DataState}
use Rattle.nutcore.specs.declared.note.DataState.TheVariants.{Lost}
use Rattle.nutcore.specs.declared.note.Note.{Note}
use Rattle.nutcore.specs.declared.note.Note.TheVariants as notes
use Rattle.nutcore.specs.Server.{ServerState, session}
use Rattle.nutcore.specs.Parts.{ups_at}
use Rattle.nutcore.specs.Step.{after}
use Rattle.nutcore.specs.Run.{Run}
use Rattle.nutcore.specs.History.{executions}
use Rattle.nutcore.specs.Notes.{data_state_of, status_of, fault_of, notes_of, notes_of_lines}
use Rattle.nutcore.specs.Notes.{IsReadAtOnce}
use Rattle.nutcore.specs.Ups.{is_refused}
use Rattle.nutcore.specs.DriverHistory.{Heard, heard_in_event}
use Rattle.nutcore.specs.DriverRuns.{report_of}
use Rattle.nutdriver.specs.declared.fault.DriverFault.{DriverFault}
use Rattle.nutdriver.specs.declared.report.Report.{Report}
use Rattle.nutdriver.specs.Report.{after_line}
use Rattle.nutcore.specs.Sound.{IsSound}

-- The notes of all events of a run, in order.
abbrev pub notes_along : ServerState → List Event → List Outcome → List Note
notes_along s [] os = []
notes_along s (e ∷ es) [] = []
notes_along s (e ∷ es) (o ∷ os) = notes_of s e o ++ notes_along (after s e o) es os

-- These lead from one to another, and each differs from the one before it.
abbrev pub Leads : {A : Type 0} → A → List A → A → Type 0
Leads was [] is = is ≡ was
Leads was (next ∷ later) is = (next ≢ was) × Leads next later is

-- The state of the data of a UPS: lost, where there is no such UPS.
abbrev pub data_at : UpsId → ServerState → DataState
data_at u s = option_map_or (data_state_of s.max_age s.moment) (ups_at u.place s) Lost

-- What a note says of them.
abbrev pub data_in : UpsId → Note → Option DataState
data_in u (notes.Data v state) = if v.place == u.place then Some state else None
data_in u _ = None

-- Its status, none where its driver has reported none,
abbrev pub status_at : UpsId → ServerState → Option (List ℕ)
status_at u s = option_map_or status_of (ups_at u.place s) None

-- and what a note says of it.
abbrev pub status_in : UpsId → Note → Option (Option (List ℕ))
status_in u (notes.StatusChanged v status) = if v.place == u.place then Some status else None
status_in u _ = None

-- For what the lines of its driver were refused that a run executed, in their order,
abbrev pub faults_among : Report → List Heard → List (Option DriverFault)
faults_among report [] = []
faults_among report (x ∷ lines) =
    let r = after_line x.moment report x.line in
    cons_option (if is_refused x.unawaited r.1 then Some (fault_of r.1) else None)
    (faults_among r.0 lines)

abbrev pub faults_along : UpsId → ServerState → List Event → List Outcome
    → List (Option DriverFault)
faults_along u s [] os = []
faults_along u s (e ∷ es) [] = []
faults_along u s (e ∷ es) (o ∷ os) =
    faults_among (report_of u s) (heard_in_event u s e o) ++ faults_along u (after s e o) es os

-- and what a note says of one.
abbrev pub fault_in : UpsId → Note → Option (Option DriverFault)
fault_in u (notes.LineRefused v fault shown) = if v.place == u.place then Some fault else None
fault_in u _ = None

-- The UPS to which a client is logged in.
abbrev pub login_at : ℕ → ServerState → Option UpsId
login_at c s = option_and_then (λ x. x.login) (session c s)

-- What a note says of it.
abbrev pub login_in : ℕ → Note → Option (Option UpsId)
login_in c (notes.LoggedIn u who) = if who.client == c then Some (Some u) else None
login_in c (notes.LoggedOut u who) = if who.client == c then Some None else None
login_in c _ = None

-- What it says of an executed line: a login, another command, or a refusal.
abbrev pub deed_in : Note → Option Note
deed_in (notes.LoggedIn u who) = Some (notes.LoggedIn u who)
deed_in (notes.Did deed) = Some (notes.Did deed)
deed_in _ = None

-- Over any run, by all that is noted, where drivers' bytes are as many as the loop reads at once.
-- states: each change of the data of a UPS, and no other. statuses: each change of its status, and
-- no other. refusals: each refused line of its driver, once and in order. logins: each login of a
-- client and each logout, and no other. deeds: what the executed lines did, each once and in order.
pub record TheNotesOfARunAreWhatChanged : Type 0 where
  pub states : (old new : ServerState) (events : List Event) (outcomes : List Outcome) (u : UpsId)
      → IsSound old → All IsReadAtOnce events → Run old events outcomes new
      → Leads (data_at u old) (filter_map (data_in u) (notes_along old events outcomes))
      (data_at u new)
  pub statuses : (old new : ServerState) (events : List Event) (outcomes : List Outcome)
      (u : UpsId) → IsSound old → All IsReadAtOnce events → Run old events outcomes new
      → Leads (status_at u old) (filter_map (status_in u) (notes_along old events outcomes))
      (status_at u new)
  pub refusals : (old new : ServerState) (events : List Event) (outcomes : List Outcome)
      (u : UpsId) → IsSound old → All IsReadAtOnce events → Run old events outcomes new
      → filter_map (fault_in u) (notes_along old events outcomes)
      ≡ faults_along u old events outcomes
  pub logins : (old new : ServerState) (events : List Event) (outcomes : List Outcome) (c : ℕ)
      → IsSound old → All IsReadAtOnce events → Run old events outcomes new
      → Leads (login_at c old) (filter_map (login_in c) (notes_along old events outcomes))
      (login_at c new)
  pub deeds : (old new : ServerState) (events : List Event) (outcomes : List Outcome)
      → IsSound old → All IsReadAtOnce events → Run old events outcomes new
      → filter_map deed_in (notes_along old events outcomes)
      ≡ filter_map deed_in (notes_of_lines (executions old events outcomes))
