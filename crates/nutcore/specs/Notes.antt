-- What is noted of an event, for the journal: names, and never a value or a password.
use Rattle.std.specs.Prelude.{◌≡◌, ◌≤◌, ℕ, suc, Bool, true, false, List, [], ◌∷◌, ◌++◌, length}
use Rattle.std.specs.Prelude.{Option, Some, None, Result, Ok, codes, take, max}
use Rattle.std.specs.Prelude.{if◌then◌else◌, ◌||◌, ◌==◌, nat_le}
use Rattle.std.specs.List.{filter_map, cons_option, list_any, slice_split}
use Rattle.std.specs.Option.{option_map, option_map_or, option_and_then}
use Rattle.std.specs.Str.{bytes_eq}
use Rattle.arrayvec.specs.declared.array_vec.ArrayVec.{ArrayVec}
use Rattle.nutdriver.specs.LastLine.{value_of}
use Rattle.nutusers.specs.declared.ups_list.UpsId.{UpsId}
use Rattle.nutcommand.specs.declared.command.Command.{Command}
use Rattle.nutcommand.specs.declared.command.Command.TheVariants as commands
use Rattle.nutcommand.specs.declared.err_word.ErrWord.{ErrWord}
use Rattle.nutanswer.specs.declared.reply.Change.{Change}
use Rattle.nutanswer.specs.declared.reply.Change.TheVariants as changes
use Rattle.nutcommand.specs.Command.{read_command}
use Rattle.nutcore.specs.declared.note.Note.{Note}
use Rattle.nutcore.specs.declared.note.Note.TheVariants as note_kinds
use Rattle.nutcore.specs.declared.note.DataState.{DataState}
use Rattle.nutcore.specs.declared.note.DataState.TheVariants as states
use Rattle.nutcore.specs.declared.note.Who.{Who}
use Rattle.nutcore.specs.declared.note.Verb.{Verb}
use Rattle.nutcore.specs.declared.note.Verb.TheVariants as verbs
use Rattle.nutcore.specs.declared.TheConstants.{DRIVER_READ_LIMIT}
use Rattle.nutcore.specs.declared.note.TheConstants.{NOTE_LIMIT, SHOWN_LIMIT}
use Rattle.nutcore.specs.declared.event.Event.{Event}
use Rattle.nutcore.specs.declared.event.Event.TheVariants as event
use Rattle.nutcore.specs.declared.event.Outcome.{Outcome}
use Rattle.nutanswer.specs.View.{Readiness, not_connected, stale, usable, readiness}
use Rattle.nutusers.specs.UpsList.{id_at}
use Rattle.nutcore.specs.Ups.{UpsState, is_refused, after_text, after_texts, as_far}
use Rattle.nutcore.specs.Reports.{with_end, is_unawaited}
use Rattle.nuttracking.specs.Tracking.{TrackingState}
use Rattle.nutwords.specs.WholeLines.{whole_lines, unfinished_after, is_too_long}
use Rattle.nutdriver.specs.declared.fault.DriverFault.{DriverFault}
use Rattle.nutdriver.specs.declared.report.LineOutcome.{LineOutcome}
use Rattle.nutdriver.specs.declared.report.LineOutcome.TheVariants.{Refused, Tracked}
use Rattle.nutdriver.specs.Report.{after_line, end_in}
use Rattle.nutcore.specs.Session.{SessionState}
use Rattle.nutcore.specs.Server.{ServerState, session}
use Rattle.nutcore.specs.Parts.{ups_at}
use Rattle.nutcore.specs.Step.{refused_after}
use Rattle.nutcore.specs.Sound.{IsSound}
use Rattle.nutcore.specs.Reply.{refusal_by, change_by}
use Rattle.nutcore.specs.History.{Execution, of_line, of_notice, executions_by}

-- Whose session it is.
abbrev pub who_of : SessionState → Who
who_of x = record { client = x.id; user = x.username; address = x.address }

-- The logout of a session that is logged in.
abbrev pub logout_of : SessionState → Option Note
logout_of x = option_map (λ u. note_kinds.LoggedOut u (who_of x)) x.login

-- Whether the value of a command is given, and has no bytes.
abbrev pub is_empty_value : Option (Option (List ℕ)) → Bool
is_empty_value (Some (Some [])) = true
is_empty_value _ = false

-- What the session did by a command that was refused by this word, or granted, and is tracked by
-- this id or isn't,
abbrev pub did : SessionState → Option ErrWord → Option ℕ → Verb → Option (List ℕ)
    → Option (List ℕ) → Bool → Option Note
did x refusal tracking_id verb ups name has_empty_value =
    Some
    (note_kinds.Did (record {
      who = who_of x;
      verb = verb;
      ups = ups;
      name = name;
      has_empty_value = has_empty_value;
      refusal = refusal;
      tracking_id = tracking_id;
    }))

-- where its line was read as a command of which that is noted.
abbrev pub deed_of : SessionState → Option ErrWord → Option ℕ → Result (Option Command) ErrWord
    → Option Note
deed_of x refusal id (Ok (Some (commands.Login ups))) = did x refusal id verbs.Login ups None false
deed_of x refusal id (Ok (Some (commands.Primary ups))) =
    did x refusal id verbs.Primary ups None false
deed_of x refusal id (Ok (Some (commands.Fsd ups))) = did x refusal id verbs.Fsd ups None false
deed_of x refusal id (Ok (Some (commands.SetVar ups name value))) =
    did x refusal id verbs.SetVar ups name false
deed_of x refusal id (Ok (Some (commands.InstCmd ups name value))) =
    did x refusal id verbs.InstCmd ups name (is_empty_value value)
deed_of x refusal id _ = None

-- What is noted of a change that the session makes, by a line that was read so,
abbrev pub note_of_change : SessionState → Result (Option Command) ErrWord → Change → Option Note
note_of_change x read (changes.Login u) = Some (note_kinds.LoggedIn u (who_of x))
note_of_change x read changes.Ending = logout_of x
note_of_change x read (changes.Fsd u) = deed_of x None None read
note_of_change x read (changes.Order u line) = deed_of x None None read
note_of_change x read (changes.Tracked u id line) = deed_of x None (Some id) read
note_of_change x read _ = None

-- and of such a line, which is refused by this word, or makes this change.
abbrev pub note_read : SessionState → Result (Option Command) ErrWord → Option ErrWord → Change
    → Option Note
note_read x read (Some word) change = deed_of x (Some word) None read
note_read x read None change = note_of_change x read change

-- What is noted of what was executed, on the server as it was at that moment. By the notice the
-- session begins to end.
abbrev pub note_of : Execution → Option Note
note_of (of_line s c line) =
    let read = read_command line in
    option_and_then (λ x. note_read x read (refusal_by s c read) (change_by s c read)) (session c s)
note_of (of_notice s c) = option_and_then logout_of (session c s)

abbrev pub notes_of_lines : List Execution → List Note
notes_of_lines all = filter_map note_of all

-- How the data of a UPS are, by whether its driver has reported all that it knows, and by what
-- clients get of them.
abbrev pub data_state : Bool → Readiness → DataState
data_state dumped not_connected = states.Lost
data_state dumped usable = states.Good
data_state true stale = states.Stale
data_state false stale = states.Awaited

abbrev pub data_state_of : ℕ → ℕ → UpsState → DataState
data_state_of max_age moment x = data_state x.report.dumped (readiness moment max_age x.report)

-- The value of ups.status, if its driver has reported one.
abbrev pub status_of : UpsState → Option (List ℕ)
status_of x = value_of x.report.tree (codes "ups.status")

-- What is noted of a UPS that was so and is so: another state of its data,
abbrev pub data_note : UpsId → DataState → DataState → Option Note
data_note u states.Lost states.Lost = None
data_note u states.Awaited states.Awaited = None
data_note u states.Good states.Good = None
data_note u states.Stale states.Stale = None
data_note u was is = Some (note_kinds.Data u is)

-- another status, or none any more,
abbrev pub status_note : UpsId → Option (List ℕ) → Option (List ℕ) → Option Note
status_note u None None = None
status_note u (Some was) (Some is) =
    if bytes_eq was is then None else Some (note_kinds.StatusChanged u (Some is))
status_note u _ is = Some (note_kinds.StatusChanged u is)

-- and that a line of its driver is refused, for what: nothing where it reports on an order that
-- isn't awaited. Of a line that speaks of ups.status, or of an ALARM, its beginning is noted. Of a
-- line that reports on one that is awaited it is noted how that ended.
abbrev pub has_word : List ℕ → List ℕ → Bool
has_word word text =
    list_any (λ one. bytes_eq one word) (slice_split (λ b. nat_le b 32 || b == 34) text)

abbrev pub shown_of : List ℕ → Option (ArrayVec ℕ SHOWN_LIMIT (Unit {0}))
shown_of line =
    if has_word (codes "ups.status") line || has_word (codes "ALARM") line
    then Some (record { items = take SHOWN_LIMIT line }) else None

abbrev pub fault_of : LineOutcome → Option DriverFault
fault_of (Refused fault) = Some fault
fault_of _ = None

abbrev pub end_note : UpsId → LineOutcome → Option Note
end_note u (Tracked id number) = Some (note_kinds.OrderEnded u id number)
end_note u _ = None

abbrev pub outcome_note : UpsId → Bool → LineOutcome → List ℕ → Option Note
outcome_note u unawaited outcome line =
    if is_refused unawaited outcome
    then Some (note_kinds.LineRefused u (fault_of outcome) (shown_of line)) else end_note u outcome

-- What is noted of a whole line of its driver.
abbrev pub line_notes : ℕ → ℕ → UpsId → Bool → UpsState → List ℕ → List Note
line_notes max_age moment u unawaited x line =
    let y = after_text moment unawaited x line in
    cons_option (status_note u (status_of x) (status_of y))
    (cons_option (outcome_note u unawaited (after_line moment x.report line).1 line)
    (cons_option
    (data_note u (data_state_of max_age moment x) (data_state_of max_age moment y)) []))

-- Of its driver's lines, one after another, where these are the orders before them.
abbrev pub texts_notes : ℕ → ℕ → UpsId → TrackingState → List (List ℕ) → UpsState → List Note
texts_notes max_age moment u t [] x = []
texts_notes max_age moment u t (line ∷ lines) x =
    let unawaited = is_unawaited u.place (end_in line) t in
    line_notes max_age moment u unawaited x line
    ++ texts_notes max_age moment u (with_end u.place (end_in line) t) lines
    (after_text moment unawaited x line)

-- Its driver is lost, and with it the status that it reported.
abbrev pub loss_notes : UpsId → UpsState → List Note
loss_notes u x = note_kinds.Data u states.Lost ∷ cons_option (status_note u (status_of x) None) []

-- It is lost by what it reported where a line is too long, or memory is refused.
abbrev pub is_lost_by : List ℕ → Option ℕ → Bool
is_lost_by text None = is_too_long (unfinished_after text)
is_lost_by text (Some k) = true

-- What is noted of what it reported.
abbrev pub text_notes : ℕ → ℕ → UpsId → TrackingState → List ℕ → Option ℕ → UpsState → List Note
text_notes max_age moment u t text m x =
    let lines = as_far m (whole_lines text) in
    texts_notes max_age moment u t lines x
    ++ (if is_lost_by text m then loss_notes u (after_texts moment u.place t lines x) else [])

-- What is noted of an event of its driver: it connects, reports, or is lost.
abbrev pub connect_notes : UpsId → UpsState → List Note
connect_notes u x = if x.report.connected then [] else note_kinds.Data u states.Awaited ∷ []

abbrev pub bytes_notes : ServerState → UpsId → List ℕ → Option ℕ → UpsState → List Note
bytes_notes s u piece m x =
    if x.report.connected
    then text_notes s.max_age s.moment u s.tracking (x.unfinished ++ piece) m x else []

abbrev pub down_notes : UpsId → UpsState → List Note
down_notes u x = if x.report.connected then loss_notes u x else []

abbrev pub of_ups_notes : UpsId → ServerState → (UpsState → List Note) → List Note
of_ups_notes u s notes = option_map_or notes (ups_at u.place s) []

-- Data become stale only by the clock, from one moment to another: of the UPSs of which the first
-- one is at this place, in their order.
abbrev pub tick_note : ℕ → ℕ → ℕ → ℕ → UpsState → Option Note
tick_note max_age was now place x =
    data_note (id_at place) (data_state_of max_age was x) (data_state_of max_age now x)

abbrev pub tick_notes : ℕ → ℕ → ℕ → ℕ → List UpsState → List Note
tick_notes max_age was now place [] = []
tick_notes max_age was now place (x ∷ xs) =
    cons_option (tick_note max_age was now place x) (tick_notes max_age was now (suc place) xs)

-- All that is noted of an event, in its order.
abbrev pub all_notes : ServerState → Event → Option ℕ → List Note
all_notes s (event.DriverUp u) m = of_ups_notes u s (connect_notes u)
all_notes s (event.DriverBytes u piece) m = of_ups_notes u s (bytes_notes s u piece m)
all_notes s (event.DriverDown u) m = of_ups_notes u s (down_notes u)
all_notes s (event.Tick seconds) m = tick_notes s.max_age s.moment (max seconds s.moment) 0 s.upses
all_notes s (event.Feed c piece) m = notes_of_lines (executions_by s (event.Feed c piece) m)
all_notes s (event.Took c n) m = notes_of_lines (executions_by s (event.Took c n) m)
all_notes s (event.Close c) m = cons_option (option_and_then logout_of (session c s)) []
all_notes s _ m = []

-- As many of them as there is room for.
abbrev pub notes_of : ServerState → Event → Outcome → List Note
notes_of s e outcome = take NOTE_LIMIT (all_notes s e (refused_after outcome))

-- A driver's bytes are as many as the loop reads at once.
abbrev pub IsReadAtOnce : Event → Type 0
IsReadAtOnce (event.DriverBytes u piece) = length piece ≤ DRIVER_READ_LIMIT
IsReadAtOnce _ = Unit {0}

-- There is room for all that is noted of such an event.
abbrev pub NoNoteIsCut : Type 0
NoNoteIsCut =
    (s : ServerState) (e : Event) (outcome : Outcome) → IsSound s → IsReadAtOnce e
    → notes_of s e outcome ≡ all_notes s e (refused_after outcome)
