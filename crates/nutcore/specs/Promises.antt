-- What the private parts of the server promise one another. A reader of the public contracts needs
-- none of it.
use Rattle.std.specs.Prelude.{◌≡◌, ◌<◌, ◌≤◌, ◌-◌, ◌⊎◌, ◌==◌, ◌++◌, ℕ, true, false}
use Rattle.std.specs.Prelude.{List, [], Option, Some, None, Result, Ok, Err, IsTrue, length, drop}
use Rattle.std.specs.Prelude.{take, map, slice_get}
use Rattle.std.specs.List.{position_or_len}
use Rattle.nutcore.specs.declared.event.Fault.{Fault}
use Rattle.nutcore.specs.declared.event.Fault.TheVariants as faults
use Rattle.std.specs.declared.alloc.AllocError.{AllocError}
use Rattle.nutanswer.specs.declared.reply.Reply.{Reply}
use Rattle.nutanswer.specs.declared.reply.Reply.TheVariants.{Refused, One, Many, Clients}
use Rattle.nutanswer.specs.declared.reply.Change.{Change}
use Rattle.nutanswer.specs.declared.reply.Change.TheVariants.{Nothing}
use Rattle.nutanswer.specs.Orders.{order}
use Rattle.nutlisting.specs.declared.outbox.TheConstants.{OWED_LIMIT}
use Rattle.nutcommand.specs.Command.{read_command}
use Rattle.nutio.specs.Bounded.{with_one}
use Rattle.nutlisting.specs.Counted.{KeepsCount}
use Rattle.nutlisting.specs.Counts.{lines}
use Rattle.nutlisting.specs.Lines.{IsWholeLine}
use Rattle.nutlisting.specs.Items.{text_of, client_listing}
use Rattle.nutanswer.specs.View.{Seen, AskerSeen, addresses_at}
use Rattle.nutcommand.specs.declared.command.Command.{Command}
use Rattle.nutcommand.specs.declared.err_word.ErrWord.{ErrWord}
use Rattle.nutcommand.specs.ErrWord.{error_line}
use Rattle.nutcore.specs.Session.{SessionState}
use Rattle.nutwords.specs.WholeLines.{whole_lines, unfinished_after, is_too_long}
use Rattle.nutdriver.specs.declared.report.LineOutcome.{LineOutcome}
use Rattle.nutdriver.specs.Report.{after_line, line_changes, end_in}
use Rattle.nuttracking.specs.Tracking.{TrackingState}
use Rattle.nutcore.specs.Reports.{with_end, is_unawaited, after_ends}
use Rattle.nutcore.specs.Ups.{UpsState, free_room, with_unfinished, as_far, after_text}
use Rattle.nutcore.specs.Ups.{ups_after_text, wants_memory_at}
use Rattle.nutcore.specs.Step.{refused_after}
use Rattle.nutusers.specs.declared.ups_list.UpsId.{UpsId}
use Rattle.std.specs.Option.{option_map, option_and_then}
use Rattle.nutcore.specs.Calls.{is_connected, done}
use Rattle.nutcore.specs.Server.{ServerState}
use Rattle.nutcore.specs.Parts.{ups_at}
use Rattle.nutcore.specs.Reply.{seen, asker, text_to, refusal_by, change_by, seen_client}
use Rattle.nutcore.specs.declared.cost.Cost.{Cost}
use Rattle.nutcore.specs.History.{owed, of_line}
use Rattle.nutcore.specs.declared.note.Note.{Note}
use Rattle.nutcore.specs.declared.note.TheConstants.{NOTE_LIMIT}
use Rattle.nutcore.specs.Notes.{deed_of, note_of_change, note_of, line_notes, text_notes}
use Rattle.nutcore.specs.Cost.{RunningServer}
use Rattle.nutcore.specs.Pump.{pumped, after_all_lines, after_lines, is_overlong, wants_memory}
use Rattle.nutcore.specs.Pump.{next_line, next_line_for, holds_overlong}
use Rattle.nutcore.specs.Reply.{shares_version_read}
use Rattle.nutcore.specs.declared.session.Next.{Next}
use Rattle.nutcore.specs.declared.session.Next.TheVariants as nexts
use Rattle.nutwords.specs.declared.limits.TheConstants.{LINE_LIMIT}

-- A line: so many bytes at the front of a piece, or else what is held.
abbrev pub front_or : Option ℕ → List ℕ → List ℕ → List ℕ
front_or None piece held = held
front_or (Some n) piece held = take n piece

-- There are so many, if it is at the front, and no more than a line may have.
abbrev pub IsFront : Option ℕ → List ℕ → Type 0
IsFront None piece = Unit {0}
IsFront (Some n) piece = (n ≤ length piece) × (n ≤ LINE_LIMIT)

-- What a line of its driver does: it is done, settles the order that it reports on, and is noted;
-- and nothing is held.
pub record DoesLine (max_age moment : ℕ) (u : UpsId) (line : List ℕ) (old : UpsState)
    (orders : TrackingState) (notes : List Note) (new : UpsState) (settled : TrackingState)
    (noted : List Note) : Type 0 where
  pub leaves : new
      ≡ with_unfinished []
      (after_text moment (is_unawaited u.place (end_in line) orders) old line)
  pub settles : settled ≡ with_end u.place (end_in line) orders
  pub notes_it : noted
      ≡ take NOTE_LIMIT
      (notes
      ++ line_notes max_age moment u (is_unawaited u.place (end_in line) orders) old line)

-- Before its outcome changes anything beside the report.
pub record IsApplied (moment : ℕ) (line : List ℕ) (old : UpsState) (outcome : LineOutcome)
    (new : UpsState) : Type 0 where
  pub done : after_line moment old.report line ≡ (new.report, outcome)
  pub leaves : new ≡ record old { report = new.report }

abbrev pub with_hearing : ℕ → UpsState → UpsState
with_hearing moment x = record x { report = record x.report { heard = moment } }

-- It would change the tree, and memory was refused: it was heard, no more.
pub record LacksMemory (moment : ℕ) (line : List ℕ) (old : UpsState) (orders : TrackingState)
    (notes : List Note) (new : UpsState) (settled : TrackingState) (noted : List Note)
    : Type 0 where
  pub changes : line_changes old.report.tree line ≡ true
  pub heard : new ≡ with_hearing moment old
  pub settles : settled ≡ orders
  pub notes_it : noted ≡ notes

-- What it reported does: its whole lines, one by one, and the rest; or its first k lines, where the
-- next wants memory that is refused.
abbrev pub IsAnswered : ℕ → ℕ → TrackingState → List ℕ → UpsState → Result (Unit {0}) Fault
    → Type 0
IsAnswered moment place orders text x (Ok t) = is_too_long (unfinished_after text) ≡ false
IsAnswered moment place orders text x (Err faults.LineTooLong) =
    is_too_long (unfinished_after text) ≡ true
IsAnswered moment place orders text x (Err (faults.Memory k)) =
    wants_memory_at moment place orders text k x ≡ true
IsAnswered moment place orders text x (Err fault) = ⊥

pub record Reports (max_age moment : ℕ) (u : UpsId) (text : List ℕ) (old : UpsState)
    (orders : TrackingState) (notes : List Note) (result : Result (Unit {0}) Fault)
    (new : UpsState) (settled : TrackingState) (noted : List Note) : Type 0 where
  pub answers : IsAnswered moment u.place orders text old result
  pub leaves : new
      ≡ ups_after_text moment u.place orders text (refused_after (done result)) old
  pub settles : settled
      ≡ after_ends u.place (as_far (refused_after (done result)) (whole_lines text)) orders
  pub notes_it : noted
      ≡ take NOTE_LIMIT
      (notes
      ++ text_notes max_age moment u orders text (refused_after (done result)) old)

-- What a driver's taking of n bytes leaves of its UPS: it took no more than it is owed, or nothing
-- changed.
abbrev pub IsTaken : ℕ → UpsState → Result (Unit {0}) Fault → UpsState → Type 0
IsTaken n old (Ok u) new = (n ≤ length old.owed) × (new ≡ record old { owed = drop n old.owed })
IsTaken n old (Err fault) new = (fault ≡ faults.TookTooMuch) × (length old.owed < n) × (new ≡ old)

-- where the session of this id is
abbrev pub place : ℕ → List SessionState → ℕ
place c xs = position_or_len (λ x. x.id == c) xs

pub record IsAt (c i : ℕ) (xs : List SessionState) : Type 0 where
  pub first : place c xs ≡ i
  pub within : i < length xs

-- what the pump answers, and leaves
abbrev pub PumpGives : ServerState → ℕ → Result (Unit {0}) Fault → ServerState → Type 0
PumpGives old c (Ok u) new = (is_overlong (after_all_lines old c) c ≡ false) × (new ≡ pumped old c)
PumpGives old c (Err faults.LineTooLong) new =
    (is_overlong (after_all_lines old c) c ≡ true) × (new ≡ pumped old c)
PumpGives old c (Err (faults.Memory k)) new =
    IsTrue (wants_memory (after_lines k old c) c) × (new ≡ after_lines k old c)
PumpGives old c (Err fault) new = ⊥

-- the session has a line that may be executed, or too long a line, or nothing yet
abbrev pub HasNext : SessionState → Next → Type 0
HasNext x (nexts.Line end) = option_map length (next_line x) ≡ Some end
HasNext x nexts.Overlong = (next_line x ≡ None) × (holds_overlong x ≡ true)
HasNext x nexts.Nothing = (next_line x ≡ None) × (holds_overlong x ≡ false)

-- a whole line, or nothing where a line without words is answered
abbrev pub IsLineOrNone : List ℕ → Type 0
IsLineOrNone text = IsWholeLine text ⊎ (text ≡ [])

-- the answer is that to the line: the word of its refusal, or one line at most, with what it
-- changes, or the listing
abbrev pub Replies : ServerState → ℕ → List ℕ → Reply → Type 0
Replies s c line (Refused word) = refusal_by s c (read_command line) ≡ Some word
Replies s c line (One text change) =
    (refusal_by s c (read_command line) ≡ None)
    × (text_to s c (read_command line) ≡ text.now) × (change_by s c (read_command line) ≡ change)
    × (length text.now ≤ OWED_LIMIT) × IsLineOrNone text.now
Replies s c line (Clients name u) =
    (refusal_by s c (read_command line) ≡ None)
    × (text_to s c (read_command line)
    ≡ text_of (client_listing name (addresses_at u (map seen_client s.sessions))))
    × (change_by s c (read_command line) ≡ Nothing)
Replies s c line (Many listing) =
    (refusal_by s c (read_command line) ≡ None)
    × (text_to s c (read_command line) ≡ text_of listing)
    × (change_by s c (read_command line) ≡ Nothing)

-- the text of an answer, where these are the clients of a UPS that it lists
abbrev pub text_with : List (List ℕ) → Reply → List ℕ
text_with clients (Refused word) = error_line word
text_with clients (One text change) = text.now
text_with clients (Many listing) = text_of listing
text_with clients (Clients name u) = text_of (client_listing name clients)

-- what it changes
abbrev pub change_in : Reply → Change
change_in (Refused word) = Nothing
change_in (One text change) = change
change_in (Many listing) = Nothing
change_in (Clients name u) = Nothing

-- if it is a line, it is a whole one, and may be joined to what is owed
abbrev pub IsShort : Reply → Type 0
IsShort (Refused word) = Unit {0}
IsShort (One text change) = (length text.now ≤ OWED_LIMIT) × IsLineOrNone text.now
IsShort (Many listing) = Unit {0}
IsShort (Clients name u) = Unit {0}

-- if it lists the clients of a UPS, these are the addresses of the sessions that are logged in to
-- it
abbrev pub ListsClients : List SessionState → Reply → List (List ℕ) → Type 0
ListsClients sessions (Refused word) clients = Unit {0}
ListsClients sessions (One text change) clients = Unit {0}
ListsClients sessions (Many listing) clients = Unit {0}
ListsClients sessions (Clients name u) clients = clients ≡ addresses_at u (map seen_client sessions)

-- an order is for a driver that is connected, and fits in what it may still be owed
pub record TakesLine (line : List ℕ) (x : UpsState) : Type 0 where
  pub connected : x.report.connected ≡ true
  pub fits : length line ≤ free_room x

abbrev pub OrderFits : Change → List UpsState → Type 0
OrderFits change upses =
    (u : UpsId) (line : List ℕ) (id : Option ℕ) (x : UpsState) → change ≡ order u line id
    → slice_get upses u.place ≡ Some x → TakesLine line x

-- or memory was refused for a listing
abbrev pub RepliesOrLacks : ServerState → ℕ → List ℕ → Result Reply AllocError → Type 0
RepliesOrLacks s c line (Ok answer) = Replies s c line answer
RepliesOrLacks s c line (Err e) = shares_version_read s c (read_command line) ≡ true

-- so is answered, or lacks memory, each line that is read so of a client that is seen so, on each
-- server that is seen so
abbrev pub AnswersEach : Seen → AskerSeen → Result (Option Command) ErrWord
    → Result Reply AllocError → Type 0
AnswersEach view who read result =
    (s : ServerState) (c : ℕ) (line : List ℕ) → view ≡ seen s → who ≡ asker c s
    → read_command line ≡ read → RepliesOrLacks s c line result

-- an event of a UPS's driver is refused so: there is no such UPS, or no driver is connected to it
abbrev pub IsNotConnected : UpsId → Fault → ServerState → Type 0
IsNotConnected u fault s =
    ((fault ≡ faults.NoSuchUps) × (ups_at u.place s ≡ None))
    ⊎ ((fault ≡ faults.NotConnected) × (option_map is_connected (ups_at u.place s) ≡ Some false))

-- of the UPS, which is there
abbrev pub OfUps : UpsId → ServerState → (UpsState → Type 0) → Type 0
OfUps u s P = (x : UpsState) → ups_at u.place s ≡ Some x → P x

-- where all lines were counted, all are, of what is offered to this client
abbrev pub KeepsCost : ℕ → RunningServer → RunningServer → Type 0
KeepsCost c old new =
    KeepsCount (owed c old.state) old.cost.rendered (owed c new.state) new.cost.rendered

-- the cost of an event after which these bytes are offered, so many of which were there before
abbrev pub cost_beyond : ℕ → List ℕ → Cost
cost_beyond kept after = record { rendered = lines (drop kept after); placed = length after - kept }

-- what is noted of a line of the session that was read and answered so
abbrev pub note_in_reply : SessionState → Result (Option Command) ErrWord → Reply → Option Note
note_in_reply x read (Refused word) = deed_of x (Some word) None read
note_in_reply x read (One text change) = note_of_change x read change
note_in_reply x read (Many listing) = None
note_in_reply x read (Clients name u) = None

-- the notes, and one more, if there is one and room for it
abbrev pub with_note : Option Note → List Note → List Note
with_note = with_one NOTE_LIMIT

-- what is noted of the client's next line, if it may be executed
abbrev pub next_note : ServerState → ℕ → Option (List ℕ) → Option Note
next_note s c next = option_and_then (λ line. note_of (of_line s c line)) next

abbrev pub with_next : ServerState → ℕ → List Note → List Note
with_next s c notes = with_note (next_note s c (next_line_for s c)) notes
