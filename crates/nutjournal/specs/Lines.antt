-- Which line is due of a note: of which kind, and whose it is.
use Rattle.std.specs.Prelude.{◌≡◌, ℕ, Bool, true, false, List, [], ◌∷◌, ◌==◌, ◌&&◌, ◌||◌}
use Rattle.std.specs.Prelude.{Option, Some, None, if◌then◌else◌, codes, slice_index_or, slice_set}
use Rattle.std.specs.List.{list_any}
use Rattle.std.specs.Option.{option_map_or}
use Rattle.nutusers.specs.UpsList.{Ups}
use Rattle.nutusers.specs.declared.ups_list.UpsId.{UpsId}
use Rattle.nutcommand.specs.declared.err_word.ErrWord.{ErrWord}
use Rattle.nutcommand.specs.declared.err_word.ErrWord.TheVariants as words
use Rattle.nutcore.specs.declared.note.DataState.{DataState}
use Rattle.nutcore.specs.declared.note.DataState.TheVariants as states
use Rattle.nutcore.specs.declared.note.Deed.{Deed}
use Rattle.nutcore.specs.declared.note.Note.{Note}
use Rattle.nutcore.specs.declared.note.Note.TheVariants as notes
use Rattle.nutcore.specs.declared.note.Verb.{Verb}
use Rattle.nutcore.specs.declared.note.Verb.TheVariants as verbs
use Rattle.nutcore.specs.declared.note.Who.{Who}
use Rattle.nutcore.specs.Notes.{has_word}
use Rattle.nutjournal.specs.declared.doings.Doings.{Doings}
use Rattle.nutjournal.specs.declared.doings.Leave.{Leave}
use Rattle.nutjournal.specs.declared.doings.Leave.TheVariants as leaves
use Rattle.nutjournal.specs.declared.drivers.Driver.{Driver}
use Rattle.nutjournal.specs.declared.log_buffer.LogBuffer.{LogBuffer}
use Rattle.nutjournal.specs.declared.tally.Kind.{Kind}
use Rattle.nutjournal.specs.declared.tally.Kind.TheVariants as kinds
use Rattle.nutjournal.specs.declared.tallies.Tallies.{Tallies}
use Rattle.nutjournal.specs.Drivers.{after_state, is_first_stale}
use Rattle.nutjournal.specs.LogBuffer.{PlaceMore}
use Rattle.nutjournal.specs.Tallies.{Whose, of_client, of_order, of_refused, of_ups, of_user}
use Rattle.nutjournal.specs.Tallies.{after_line_of, is_line_logged, ups_of}
use Rattle.nutjournal.specs.Tally.{one_more, priority_of}

abbrev pub kind_of_data : DataState → Kind
kind_of_data states.Lost = kinds.Lost
kind_of_data states.Awaited = kinds.Awaited
kind_of_data states.Good = kinds.Good
kind_of_data states.Stale = kinds.Stale

-- A status is an alarm on battery (OB) or with a low battery (LB).
abbrev pub kind_of_status : List ℕ → Kind
kind_of_status status =
    if has_word (codes "OB") status && has_word (codes "LB") status then kinds.LowBattery
    else if has_word (codes "OB") status || has_word (codes "LB") status then kinds.Alarm
    else kinds.Status

-- A refusal is a warning where a machine that is to learn of a shutdown, or to order one, has no
-- right to, or names no UPS.
abbrev pub is_denied : ErrWord → Bool
is_denied words.AccessDenied = true
is_denied words.UnknownUps = true
is_denied _ = false

abbrev pub kind_of_refusal : Verb → ErrWord → Kind
kind_of_refusal verbs.Login word = if is_denied word then kinds.Denied else kinds.RefusedLogin
kind_of_refusal verbs.Primary word = if is_denied word then kinds.Denied else kinds.RefusedOrder
kind_of_refusal verbs.Fsd word = if is_denied word then kinds.Denied else kinds.RefusedOrder
kind_of_refusal _ word = kinds.RefusedOrder

abbrev pub kind_of_granted : Verb → Bool → Kind
kind_of_granted verbs.Fsd has_empty_value = kinds.ForcedShutdown
kind_of_granted _ has_empty_value = if has_empty_value then kinds.EmptyOrder else kinds.Order

abbrev pub kind_of_deed : Option ErrWord → Deed → Kind
kind_of_deed None deed = kind_of_granted deed.verb deed.has_empty_value
kind_of_deed (Some word) deed = kind_of_refusal deed.verb word

-- A tracked order ended by this number: 0 where it succeeded.
abbrev pub kind_of_end : ℕ → Kind
kind_of_end n = if n == 0 then kinds.OrderDone else kinds.OrderFailed

-- A line that is logged or counted: what it is of, and its kind.
pub record Line : Type 0 where
  pub whose : Whose
  pub kind : Kind

abbrev pub of_deed : Option ErrWord → Deed → Whose
of_deed None deed = of_order deed
of_deed (Some word) deed = of_refused deed

abbrev pub line_of_deed : Deed → Line
line_of_deed deed =
    record { whose = of_deed deed.refusal deed; kind = kind_of_deed deed.refusal deed }

abbrev pub one_of_ups : UpsId → Kind → Option Line
one_of_ups u kind = Some (record { whose = of_ups u; kind = kind })

abbrev pub one_of_user : UpsId → Who → Kind → Option Line
one_of_user u who kind = Some (record { whose = of_user u who; kind = kind })

-- The loss of a driver has a line of its own, and a status that it takes away none. Refused lines
-- are counted, and of one that speaks of the status its beginning is logged.
abbrev pub line_of_note : Note → Option Line
line_of_note (notes.Data u state) = one_of_ups u (kind_of_data state)
line_of_note (notes.StatusChanged u (Some status)) = one_of_ups u (kind_of_status status)
line_of_note (notes.StatusChanged u None) = None
line_of_note (notes.LineRefused u fault None) = None
line_of_note (notes.LineRefused u fault (Some shown)) = one_of_ups u kinds.RefusedStatus
line_of_note (notes.OrderEnded u id number) = one_of_ups u (kind_of_end number)
line_of_note (notes.LoggedIn u who) = one_of_user u who kinds.LoggedIn
line_of_note (notes.LoggedOut u who) = one_of_user u who kinds.LoggedOut
line_of_note (notes.Did deed) = Some (line_of_deed deed)

-- A driver may report all, and only then that it is right: it wasn't stale between.
abbrev pub is_good : DataState → Bool
is_good states.Good = true
is_good _ = false

abbrev pub makes_good : ℕ → Note → Bool
makes_good place (notes.Data v state) = v.place == place && is_good state
makes_good place _ = false

abbrev pub unknown : Driver
unknown = record { refused = (0, None); error = None; state = states.Lost; awaited = None }

abbrev pub driver_at : ℕ → List Driver → Driver
driver_at place drivers = slice_index_or drivers place unknown

abbrev pub is_hidden : List Note → Note → List Driver → Bool
is_hidden all (notes.Data u state) drivers =
    is_first_stale state (driver_at u.place drivers) && list_any (makes_good u.place) all
is_hidden all _ drivers = false

-- The line that is due of a note.
abbrev pub due_of : List Note → Note → List Driver → Option Line
due_of all note drivers = if is_hidden all note drivers then None else line_of_note note

-- What is kept of a driver by a note.
abbrev pub drivers_after : ℕ → Note → List Driver → List Driver
drivers_after moment (notes.Data u state) drivers =
    slice_set drivers u.place (after_state state moment (driver_at u.place drivers))
drivers_after moment (notes.LineRefused u fault shown) drivers =
    let was = driver_at u.place drivers in
    slice_set drivers u.place (record was { refused = (one_more was.refused.0, fault) })
drivers_after moment _ drivers = drivers

abbrev pub drivers_along : ℕ → List Note → List Driver → List Driver
drivers_along moment [] drivers = drivers
drivers_along moment (note ∷ later) drivers =
    drivers_along moment later (drivers_after moment note drivers)

-- The lines that are due of the notes of an event, in their order.
abbrev pub dues_along : ℕ → List Note → List Note → List Driver → List (Option Line)
dues_along moment all [] drivers = []
dues_along moment all (note ∷ later) drivers =
    due_of all note drivers ∷ dues_along moment all later (drivers_after moment note drivers)

abbrev pub dues_of : ℕ → List Note → List Driver → List (Option Line)
dues_of moment all drivers = dues_along moment all all drivers

-- The line of a client that the server ended.
abbrev pub one_of_client : List ℕ → Kind → Option Line
one_of_client address kind = Some (record { whose = of_client address; kind = kind })

abbrev pub left_by : Leave → List ℕ → Option Line
left_by (leaves.Silent seconds) address = one_of_client address kinds.Silent
left_by (leaves.GaveWay to seconds) address = one_of_client address kinds.GaveWay
left_by _ address = None

abbrev pub left_due : Doings → Option Line
left_due doings = option_map_or (λ left. left_by left.1 left.0.now) doings.left None

-- A line that is due is logged, or is counted. One that is logged waits for standard error, with its
-- priority and the name of its UPS. Of one that is counted nothing waits.
abbrev pub after_due : Option Line → Tallies → Tallies
after_due None all = all
after_due (Some line) all = after_line_of line.whose line.kind all

abbrev pub due_now : Whose → Kind → Tallies → Option ℕ
due_now whose kind all = if is_line_logged whose kind all then Some (priority_of kind) else None

abbrev pub DueMore : List Ups → Option Line → Tallies → LogBuffer → LogBuffer → Type 0
DueMore list None all old new = new ≡ old
DueMore list (Some line) all old new =
    PlaceMore (due_now line.whose line.kind all) (ups_of list line.whose) old new

-- Such lines, one after another: each of them, and no other.
abbrev pub after_dues : List (Option Line) → Tallies → Tallies
after_dues [] all = all
after_dues (due ∷ later) all = after_dues later (after_due due all)

abbrev pub DuesMore : List Ups → List (Option Line) → Tallies → LogBuffer → LogBuffer → Type 0
DuesMore list [] all old new = new ≡ old
DuesMore list (due ∷ later) all old new =
    (next : LogBuffer) × DueMore list due all old next
    × DuesMore list later (after_due due all) next new
