-- What a run of calls logs and counts: together all lines of its notes.
use Rattle.std.specs.Prelude.{◌≡◌, ℕ, ◌+◌, ◌-◌, ◌^◌, ◌<◌, ◌==◌, ◌&&◌, Bool, true, false, List, [], ◌∷◌}
use Rattle.std.specs.Prelude.{Option, Some, None, if◌then◌else◌, length, nat_eq, nat_lt, not, is_some}
use Rattle.std.specs.Prelude.{◌++◌, ◌≤◌, ◌⊎◌, All, slice_get, unwrap_or}
use Rattle.std.specs.Option.{option_eq, option_map_or}
use Rattle.nutcore.specs.declared.note.Deed.{Deed}
use Rattle.nutcore.specs.declared.note.Note.{Note}
use Rattle.nutcore.specs.Server.{ServerState}
use Rattle.nutjournal.specs.declared.doings.Doings.{Doings}
use Rattle.nutjournal.specs.declared.drivers.Driver.{Driver}
use Rattle.nutjournal.specs.declared.journal.Journal.{Journal}
use Rattle.nutjournal.specs.declared.tallies.Tallies.{Tallies}
use Rattle.nutjournal.specs.declared.tallies.TheConstants.{ORDER_COUNT}
use Rattle.nutjournal.specs.declared.tally.Kind.{Kind}
use Rattle.nutjournal.specs.declared.tally.Tally.{Tally}
use Rattle.nutjournal.specs.Calls.{IsCall, dues_of_call, tally_places}
use Rattle.nutjournal.specs.Lines.{Line, after_due, after_dues, due_now}
use Rattle.nutjournal.specs.LogBuffer.{Place}
use Rattle.nutjournal.specs.Network.{network_of}
use Rattle.nutjournal.specs.Tallies.{Whose, of_client, of_order, of_refused, of_ups, of_user}
use Rattle.nutjournal.specs.Tallies.{after_second_of, fresh, is_fsd, is_line_logged, is_order_of, order_of, place_of, ups_of}
use Rattle.nutjournal.specs.Tally.{begins_minute, count, is_reported, is_same, one_if}
use Rattle.nutjournal.specs.Written.{Come}
use Rattle.nutusers.specs.UpsList.{Ups}

-- A call: the server and its notes, what the sockets did, and what was known of the drivers then.
pub record Call : Type 0 where
  pub state : ServerState
  pub notes : List Note
  pub doings : Doings
  pub drivers : List Driver

abbrev pub dues : Call → List (Option Line)
dues call = dues_of_call call.state call.notes call.doings call.drivers

-- One call after another, of one journal.
abbrev pub Run : List Call → Journal → Journal → Type 0
Run [] old new = new ≡ old
Run (call ∷ later) old new =
    (next : Journal) × (is : IsCall call.state call.notes call.doings old next)
    × (call.drivers ≡ is.begun.drivers) × Run later next new

-- Which tally: that of a UPS, or that of the users or of the clients of an address.
pub data Group : Type 0 where
  upses : Group
  users : Group
  clients : Group

pub record Slot : Type 0 where
  pub group : Group
  pub place : ℕ

abbrev pub is_same_group : Group → Group → Bool
is_same_group upses upses = true
is_same_group users users = true
is_same_group clients clients = true
is_same_group _ _ = false

abbrev pub is_same_slot : Slot → Slot → Bool
is_same_slot one other = is_same_group one.group other.group && one.place == other.place

abbrev pub tallies_of : Group → Tallies → List Tally
tallies_of upses all = all.upses
tallies_of users all = all.users.tallies
tallies_of clients all = all.clients.tallies

abbrev pub tally_at : Slot → Tallies → Tally
tally_at slot all = unwrap_or (slice_get (tallies_of slot.group all) slot.place) fresh

pub record IsSlot (slot : Slot) (all : Tallies) : Type 0 where
  pub within : slot.place < length (tallies_of slot.group all)
  pub size : length (tally_at slot all).more ≡ 20

abbrev pub slot_of : Whose → Tallies → Slot
slot_of (of_ups u) all = record { group = upses; place = u.place }
slot_of (of_user u who) all =
    record { group = users; place = place_of who.address all.users.addresses.items }
slot_of (of_order deed) all =
    record { group = users; place = place_of deed.who.address all.users.addresses.items }
slot_of (of_refused deed) all =
    record { group = clients; place = place_of (network_of deed.who.address) all.clients.addresses.items }
slot_of (of_client address) all =
    record { group = clients; place = place_of (network_of address) all.clients.addresses.items }

-- A line of a kind comes for a tally, and is logged.
abbrev pub counts_for : Slot → Kind → Line → Tallies → Bool
counts_for slot kind line all = is_same kind line.kind && is_same_slot slot (slot_of line.whose all)

abbrev pub is_logged_for : Slot → Kind → Line → Tallies → Bool
is_logged_for slot kind line all =
    counts_for slot kind line all && is_line_logged line.whose line.kind all

-- Of how many lines that holds, one after another.
abbrev pub times_of : (Line → Tallies → Bool) → List (Option Line) → Tallies → ℕ
times_of holds [] all = 0
times_of holds (due ∷ later) all =
    option_map_or (λ line. one_if (holds line all)) due 0 + times_of holds later (after_due due all)

-- A second begins with a call that isn't in that of the one before.
abbrev pub begins : Option ℕ → ℕ → Bool
begins was now = not (option_eq nat_eq was (Some now))

abbrev pub tallies_begun : Option ℕ → Call → Tallies → Tallies
tallies_begun was call all =
    if begins was call.state.moment
    then after_second_of (length call.state.list) (begins_minute was call.state.moment) all else all

-- So many tallies may have a line then: those of the UPSs, and of the addresses and all others.
abbrev pub used : Group → Call → Tallies → ℕ
used upses call all = length call.state.list
used users call all = length all.users.addresses.items + 1
used clients call all = length all.clients.addresses.items + 1

abbrev pub is_reported_in : Slot → Option ℕ → Call → Tallies → Bool
is_reported_in slot was call all =
    begins was call.state.moment
    && (nat_lt slot.place (used slot.group call all)
    && is_reported (tally_at slot all) (begins_minute was call.state.moment))

-- How many lines a call reports, and of how many that come in it something holds.
abbrev pub reported_in : Slot → Kind → Option ℕ → Call → Tallies → ℕ
reported_in slot kind was call all =
    if is_reported_in slot was call all then count kind (tally_at slot all) else 0

abbrev pub times_in : (Line → Tallies → Bool) → Option ℕ → Call → Tallies → ℕ
times_in holds was call all = times_of holds (dues call) (tallies_begun was call all)

-- So many in all calls of a run.
abbrev pub tallies_after : Option ℕ → Call → Tallies → Tallies
tallies_after was call all = after_dues (dues call) (tallies_begun was call all)

abbrev pub in_run : (Option ℕ → Call → Tallies → ℕ) → List Call → Option ℕ → Tallies → ℕ
in_run number [] was all = 0
in_run number (call ∷ later) was all =
    number was call all + in_run number later (Some call.state.moment) (tallies_after was call all)

abbrev pub lines_in : (Line → Tallies → Bool) → List Call → Journal → ℕ
lines_in holds calls old = in_run (times_in holds) calls old.moment old.tallies

abbrev pub all_reported : Slot → Kind → List Call → Journal → ℕ
all_reported slot kind calls old = in_run (reported_in slot kind) calls old.moment old.tallies

-- The lines that come to the buffer: where a second begins those of the counts, then those of the
-- notes. One that isn't due has no priority.
abbrev pub note_places : List Ups → List (Option Line) → Tallies → List Place
note_places list [] all = []
note_places list (None ∷ later) all = note_places list later all
note_places list (Some line ∷ later) all =
    record { due = due_now line.whose line.kind all; ups = ups_of list line.whose }
    ∷ note_places list later (after_due (Some line) all)

abbrev pub count_places : Option ℕ → Call → Tallies → List Place
count_places was call all =
    if begins was call.state.moment
    then tally_places (begins_minute was call.state.moment) call.state.list all else []

abbrev pub run_places : List Call → Option ℕ → Tallies → List Place
run_places [] was all = []
run_places (call ∷ later) was all =
    (count_places was call all
    ++ note_places call.state.list (dues call) (tallies_begun was call all))
    ++ run_places later (Some call.state.moment) (tallies_after was call all)

-- What is counted has a priority: its line is due, once it is reported.
abbrev pub HasPriority : Kind → Tally → Type 0
HasPriority kind y = 0 < count kind y → is_some y.worst ≡ true

-- In a run, the lines that are logged, those that are reported by their number and those that are
-- still counted at its end are together those that were counted at its beginning and all that came.
-- What is counted has its line. The lines of the counts and of the notes come in their order.
pub record LoggedAndCountedAreAll : Type 0 where
  pub all : (slot : Slot) (kind : Kind) (calls : List Call) (old new : Journal)
      → Run calls old new → IsSlot slot old.tallies
      → count kind (tally_at slot old.tallies) + lines_in (counts_for slot kind) calls old < 2 ^ 64 - 1
      → lines_in (is_logged_for slot kind) calls old
      + (all_reported slot kind calls old + count kind (tally_at slot new.tallies))
      ≡ count kind (tally_at slot old.tallies) + lines_in (counts_for slot kind) calls old
  pub has_line : (slot : Slot) (kind : Kind) (calls : List Call) (old new : Journal)
      → Run calls old new → IsSlot slot old.tallies
      → count kind (tally_at slot old.tallies) + lines_in (counts_for slot kind) calls old < 2 ^ 64 - 1
      → HasPriority kind (tally_at slot old.tallies) → HasPriority kind (tally_at slot new.tallies)
  pub lines : (calls : List Call) (old new : Journal) → Run calls old new
      → Come (run_places calls old.moment old.tallies) old.log new.log

-- An order of the same user, at the same UPS, that asks for the same, is logged.
abbrev pub is_same_order : Deed → Whose → Bool
is_same_order deed (of_order other) = is_order_of deed (order_of other)
is_same_order deed _ = false

abbrev pub is_logged_like : Deed → Line → Tallies → Bool
is_logged_like deed line all =
    is_same_order deed line.whose && is_line_logged line.whose line.kind all

abbrev pub dues_of_all : List Call → List (Option Line)
dues_of_all [] = []
dues_of_all (call ∷ later) = dues call ++ dues_of_all later

-- The line of an order is logged, or that of the same order was before, or there are 64 others, and
-- it is no forced shutdown.
abbrev pub HasItsLine : Deed → Kind → List (Option Line) → Tallies → Type 0
HasItsLine deed kind before all =
    (is_line_logged (of_order deed) kind (after_dues before all) ≡ true)
    ⊎ ((0 < times_of (is_logged_like deed) before all)
    ⊎ ((ORDER_COUNT ≤ length (after_dues before all).orders.items) × (is_fsd deed.verb ≡ false)))

-- The lines of the calls of a second are as those of one call that begins it, with no order given.
-- Whatever comes before it there, each order that is granted has its line.
pub record EachOrderHasItsLine : Type 0 where
  pub second : (call : Call) (later : List Call) (old new : Journal) → Run (call ∷ later) old new
      → begins old.moment call.state.moment ≡ true
      → All (λ next. next.state.moment ≡ call.state.moment) later
      → (new.tallies ≡ after_dues (dues_of_all (call ∷ later)) (tallies_begun old.moment call old.tallies))
      × ((tallies_begun old.moment call old.tallies).orders.items ≡ [])
  pub order : (all : Tallies) (before : List (Option Line)) (deed : Deed) (kind : Kind)
      → all.orders.items ≡ [] → HasItsLine deed kind before all
