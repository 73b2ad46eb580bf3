-- What holds of ids and orders, whatever is done.
use Rattle.std.specs.Prelude.{◌≡◌, ◌<◌, ◌≤◌, ⊤, ℕ, List, ◌++◌, Some, length, map}
use Rattle.circular_buffer.specs.Buffer.{keep_last}
use Rattle.nuttracking.specs.declared.limits.TheConstants.{ORDER_LIMIT, DONE_LIMIT}
use Rattle.nuttracking.specs.declared.order.TrackedOrder.{TrackedOrder}
use Rattle.nuttracking.specs.Acts.{Act, Given, after_act, after_acts, taken_in, given, first_report}
use Rattle.nuttracking.specs.Acts.Act.{reported}
use Rattle.nuttracking.specs.Sound.{IsSoundTracking, HaveLawfulNumbers}
use Rattle.nuttracking.specs.Tracking.{TrackingState, next_id, with_order, progress_of}

-- The ids that were used, in order, and then the available ones are the ids that were available and
-- were taken in, in order: each is used once, the first one first.
abbrev pub FirstInFirstOut : Type 0
FirstInFirstOut =
    (t : TrackingState) (acts : List Act)
    → map (λ order. order.id) (given t acts) ++ (after_acts t acts).ids
    ≡ t.ids ++ taken_in t acts

-- An order that is kept, as it was given.
abbrev pub as_given : TrackedOrder → Given
as_given order = record { place = order.place; id = order.id }

-- The orders that are kept are the last that were given, as many as may be kept: the oldest goes
-- first, and nothing else takes one away or puts one in.
abbrev pub TheLastAreKept : Type 0
TheLastAreKept =
    (t : TrackingState) (acts : List Act) → IsSoundTracking t
    → map as_given (after_acts t acts).orders
    ≡ keep_last ORDER_LIMIT (map as_given t.orders ++ given t acts)

-- Whatever is done, an id stands for one order, and there are no more ids and orders than may be.
abbrev pub ActsKeepItSound : Type 0
ActsKeepItSound =
    (t : TrackingState) (acts : List Act) → IsSoundTracking t → IsSoundTracking (after_acts t acts)

-- The number that is reported, if one is, is one that an order may be done with.
abbrev pub IsLawfulAct : Act → Type 0
IsLawfulAct (reported place id number) = number ≤ DONE_LIMIT
IsLawfulAct _ = ⊤

-- Each lawful act keeps the numbers with which orders are done lawful.
abbrev pub LawfulActsKeepNumbersLawful : Type 0
LawfulActsKeepNumbersLawful =
    (t : TrackingState) (act : Act) → IsLawfulAct act → HaveLawfulNumbers t.orders
    → HaveLawfulNumbers (after_act t act).orders

-- The state of an order, from when it was given, for as long as it is kept: it is pending, up to
-- the first report on its id by its own driver; from then on it is what that said.
abbrev pub ItsDriverSettlesItOnce : Type 0
ItsDriverSettlesItOnce =
    (t : TrackingState) (place id : ℕ) (later : List Act) → IsSoundTracking t
    → next_id t ≡ Some id
    → length (given (with_order place t) later) < ORDER_LIMIT
    → progress_of id (after_acts (with_order place t) later)
    ≡ Some (first_report place id later)
