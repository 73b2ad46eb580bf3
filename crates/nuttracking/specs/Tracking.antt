-- The available ids and the kept orders, and what each call does to them.
use Rattle.std.specs.Prelude.{ℕ, ◌^◌, ◌-◌, Bool, true, false, ◌==◌, ◌&&◌, ◌||◌, nat_le, nat_lt, List, []}
use Rattle.std.specs.Prelude.{◌∷◌, ◌++◌, Option, Some, None, is_none, length, map, drop, slice_get}
use Rattle.std.specs.Prelude.{if◌then◌else◌}
use Rattle.std.specs.List.{find, list_any}
use Rattle.std.specs.Option.{option_map, option_map_or}
use Rattle.circular_buffer.specs.Buffer.{keep_last}
use Rattle.nuttracking.specs.declared.limits.TheConstants.{ID_LIMIT, ORDER_LIMIT}
use Rattle.nuttracking.specs.declared.order.Progress.{Progress}
use Rattle.nuttracking.specs.declared.order.Progress.TheVariants.{Pending, Done}
use Rattle.nuttracking.specs.declared.order.TrackedOrder.{TrackedOrder}
use Rattle.nuttracking.specs.declared.tracking.IdFault.{IdFault}
use Rattle.nuttracking.specs.declared.tracking.IdFault.TheVariants.{Known, TooMany}

-- ids: the available ones, from the first that was handed in. orders: those that are kept, from the
-- oldest.
pub record TrackingState : Type 0 where
  pub ids : List ℕ
  pub orders : List TrackedOrder

abbrev pub nothing_tracked : TrackingState
nothing_tracked = record { ids = []; orders = [] }

-- ---- ids

abbrev pub has_id : ℕ → TrackedOrder → Bool
has_id id order = order.id == id

-- An id is known where it is available, or an order that is kept has it.
abbrev pub is_known : ℕ → TrackingState → Bool
is_known id t = list_any (λ other. other == id) t.ids || list_any (has_id id) t.orders

-- Why an id isn't taken in.
abbrev pub id_fault : ℕ → TrackingState → Option IdFault
id_fault id t =
    if is_known id t then Some Known
    else if nat_le ID_LIMIT (length t.ids) then Some TooMany
    else None

-- It is taken in where that has no fault. A number of more than 128 bits is no id.
abbrev pub is_taken_in : ℕ → TrackingState → Bool
is_taken_in id t = is_none (id_fault id t) && nat_lt id (2 ^ 128)

-- An id is handed in: one that is taken in comes after the available ones.
abbrev pub with_id : ℕ → TrackingState → TrackingState
with_id id t = if is_taken_in id t then record t { ids = t.ids ++ id ∷ [] } else t

-- How many ids may still be handed in.
abbrev pub missing_ids : TrackingState → ℕ
missing_ids t = ID_LIMIT - length t.ids

-- The id that the next order uses.
abbrev pub next_id : TrackingState → Option ℕ
next_id t = slice_get t.ids 0

-- ---- orders

abbrev pub pending : ℕ → ℕ → TrackedOrder
pending place id = record { id = id; place = place; progress = Pending }

-- The first available id is used for an order to the driver of the UPS at this place, which is
-- kept; of more than may be kept the oldest goes.
abbrev pub with_order : ℕ → TrackingState → TrackingState
with_order place t =
    option_map_or (λ id. record {
      ids = drop 1 t.ids;
      orders = keep_last ORDER_LIMIT (t.orders ++ pending place id ∷ []);
    }) (next_id t) t

abbrev pub is_pending : Progress → Bool
is_pending Pending = true
is_pending (Done number) = false

-- The order waits for the report on this id by the driver of the UPS at this place.
abbrev pub awaits : ℕ → ℕ → TrackedOrder → Bool
awaits place id order = has_id id order && (order.place == place && is_pending order.progress)

abbrev pub is_awaited : ℕ → ℕ → TrackingState → Bool
is_awaited place id t = list_any (awaits place id) t.orders

-- That report comes, with this number.
abbrev pub settled : ℕ → ℕ → ℕ → TrackedOrder → TrackedOrder
settled place id number order =
    if awaits place id order then record order { progress = Done number } else order

abbrev pub with_report : ℕ → ℕ → ℕ → TrackingState → TrackingState
with_report place id number t = record t { orders = map (settled place id number) t.orders }

-- How far the order of this id has come.
abbrev pub progress_of : ℕ → TrackingState → Option Progress
progress_of id t = option_map (λ order. order.progress) (find (has_id id) t.orders)
