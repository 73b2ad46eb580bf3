-- What holds of every state of ids and orders.
use Rattle.std.specs.Prelude.{◌≡◌, ◌≤◌, ⊤, ℕ, ◌^◌, ◌==◌, List, ◌++◌, length, map, All}
use Rattle.std.specs.List.{count_by}
use Rattle.nuttracking.specs.declared.limits.TheConstants.{ID_LIMIT, ORDER_LIMIT, DONE_LIMIT}
use Rattle.nuttracking.specs.declared.order.Progress.{Progress}
use Rattle.nuttracking.specs.declared.order.Progress.TheVariants.{Pending, Done}
use Rattle.nuttracking.specs.declared.order.TrackedOrder.{TrackedOrder}
use Rattle.nuttracking.specs.Id.{id_text}
use Rattle.nuttracking.specs.Tracking.{TrackingState}

-- How often the id is there.
abbrev pub times : ℕ → List ℕ → ℕ
times id ids = count_by (λ other. other == id) ids

-- The available ids, and those of the orders that are kept.
abbrev pub known_ids : TrackingState → List ℕ
known_ids t = t.ids ++ map (λ order. order.id) t.orders

-- No more ids are available, and no more orders are kept, than may be. An id is a number of 128
-- bits. It stands for one thing: it is available, once, or one order that is kept has it.
pub record IsSoundTracking (t : TrackingState) : Type 0 where
  pub ids_few : length t.ids ≤ ID_LIMIT
  pub orders_few : length t.orders ≤ ORDER_LIMIT
  pub small : (id : ℕ) → 2 ^ 128 ≤ id → times id (known_ids t) ≡ 0
  pub once : (id : ℕ) → times id (known_ids t) ≤ 1

-- So no two that are known are written alike.
abbrev pub KnownIdsAreWrittenApart : Type 0
KnownIdsAreWrittenApart =
    (t : TrackingState) (one other : ℕ) → IsSoundTracking t → 1 ≤ times one (known_ids t)
    → 1 ≤ times other (known_ids t) → id_text one ≡ id_text other → one ≡ other

abbrev pub IsLawfulProgress : Progress → Type 0
IsLawfulProgress Pending = ⊤
IsLawfulProgress (Done number) = number ≤ DONE_LIMIT

-- The numbers with which orders are done are at most the greatest.
abbrev pub HaveLawfulNumbers : List TrackedOrder → Type 0
HaveLawfulNumbers orders = All (λ order. IsLawfulProgress order.progress) orders
