-- How often an id stands in a list.
use Rattle.std.proofs.Common.{◌≡◌, ℕ, zero, suc, ◌+◌, ◌<◌, ◌≤◌, ◌==◌}
use Rattle.std.proofs.Common.{◌⊎◌, cond, List, [], ◌∷◌, ◌++◌, length, map, drop}
use Rattle.std.proofs.Common.{get_or, Bool, true, false, true≢false, inl, inr, arith, refl}
use Rattle.std.proofs.Common.{◌∙◌}
use Rattle.std.proofs.lemmas.Bool.Decides.{nat_tests}
use Rattle.std.proofs.lemmas.List.Sums.{sum_by-cons, sum_by-append}
use Rattle.std.specs.List.{list_any}
use Rattle.nuttracking.specs.Sound.{times}
use Rattle.nuttracking.specs.Tracking.{has_id}
use Rattle.nuttracking.specs.declared.order.TrackedOrder.{TrackedOrder}
use Rattle.std.proofs.lemmas.Bool.{cases_Bool}

abbrev pub one_if : ℕ → ℕ → ℕ
one_if id other = cond (other == id) 1 0

abbrev pub order_ids : List TrackedOrder → List ℕ
order_ids orders = map (λ order. order.id) orders

pub times_cons : (id other : ℕ) (ids : List ℕ) → times id (other ∷ ids) ≡ one_if id other + times id ids
times_cons id other ids = sum_by-cons (one_if id) other ids

pub times_append : (id : ℕ) (xs ys : List ℕ) → times id (xs ++ ys) ≡ times id xs + times id ys
times_append id xs ys = sum_by-append (one_if id) xs ys

pub times_push : (id other : ℕ) (ids : List ℕ) → times id (ids ++ other ∷ []) ≡ times id ids + one_if id other
times_push id other ids = omega (arith, times_append id ids (other ∷ []), times_cons id other [])

pub one_if_same : (id : ℕ) → one_if id id ≡ 1
one_if_same id = grind (arith, nat_tests)

-- an id that isn't found stands there never
pub not_at_hand : (id : ℕ) (ids : List ℕ) → list_any (λ other. other == id) ids ≡ false → times id ids ≡ 0
not_at_hand id [] e = refl
not_at_hand id (x ∷ ids) e = elim (cases_Bool (x == id)) [
  | inl is ↦ absurd (true≢false (rw is at e))
  | inr other ↦ times_cons id x ids ∙ rw (other, not_at_hand id ids (rw other at e)) refl
]

pub not_kept : (id : ℕ) (orders : List TrackedOrder) → list_any (has_id id) orders ≡ false →
    times id (order_ids orders) ≡ 0
not_kept id [] e = refl
not_kept id (x ∷ orders) e = elim (cases_Bool (x.id == id)) [
  | inl is ↦ absurd (true≢false (rw is at e))
  | inr other ↦ times_cons id x.id (order_ids orders) ∙ rw (other, not_kept id orders (rw other at e)) refl
]

-- an order that is there has its id there
pub there : (id : ℕ) (orders : List TrackedOrder) (at : ℕ) (d : TrackedOrder) → at <
    length orders → (get_or orders at d).id ≡ id → 1 ≤ times id (order_ids orders)
there id [] at d h e = absurd (omega arith)
there id (x ∷ orders) zero d h e = rw (times_cons id x.id (order_ids orders), e, one_if_same id) (omega arith)
there id (x ∷ orders) (suc at) d h e =
    omega (arith, times_cons id x.id (order_ids orders), there id orders at d (omega arith) e)

-- what is dropped isn't counted
pub times_dropped : (id k : ℕ) (orders : List TrackedOrder) →
    times id (order_ids (drop k orders)) ≤ times id (order_ids orders)
times_dropped id zero orders = omega arith
times_dropped id (suc k) [] = omega arith
times_dropped id (suc k) (x ∷ orders) =
    omega (arith, times_cons id x.id (order_ids orders), times_dropped id k orders)
