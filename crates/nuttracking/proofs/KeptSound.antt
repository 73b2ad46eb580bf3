-- What the operations keep.
use Rattle.std.proofs.Common.{◌≡◌, ℕ, zero, suc, ◌+◌, ◌-◌, ◌^◌, ◌<◌}
use Rattle.std.proofs.Common.{◌≤◌, ◌==◌, ◌⊎◌, ◌||◌, List, [], ◌∷◌}
use Rattle.std.proofs.Common.{◌++◌, length, map, drop, get_or, set, Bool, true, false}
use Rattle.std.proofs.Common.{true≢false, not, inl, inr, nat_lt, slice_get, Option, Some, None}
use Rattle.std.proofs.Common.{is_some, unwrap_or, arith, refl, sym, ap, ◌∙◌, length-append}
use Rattle.std.proofs.Common.{length-drop}
use Rattle.std.proofs.lemmas.Bool.{eqb-true, or_parts, cases_Bool}
use Rattle.std.proofs.lemmas.Bool.Decides.{nat_tests}
use Rattle.std.proofs.lemmas.List.{length-map, map_push}
use Rattle.std.proofs.lemmas.List.Elements.{All-nil, All-cons, All-drop, All-append, All-map}
use Rattle.std.specs.List.{list_any, prefix_len, position, position_or_len}
use Rattle.circular_buffer.specs.Buffer.{keep_last}
use Rattle.nuttracking.proofs.Counts.{one_if, order_ids, times_cons, times_append, times_push}
use Rattle.nuttracking.proofs.Counts.{one_if_same, not_at_hand, not_kept, there, times_dropped}
use Rattle.nuttracking.specs.Sound.{times, IsLawfulProgress, IsSoundTracking, HaveLawfulNumbers}
use Rattle.nuttracking.specs.Tracking.{TrackingState, has_id, is_known, pending, awaits, settled}
use Rattle.nuttracking.specs.declared.limits.TheConstants.{ID_LIMIT, ORDER_LIMIT, DONE_LIMIT}
use Rattle.nuttracking.specs.declared.order.Progress.TheVariants.{Done}
use Rattle.nuttracking.specs.declared.order.TrackedOrder.{TrackedOrder}

-- ---- an id more

one_more : (id j : ℕ) (xs ys : List ℕ) → times id xs ≡ 0 → times id ys ≡ 0 →
    times j (xs ++ ys) ≤ 1 → times j ((xs ++ id ∷ []) ++ ys) ≤ 1
one_more id j xs ys here kept once =
    let before = times_append j xs ys in
    let after = times_append j (xs ++ id ∷ []) ys in
    let more = times_push j id xs in
    elim (cases_Bool (id == j)) [
      | inl same ↦
          let is : id ≡ j = eqb-true id j same in
          let no_x : times j xs ≡ 0 = rw (← is) here in
          let no_y : times j ys ≡ 0 = rw (← is) kept in
          let one : one_if j id ≡ 1 = rw same refl in
          omega arith
      | inr other ↦
          let none : one_if j id ≡ 0 = rw other refl in
          omega arith
    ]

-- no number that is too great
small_more : (id j k : ℕ) (xs ys : List ℕ) → id < k → k ≤ j → times j (xs ++ ys) ≡
    0 → times j ((xs ++ id ∷ []) ++ ys) ≡ 0
small_more id j k xs ys below above none =
    let before = times_append j xs ys in
    let after = times_append j (xs ++ id ∷ []) ys in
    let more = times_push j id xs in
    let other : one_if j id ≡ 0 = grind (arith, nat_tests) in
    omega arith

pub sound_with_id : (t : TrackingState) (id : ℕ) → IsSoundTracking t → is_known id t ≡
    false → length t.ids < ID_LIMIT → id < 2 ^ 128
    → IsSoundTracking (record { ids = t.ids ++ id ∷ []; orders = t.orders })
sound_with_id t id s unknown room small =
    let parts = or_parts (list_any (λ (other : ℕ). other == id) t.ids) (list_any (has_id id) t.orders) unknown in
    record {
      ids_few = omega (arith, length-append t.ids (id ∷ []));
      orders_few = s.orders_few;
      small = λ j h. small_more id j (2 ^ 128) t.ids (order_ids t.orders) small h (s.small j h);
      once = λ j. one_more id j t.ids (order_ids t.orders) (not_at_hand id t.ids parts.0)
          (not_kept id t.orders parts.1) (s.once j);
    }

-- ---- an order more

no_more_used : (place id j k : ℕ) (rest : List ℕ) (orders : List TrackedOrder)
    → times j (rest ++ order_ids (drop k (orders ++ pending place id ∷ []))) ≤
    times j ((id ∷ rest) ++ order_ids orders)
no_more_used place id j k rest orders =
    let before = times_append j (id ∷ rest) (order_ids orders) in
    let first = times_cons j id rest in
    let after = times_append j rest (order_ids (drop k (orders ++ pending place id ∷ []))) in
    let dropped = times_dropped j k (orders ++ pending place id ∷ []) in
    let pushed : times j (order_ids (orders ++ pending place id ∷ [])) ≡ times j (order_ids orders) + one_if j id =
    ap (times j) (map_push (λ (order : TrackedOrder). order.id) orders (pending place id)) ∙
    times_push j id (order_ids orders) in
    omega arith

once_used : (place id j k : ℕ) (rest : List ℕ) (orders : List TrackedOrder) →
    times j ((id ∷ rest) ++ order_ids orders) ≤ 1
    → times j (rest ++ order_ids (drop k (orders ++ pending place id ∷ []))) ≤ 1
once_used place id j k rest orders once = omega (arith, no_more_used place id j k rest orders)

small_used : (place id j k : ℕ) (rest : List ℕ) (orders : List TrackedOrder) →
    times j ((id ∷ rest) ++ order_ids orders) ≡ 0
    → times j (rest ++ order_ids (drop k (orders ++ pending place id ∷ []))) ≡ 0
small_used place id j k rest orders none = omega (arith, no_more_used place id j k rest orders)

abbrev Lawful : TrackedOrder → Type 0
Lawful order = IsLawfulProgress order.progress

pub lawful_with_order : (place id k : ℕ) (orders : List TrackedOrder) →
    HaveLawfulNumbers orders → HaveLawfulNumbers (drop k (orders ++ pending place id ∷ []))
lawful_with_order place id k orders all =
    All-drop Lawful k (orders ++ pending place id ∷ [])
    (All-append Lawful orders (pending place id ∷ []) all (All-cons Lawful (pending place id) [] tt (All-nil Lawful)))

pub sound_with_order : (place id : ℕ) (rest : List ℕ) (orders : List TrackedOrder) →
    IsSoundTracking (record { ids = id ∷ rest; orders = orders })
    → IsSoundTracking (record { ids = rest; orders = keep_last ORDER_LIMIT (orders ++ pending place id ∷ []) })
sound_with_order place id rest orders s =
    let all : List TrackedOrder = orders ++ pending place id ∷ [] in
    record {
      ids_few = omega (arith, s.ids_few);
      orders_few = omega (arith, length-drop (length all - ORDER_LIMIT) all);
      small = λ j h. small_used place id j (length all - ORDER_LIMIT) rest orders (s.small j h);
      once = λ j. once_used place id j (length all - ORDER_LIMIT) rest orders (s.once j);
    }

-- ---- a report

settled_id : (place id number : ℕ) (order : TrackedOrder) → (settled place id number order).id ≡ order.id
settled_id place id number order = elim (cases_Bool (awaits place id order)) [
  | inl is ↦ rw is refl
  | inr not ↦ rw not refl
]

pub ids_settled : (place id number : ℕ) (orders : List TrackedOrder) →
    order_ids (map (settled place id number) orders) ≡ order_ids orders
ids_settled place id number [] = refl
ids_settled place id number (x ∷ orders) =
    ap (λ (i : ℕ). i ∷ order_ids (map (settled place id number) orders)) (settled_id place id number x)
    ∙ ap (λ (l : List ℕ). x.id ∷ l) (ids_settled place id number orders)

settled_lawful : (place id number : ℕ) (order : TrackedOrder) → number ≤ DONE_LIMIT →
    IsLawfulProgress order.progress → IsLawfulProgress (settled place id number order).progress
settled_lawful place id number order h p = elim (cases_Bool (awaits place id order)) [
  | inl is ↦ rw is h
  | inr not ↦ rw not p
]

pub lawful_settled : (place id number : ℕ) (orders : List TrackedOrder) → number ≤
    DONE_LIMIT → HaveLawfulNumbers orders → HaveLawfulNumbers (map (settled place id number) orders)
lawful_settled place id number orders h all =
    All-map Lawful (settled place id number) orders (λ k d lt. settled_lawful place id number _ h (all k d lt))

pub sound_with_report : (t : TrackingState) (place id number : ℕ) → IsSoundTracking t
    → IsSoundTracking (record { ids = t.ids; orders = map (settled place id number) t.orders })
sound_with_report t place id number s = record {
  ids_few = s.ids_few;
  orders_few = rw (length-map t.orders (settled place id number)) s.orders_few;
  small = λ j h. rw (ids_settled place id number t.orders) (s.small j h);
  once = λ j. rw (ids_settled place id number t.orders) (s.once j);
}

-- ---- the one order that a report settles

unless_awaited : (place id number : ℕ) (order : TrackedOrder) → awaits place id order ≡
    false → settled place id number order ≡ order
unless_awaited place id number order e = rw e refl

pub nothing_settled : (place id number : ℕ) (orders : List TrackedOrder) →
    list_any (awaits place id) orders ≡ false → map (settled place id number) orders ≡ orders
nothing_settled place id number [] e = refl
nothing_settled place id number (x ∷ orders) e =
    let parts = or_parts (awaits place id x) (list_any (awaits place id) orders) e in
    ap (λ (y : TrackedOrder). y ∷ map (settled place id number) orders) (unless_awaited place id number x parts.0)
    ∙ ap (λ (l : List TrackedOrder). x ∷ l) (nothing_settled place id number orders parts.1)

has_the_id : (place id : ℕ) (order : TrackedOrder) → awaits place id order ≡ true → order.id ≡ id
has_the_id place id order e = elim (cases_Bool (order.id == id)) [
  | inl is ↦ eqb-true order.id id is
  | inr not ↦ absurd (true≢false (sym (rw not at e)))
]

has_not : (place id : ℕ) (order : TrackedOrder) → one_if id order.id ≡ 0 → awaits place id order ≡ false
has_not place id order e = elim (cases_Bool (order.id == id)) [
  | inl is ↦ absurd (omega (arith, rw is at e))
  | inr not ↦ rw not refl
]

none_of_id : (place id number : ℕ) (orders : List TrackedOrder) →
    times id (order_ids orders) ≡ 0 → map (settled place id number) orders ≡ orders
none_of_id place id number [] e = refl
none_of_id place id number (x ∷ orders) e =
    let count = times_cons id x.id (order_ids orders) in
    let first : one_if id x.id ≡ 0 = omega arith in
    let rest : times id (order_ids orders) ≡ 0 = omega arith in
    ap (λ (y : TrackedOrder). y ∷ map (settled place id number) orders)
    (unless_awaited place id number x (has_not place id x first))
    ∙ ap (λ (l : List TrackedOrder). x ∷ l) (none_of_id place id number orders rest)

pub one_settled : (place id number : ℕ) (orders : List TrackedOrder) (at : ℕ) (d : TrackedOrder)
    → at < length orders
    → awaits place id (get_or orders at d) ≡ true → times id (order_ids orders) ≤ 1
    → set orders at (record (get_or orders at d) { progress = Done number }) ≡ map (settled place id number) orders
one_settled place id number [] at d h e once = absurd (omega arith)
one_settled place id number (x ∷ orders) zero d h e once =
    let count = times_cons id x.id (order_ids orders) in
    let it : x.id ≡ id = has_the_id place id x e in
    let one : one_if id x.id ≡ 1 = rw it (one_if_same id) in
    let first : settled place id number x ≡ record x { progress = Done number } = rw e refl in
    ap (λ (y : TrackedOrder). y ∷ orders) (sym first) ∙
    ap (λ (l : List TrackedOrder). settled place id number x ∷ l)
    (sym (none_of_id place id number orders (omega arith)))
one_settled place id number (x ∷ orders) (suc at) d h e once =
    let count = times_cons id x.id (order_ids orders) in
    let later : 1 ≤ times id (order_ids orders) =
    there id orders at d (omega arith) (has_the_id place id (get_or orders at d) e) in
    let first : one_if id x.id ≡ 0 = omega arith in
    ap (λ (y : TrackedOrder). y ∷
    set orders at (record (get_or orders at d) { progress = Done number }))
    (sym (unless_awaited place id number x (has_not place id x first)))
    ∙ ap (λ (l : List TrackedOrder). settled place id number x ∷ l)
    (one_settled place id number orders at d (omega arith) e (omega arith))

-- ---- where no order is found

none_found : {X : Type 0} (p : X → Bool) (xs : List X) → length xs ≤
    prefix_len (λ x. not (p x)) xs → list_any p xs ≡ false
none_found p [] h = refl
none_found p (x ∷ xs) h = elim (cases_Bool (p x)) [
  | inl is ↦ absurd (omega (arith, rw is at h))
  | inr other ↦ rw other (none_found p xs (omega (arith, rw other at h)))
]

pub not_below : (a b : ℕ) → nat_lt a b ≡ false → b ≤ a
not_below a b e = grind (arith, nat_tests)

pub no_position : {X : Type 0} (p : X → Bool) (xs : List X) → position p xs ≡ None → list_any p xs ≡ false
no_position p xs e = elim (cases_Bool (nat_lt (position_or_len p xs) (length xs))) [
  | inl below ↦ absurd (true≢false (ap is_some (rw below at e)))
  | inr past ↦ none_found p xs (not_below (position_or_len p xs) (length xs) past)
]

-- ---- items by their places

pub some_at : {X : Type 0} (xs : List X) (at : ℕ) (x : X) → Some x ≡ slice_get xs at → get_or xs at x ≡ x
some_at [] at x e = refl
some_at {X = X} (y ∷ xs) zero x e = ap (λ (o : Option X). unwrap_or o x) (sym e)
some_at (y ∷ xs) (suc at) x e = some_at xs at x e

pub none_at : {X : Type 0} (xs : List X) (at : ℕ) → None ≡ slice_get xs at → length xs ≤ at
none_at [] at e = omega arith
none_at (y ∷ xs) zero e = absurd (true≢false (sym (ap is_some e)))
none_at (y ∷ xs) (suc at) e = omega (arith, none_at xs at e)

pub kept_all : {X : Type 0} (n : ℕ) (xs : List X) → length xs ≤ n → keep_last n xs ≡ xs
kept_all n xs h = let none : length xs - n ≡ 0 = omega arith in ap (λ (k : ℕ). drop k xs) none

pub room_left : (a b : ℕ) → (a == b) ≡ false → a ≤ b → a < b
room_left a b e h = grind (arith, nat_tests)

pub first_of : {X : Type 0} (xs : List X) (x : X) → Some x ≡ slice_get xs 0 → xs ≡ x ∷ drop 1 xs
first_of [] x e = absurd (true≢false (ap is_some e))
first_of {X = X} (y ∷ xs) x e = ap (λ (o : Option X). unwrap_or o x ∷ xs) (sym e)
