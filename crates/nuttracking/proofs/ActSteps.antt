-- What one act does.
use Rattle.std.proofs.Common.{◌≡◌, ℕ, zero, suc, ◌+◌, ◌-◌, ◌<◌, ◌≤◌}
use Rattle.std.proofs.Common.{◌==◌, ◌⊎◌, List, [], ◌∷◌, ◌++◌, length, map, drop}
use Rattle.std.proofs.Common.{true, false, true≢false, inl, inr, Option, Some, None, is_some}
use Rattle.std.proofs.Common.{unwrap_or, nat_le, nat_lt, ◌^◌, arith, refl, sym, ap, ◌∙◌}
use Rattle.std.proofs.Common.{append_assoc, append-nil, length-append, length-drop}
use Rattle.std.proofs.lemmas.Bool.Decides.{nat_tests}
use Rattle.std.proofs.lemmas.List.{length-map, drop-drop}
use Rattle.std.specs.List.{find}
use Rattle.std.specs.Option.{option_map}
use Rattle.circular_buffer.specs.Buffer.{keep_last}
use Rattle.nuttracking.proofs.Counts.{one_if, order_ids, times_cons, times_append, one_if_same}
use Rattle.nuttracking.proofs.KeptSound.{sound_with_id, sound_with_order, sound_with_report, kept_all}
use Rattle.nuttracking.specs.Acts.{Act, Given, after_act, after_acts, taken_by, given_by, given, first_report}
use Rattle.nuttracking.specs.Acts.Act.{handed_in, ordered, reported}
use Rattle.nuttracking.specs.Laws.{as_given}
use Rattle.nuttracking.specs.Sound.{IsSoundTracking, times}
use Rattle.nuttracking.specs.Tracking.{TrackingState, has_id, is_known, is_taken_in, with_id}
use Rattle.nuttracking.specs.Tracking.{next_id, pending, with_order, awaits, settled, with_report}
use Rattle.nuttracking.specs.Tracking.{progress_of}
use Rattle.nuttracking.specs.declared.limits.TheConstants.{ID_LIMIT, ORDER_LIMIT}
use Rattle.nuttracking.specs.declared.order.Progress.{Progress}
use Rattle.nuttracking.specs.declared.order.Progress.TheVariants.{Pending, Done}
use Rattle.nuttracking.specs.declared.order.TrackedOrder.{TrackedOrder}
use Rattle.std.proofs.lemmas.Bool.{cases_Bool}

-- ---- an id is handed in

more_than : (a b : ℕ) → nat_le a b ≡ false → b < a
more_than a b e = grind (arith, nat_tests)

pub less_than : (a b : ℕ) → nat_lt a b ≡ true → a < b
less_than a b e = grind (arith, nat_tests)

sound_handed_in : (t : TrackingState) (id : ℕ) → IsSoundTracking t → IsSoundTracking (with_id id t)
sound_handed_in t id s = elim (cases_Bool (is_known id t)) [
  | inl known ↦ rw known s
  | inr unknown ↦ elim (cases_Bool (nat_le ID_LIMIT (length t.ids))) [
    | inl full ↦ rw (unknown, full) s
    | inr room ↦ elim (cases_Bool (nat_lt id (2 ^ 128))) [
      | inl small ↦ rw (unknown, room, small)
          (sound_with_id t id s unknown (more_than ID_LIMIT (length t.ids) room) (less_than id (2 ^ 128) small))
      | inr wide ↦ rw (unknown, room, wide) s
    ]
  ]
]

ids_handed_in : (t : TrackingState) (id : ℕ) → (with_id id t).ids ≡ t.ids ++ taken_by t (handed_in id)
ids_handed_in t id = elim (cases_Bool (is_taken_in id t)) [
  | inl taken ↦ rw taken refl
  | inr refused ↦ rw refused (sym (append-nil t.ids))
]

pub orders_handed_in : (t : TrackingState) (id : ℕ) → (with_id id t).orders ≡ t.orders
orders_handed_in t id = elim (cases_Bool (is_taken_in id t)) [
  | inl taken ↦ rw taken refl
  | inr refused ↦ rw refused refl
]

-- ---- an order

abbrev state : List ℕ → List TrackedOrder → TrackingState
state ids orders = record { ids = ids; orders = orders }

sound_ordered : (place : ℕ) (ids : List ℕ) (orders : List TrackedOrder) →
    IsSoundTracking (state ids orders) → IsSoundTracking (with_order place (state ids orders))
sound_ordered place [] orders s = s
sound_ordered place (id ∷ rest) orders s = sound_with_order place id rest orders s

ids_ordered : (place : ℕ) (ids : List ℕ) (orders : List TrackedOrder)
    → map (λ (order : Given). order.id) (given_by (state ids orders) (ordered place)) ++
    (with_order place (state ids orders)).ids ≡ ids ++ []
ids_ordered place [] orders = refl
ids_ordered place (id ∷ rest) orders = sym (append-nil (id ∷ rest))

pub map_dropped : {X Y : Type 0} (f : X → Y) (k : ℕ) (xs : List X) → map f (drop k xs) ≡ drop k (map f xs)
map_dropped f zero xs = refl
map_dropped f (suc k) [] = refl
map_dropped f (suc k) (x ∷ xs) = map_dropped f k xs

pub map_append : {X Y : Type 0} (f : X → Y) (xs ys : List X) → map f (xs ++ ys) ≡ map f xs ++ map f ys
map_append f [] ys = refl
map_append f (x ∷ xs) ys = ap (λ (l : List _). f x ∷ l) (map_append f xs ys)

pub all_kept : (orders : List TrackedOrder) → length orders ≤ ORDER_LIMIT →
    map as_given orders ≡ keep_last ORDER_LIMIT (map as_given orders ++ [])
all_kept orders h =
    sym (ap (keep_last ORDER_LIMIT) (append-nil (map as_given orders)) ∙
    kept_all ORDER_LIMIT (map as_given orders) (rw (length-map orders as_given) h))

orders_ordered : (place : ℕ) (ids : List ℕ) (orders : List TrackedOrder) → length orders ≤ ORDER_LIMIT
    → map as_given (with_order place (state ids orders)).orders ≡
    keep_last ORDER_LIMIT (map as_given orders ++ given_by (state ids orders) (ordered place))
orders_ordered place [] orders h = all_kept orders h
orders_ordered place (id ∷ rest) orders h =
    let all : List TrackedOrder = orders ++ pending place id ∷ [] in
    let mapped : map as_given all ≡ map as_given orders ++ (record { place = place; id = id }) ∷
    [] = map_append as_given orders (pending place id ∷ []) in
    map_dropped as_given (length all - ORDER_LIMIT) all
    ∙ ap (λ (n : ℕ). drop (n - ORDER_LIMIT) (map as_given all)) (sym (length-map all as_given))
    ∙ ap (keep_last ORDER_LIMIT) mapped

-- ---- a report

settled_given : (place id number : ℕ) (order : TrackedOrder) →
    as_given (settled place id number order) ≡ as_given order
settled_given place id number order = elim (cases_Bool (awaits place id order)) [
  | inl is ↦ rw is refl
  | inr not ↦ rw not refl
]

given_settled : (place id number : ℕ) (orders : List TrackedOrder) →
    map as_given (map (settled place id number) orders) ≡ map as_given orders
given_settled place id number [] = refl
given_settled place id number (x ∷ orders) =
    ap (λ (g : Given). g ∷ map as_given (map (settled place id number) orders)) (settled_given place id number x)
    ∙ ap (λ (l : List Given). as_given x ∷ l) (given_settled place id number orders)

-- ---- any act

pub sound_after_act : (t : TrackingState) (act : Act) → IsSoundTracking t → IsSoundTracking (after_act t act)
sound_after_act t (handed_in id) s = sound_handed_in t id s
sound_after_act t (ordered place) s = sound_ordered place t.ids t.orders s
sound_after_act t (reported place id number) s = sound_with_report t place id number s

pub id_step : (t : TrackingState) (act : Act) →
    map (λ (order : Given). order.id) (given_by t act) ++ (after_act t act).ids ≡ t.ids ++ taken_by t act
id_step t (handed_in id) = ids_handed_in t id
id_step t (ordered place) = ids_ordered place t.ids t.orders
id_step t (reported place id number) = sym (append-nil t.ids)

pub order_step : (t : TrackingState) (act : Act) → length t.orders ≤ ORDER_LIMIT
    → map as_given (after_act t act).orders ≡ keep_last ORDER_LIMIT (map as_given t.orders ++ given_by t act)
order_step t (handed_in id) h = ap (map as_given) (orders_handed_in t id) ∙ all_kept t.orders h
order_step t (ordered place) h = orders_ordered place t.ids t.orders h
order_step t (reported place id number) h = given_settled place id number t.orders ∙ all_kept t.orders h

pub dropped_front : {X : Type 0} (k : ℕ) (xs ys : List X) → k ≤ length xs → drop k xs ++
    ys ≡ drop k (xs ++ ys)
dropped_front zero xs ys h = refl
dropped_front (suc k) [] ys h = absurd (omega arith)
dropped_front (suc k) (x ∷ xs) ys h = dropped_front k xs ys (omega arith)

pub keep_keep : {X : Type 0} (n : ℕ) (xs ys : List X) → keep_last n (keep_last n xs ++ ys) ≡
    keep_last n (xs ++ ys)
keep_keep n xs ys =
    let k : ℕ = length xs - n in
    let j : ℕ = length (drop k xs ++ ys) - n in
    let count : k + j ≡ length (xs ++ ys) - n =
    omega (arith, length-append (drop k xs) ys, length-append xs ys, length-drop k xs) in
    ap (drop j) (dropped_front k xs ys (omega arith)) ∙ drop-drop j k (xs ++ ys) ∙
    ap (λ (m : ℕ). drop m (xs ++ ys)) count

-- ---- one order, as long as it is kept

-- what is known of an order, by how far it has come and what comes later
abbrev told : Progress → ℕ → ℕ → List Act → Progress
told Pending place id later = first_report place id later
told (Done number) place id later = Done number

stands_in : (id : ℕ) (front back : List TrackedOrder) (order : TrackedOrder) → order.id ≡
    id → 1 ≤ times id (order_ids (front ++ order ∷ back))
stands_in id [] back order e =
    let one : one_if id order.id ≡ 1 = rw e (one_if_same id) in
    omega (arith, times_cons id order.id (order_ids back))
stands_in id (x ∷ front) back order e =
    omega (arith, times_cons id x.id (order_ids (front ++ order ∷ back)), stands_in id front back order e)

is_same : (a b : ℕ) → a ≡ b → (a == b) ≡ true
is_same a b e = grind (arith, nat_tests)

found_in : (id : ℕ) (front back : List TrackedOrder) (order : TrackedOrder) → order.id ≡
    id → times id (order_ids (front ++ order ∷ back)) ≤ 1
    → find (has_id id) (front ++ order ∷ back) ≡ Some order
found_in id [] back order e once = rw (is_same order.id id e) refl
found_in id (x ∷ front) back order e once = elim (cases_Bool (x.id == id)) [
  | inl is ↦
      let one : one_if id x.id ≡ 1 = rw is refl in
      absurd (omega (arith, times_cons id x.id (order_ids (front ++ order ∷ back)), stands_in id front back order e))
  | inr other ↦
      rw other (found_in id front back order e
      (omega (arith, times_cons id x.id (order_ids (front ++ order ∷ back)))))
]

abbrev order_of : ℕ → ℕ → Progress → TrackedOrder
order_of place id progress = record { id = id; place = place; progress = progress }

-- the orders after one that used this id
pub orders_after : (place id : ℕ) (ids : List ℕ) (orders : List TrackedOrder) →
    next_id (state ids orders) ≡ Some id
    → (with_order place (state ids orders)).orders ≡ keep_last ORDER_LIMIT (orders ++ pending place id ∷ [])
orders_after place id [] orders e = absurd (true≢false (sym (ap is_some e)))
orders_after place id (first ∷ rest) orders e =
    ap (λ (o : Option ℕ). keep_last ORDER_LIMIT (orders ++ pending place (unwrap_or o first) ∷ [])) e

given_after : (place id : ℕ) (ids : List ℕ) (orders : List TrackedOrder) → next_id (state ids orders) ≡ Some id
    → given_by (state ids orders) (ordered place) ≡ (record { place = place; id = id }) ∷ []
given_after place id [] orders e = absurd (true≢false (sym (ap is_some e)))
given_after place id (first ∷ rest) orders e =
    ap (λ (o : Option ℕ). (record { place = place; id = unwrap_or o first }) ∷ []) e

-- without an available id nothing happens
not_given : (place : ℕ) (ids : List ℕ) (orders : List TrackedOrder) → next_id (state ids orders) ≡ None
    → (given_by (state ids orders) (ordered place) ≡ []) ×
    ((with_order place (state ids orders)).orders ≡ orders)
not_given place [] orders e = (refl, refl)
not_given place (first ∷ rest) orders e = absurd (true≢false (ap is_some e))

some_or_none : (o : Option ℕ) → ((i : ℕ) × (o ≡ Some i)) ⊎ (o ≡ None)
some_or_none (Some i) = inl (i, refl)
some_or_none None = inr refl

told_end : (p : Progress) (place id : ℕ) → told p place id [] ≡ p
told_end Pending place id = refl
told_end (Done number) place id = refl

told_handed_in : (p : Progress) (place id other : ℕ) (later : List Act) →
    told p place id (handed_in other ∷ later) ≡ told p place id later
told_handed_in Pending place id other later = refl
told_handed_in (Done number) place id other later = refl

told_ordered : (p : Progress) (place id other : ℕ) (later : List Act) →
    told p place id (ordered other ∷ later) ≡ told p place id later
told_ordered Pending place id other later = refl
told_ordered (Done number) place id other later = refl

-- what a report does to the order
record Reported (place id from other number : ℕ) (p : Progress) (later : List Act) : Type 0 where
  pub now : Progress
  pub is : settled from other number (order_of place id p) ≡ order_of place id now
  pub says : told p place id (reported from other number ∷ later) ≡ told now place id later

a_report : (place id from other number : ℕ) (p : Progress) (later : List Act) →
    Reported place id from other number p later
a_report place id from other number (Done n) later = elim (cases_Bool (id == other)) [
  | inl a ↦ elim (cases_Bool (place == from)) [
    | inl b ↦ record { now = Done n; is = rw (a, b) refl; says = refl }
    | inr b ↦ record { now = Done n; is = rw (a, b) refl; says = refl }
  ]
  | inr a ↦ record { now = Done n; is = rw a refl; says = refl }
]
a_report place id from other number Pending later = elim (cases_Bool (id == other)) [
  | inl a ↦ elim (cases_Bool (place == from)) [
    | inl b ↦ record { now = Done number; is = rw (a, b) refl; says = rw (a, b) refl }
    | inr b ↦ record { now = Pending; is = rw (a, b) refl; says = rw (a, b) refl }
  ]
  | inr a ↦ record { now = Pending; is = rw a refl; says = rw a refl }
]

pub settles : (t : TrackingState) (place id : ℕ) (p : Progress) (front back : List TrackedOrder)
    (later : List Act) → IsSoundTracking t
    → t.orders ≡ front ++ order_of place id p ∷ back → length back + length (given t later) < ORDER_LIMIT
    → progress_of id (after_acts t later) ≡ Some (told p place id later)
settles t place id p front back [] s e few =
    let once : times id (order_ids t.orders) ≤ 1 =
    omega (arith, times_append id t.ids (order_ids t.orders), s.once id) in
    let there : find (has_id id) t.orders ≡ Some (order_of place id p) =
    rw e (found_in id front back (order_of place id p) refl (rw e at once)) in
    ap (option_map (λ (order : TrackedOrder). order.progress)) there ∙ ap Some (sym (told_end p place id))
settles t place id p front back (handed_in other ∷ later) s e few =
    settles (with_id other t) place id p front back later (sound_after_act t (handed_in other) s)
    (orders_handed_in t other ∙ e) few
    ∙ ap Some (sym (told_handed_in p place id other later))
settles t place id p front back (ordered other ∷ later) s e few =
    let t' : TrackingState = with_order other t in
    let s' : IsSoundTracking t' = sound_after_act t (ordered other) s in
    let order : TrackedOrder = order_of place id p in
    let says : Some (told p place id later) ≡ Some (told p place id (ordered other ∷ later)) =
    ap Some (sym (told_ordered p place id other later)) in
    let many = length-append (given_by t (ordered other)) (given t' later) in
    elim (some_or_none (next_id t)) [
      | inl used ↦
          let new : TrackedOrder = pending other used.0 in
          let k : ℕ = length (t.orders ++ new ∷ []) - ORDER_LIMIT in
          let one : length (given_by t (ordered other)) ≡ 1 =
          ap length (given_after other used.0 t.ids t.orders used.1) in
          let fits : length (front ++ order ∷ back) ≤ ORDER_LIMIT = rw e at s.orders_few in
          let whole : length (t.orders ++ new ∷ []) ≡ length front + (1 + length back) + 1 =
          length-append t.orders (new ∷ []) ∙ rw e (omega (arith, length-append front (order ∷ back))) in
          let more : length (back ++ new ∷ []) ≡ length back + 1 = length-append back (new ∷ []) in
          let orders : t'.orders ≡ drop k front ++ order ∷ (back ++ new ∷ []) =
          orders_after other used.0 t.ids t.orders used.1
          ∙ ap (λ (l : List TrackedOrder). drop k (l ++ new ∷ [])) e
          ∙ ap (drop k) (append_assoc front (order ∷ back) (new ∷ []))
          ∙ sym (dropped_front k front (order ∷ (back ++ new ∷ [])) (omega arith)) in
          settles t' place id p (drop k front) (back ++ new ∷ []) later s' orders (omega arith) ∙ says
      | inr none ↦
          let nothing = not_given other t.ids t.orders none in
          let zero_more : length (given_by t (ordered other)) ≡ 0 = ap length nothing.0 in
          settles t' place id p front back later s' (nothing.1 ∙ e) (omega arith) ∙ says
    ]
settles t place id p front back (reported from other number ∷ later) s e few =
    let t' : TrackingState = with_report from other number t in
    let r = a_report place id from other number p later in
    let f : TrackedOrder → TrackedOrder = settled from other number in
    let orders : t'.orders ≡ map f front ++ order_of place id r.now ∷ map f back =
    ap (map f) e ∙ map_append f front (order_of place id p ∷ back) ∙
    ap (λ (x : TrackedOrder). map f front ++ x ∷ map f back) r.is in
    let same : length (map f back) ≡ length back = length-map back f in
    settles t' place id r.now (map f front) (map f back) later
    (sound_after_act t (reported from other number) s) orders (rw same few)
    ∙ ap Some (sym r.says)
