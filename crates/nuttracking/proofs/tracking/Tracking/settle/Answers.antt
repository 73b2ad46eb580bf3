use Rattle.std.proofs.Common.{◌≡◌, ◌≤◌, ◌<◌, ℕ, length, Some, None, true≢false}
use Rattle.std.proofs.Common.{Bool, List, get_or, map, ◌++◌, subst, sym, ap, ◌∙◌, arith}
use Rattle.std.proofs.lemmas.List.Folds.{list_any_at}
use Rattle.std.proofs.lemmas.List.Quantifiers.{position-Some}
use Rattle.std.specs.List.{position}
use Rattle.nuttracking.proofs.KeptSound.{sound_with_report, lawful_settled, nothing_settled}
use Rattle.nuttracking.proofs.KeptSound.{one_settled, no_position, some_at, none_at}
use Rattle.circular_buffer.specs.Buffer.{buffer}
use Rattle.nuttracking.proofs.Counts.{order_ids, times_append}
use Rattle.nuttracking.specs.Sound.{times}
use Rattle.nuttracking.specs.Tracking.{pending, awaits, settled, with_report}
use Rattle.nuttracking.specs.contracts.tracking.Tracking.{the_view, the_invariant}
use Rattle.nuttracking.specs.declared.tracking.Tracking.TheInside.{Inside}
use Rattle.nuttracking.specs.declared.order.TrackedOrder.{TrackedOrder}
use Rattle.nuttracking.proofs.tracking.Tracking.settle.Goals.{in-Some-get_mut, in_default-get_mut}
use Rattle.nuttracking.proofs.tracking.Tracking.settle.Goals as goal

abbrev inside_with : Inside → List TrackedOrder → Inside
inside_with x orders = record { ids = x.ids; orders = buffer orders x.orders.capacity }

past_end : {X : Type 0} (xs : List X) (at : ℕ) → length xs ≤ at → at < length xs → ⊥
past_end xs at h k = omega arith

-- any order
some_order : ℕ → TrackedOrder
some_order id = pending 0 id

once_kept : (ids : List ℕ) (orders : List TrackedOrder) (id : ℕ) →
    times id (ids ++ order_ids orders) ≤ 1 → times id (order_ids orders) ≤ 1
once_kept ids orders id h = omega (arith, times_append id ids (order_ids orders))

pub returns-in_default-clause-answer : goal.returns-in_default-clause-answer
returns-in_default-clause-answer c =
    let none : position (awaits c.args.place c.args.id) c.self.inside.orders.items ≡ None =
    sym c.awaited_at.ensures ∙ c.in_default.is in
    rw (← c.self.view_is) (sym (no_position (awaits c.args.place c.args.id) c.self.inside.orders.items none))

pub returns-in_default-clause-after : goal.returns-in_default-clause-after
returns-in_default-clause-after c =
    let none : position (awaits c.args.place c.args.id) c.self.inside.orders.items ≡ None =
    sym c.awaited_at.ensures ∙ c.in_default.is in
    let same = nothing_settled c.args.place c.args.id c.args.number c.self.inside.orders.items
    (no_position (awaits c.args.place c.args.id) c.self.inside.orders.items none) in
    rw (← c.self.view_is) (ap (λ (orders : List TrackedOrder). record
    { ids = c.self.inside.ids.items; orders = orders }) (sym same))

-- the orders after it was settled
inside_is : (c : goal.Joined-get_mut) → c.match-get_mut.self-inside ≡
    inside_with c.self.inside (map (settled c.args.place c.args.id c.args.number) c.self.inside.orders.items)
inside_is c =
    let p : TrackedOrder → Bool = awaits c.args.place c.args.id in
    let orders : List TrackedOrder = c.self.inside.orders.items in
    let at : ℕ = c.in-Some.at in
    let is : position p orders ≡ Some at = sym c.awaited_at.ensures ∙ c.in-Some.is in
    elim c.match-get_mut.branch [
      | in-Some-get_mut w ↦
          let order : TrackedOrder = w.in-Some-get_mut.order.now in
          let here : get_or orders at order ≡ order = some_at orders at order w.in-Some-get_mut.ensures.value in
          let place = position-Some p orders at order is in
          let set_it = one_settled c.args.place c.args.id c.args.number orders at order place.0
          place.1 (once_kept c.self.inside.ids.items orders c.args.id (c.self.invariant.sound.once c.args.id)) in
          w.self-inside-is ∙ ap (inside_with c.self.inside) (rw here at set_it)
      | in_default-get_mut w ↦
          absurd (past_end orders at (none_at orders at w.in_default-get_mut.ensures.value)
          (position-Some p orders at (some_order at) is).0)
    ]

pub returns-clause-answer : goal.returns-clause-answer
returns-clause-answer c =
    let p : TrackedOrder → Bool = awaits c.args.place c.args.id in
    let orders : List TrackedOrder = c.self.inside.orders.items in
    let place = position-Some p orders c.in-Some.at (some_order 0) (sym c.awaited_at.ensures ∙ c.in-Some.is) in
    rw (← c.self.view_is) (sym (list_any_at p orders c.in-Some.at (some_order 0) place.0 place.1))

pub invariant_of-self : goal.invariant_of-self
invariant_of-self c =
    let i = c.self.invariant in
    subst the_invariant (sym (inside_is c)) (record {
      id_room = i.id_room;
      order_room = i.order_room;
      sound = sound_with_report (the_view c.self.inside) c.args.place c.args.id c.args.number i.sound;
      numbers = lawful_settled c.args.place c.args.id c.args.number c.self.inside.orders.items c.requires i.numbers;
    })

pub returns-clause-after : goal.returns-clause-after
returns-clause-after c = ap the_view (inside_is c) ∙
    ap (with_report c.args.place c.args.id c.args.number) c.self.view_is

pub returns-clause-otherwise : goal.returns-clause-otherwise
returns-clause-otherwise c = λ e. absurd (true≢false e)
