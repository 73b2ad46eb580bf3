use Rattle.std.proofs.Common.{◌≡◌, ℕ, List, [], ◌∷◌, ◌++◌, ◌-◌, length, drop}
use Rattle.std.proofs.Common.{subst, ap, ◌∙◌}
use Rattle.circular_buffer.specs.Buffer.{Buffer, keep_last}
use Rattle.nuttracking.proofs.KeptSound.{sound_with_order, lawful_with_order, first_of}
use Rattle.nuttracking.specs.Sound.{IsSoundTracking}
use Rattle.nuttracking.specs.Tracking.{pending}
use Rattle.nuttracking.specs.declared.limits.TheConstants.{ORDER_LIMIT}
use Rattle.nuttracking.specs.declared.order.TrackedOrder.{TrackedOrder}
use Rattle.nuttracking.proofs.tracking.Tracking.use_for.Goals as goal

pub invariant_of-self-2 : goal.invariant_of-self-2
invariant_of-self-2 c =
    let i = c.self.invariant in
    let ids : List ℕ = c.self.inside.ids.items in
    let orders : List TrackedOrder = c.self.inside.orders.items in
    let id : ℕ = c.in_ok-id.id in
    let all : List TrackedOrder = orders ++ pending c.args.place id ∷ [] in
    let before : IsSoundTracking (record { ids = id ∷ drop 1 ids; orders = orders }) =
    subst (λ (l : List ℕ). IsSoundTracking (record { ids = l; orders = orders }))
    (first_of ids id c.in_ok-id.ensures.value) i.sound in
    let kept : c.push_back.new.self.items ≡ keep_last ORDER_LIMIT all =
    ap (λ (b : Buffer TrackedOrder). b.items) c.push_back.ensures.items ∙
    ap (λ (n : ℕ). keep_last n all) i.order_room in
    let left : c.pop_front.new.self.items ≡ drop 1 ids =
    ap (λ (b : Buffer ℕ). b.items) c.pop_front.ensures.items in
    record {
      id_room = ap (λ (b : Buffer ℕ). b.capacity) c.pop_front.ensures.items ∙ i.id_room;
      order_room = ap (λ (b : Buffer TrackedOrder). b.capacity) c.push_back.ensures.items ∙ i.order_room;
      sound = rw (left, kept) (sound_with_order c.args.place id (drop 1 ids) orders before);
      numbers = rw kept (lawful_with_order c.args.place id (length all - ORDER_LIMIT) orders i.numbers);
    }
