use Rattle.std.proofs.Common.{◌≡◌, ◌<◌, ◌==◌, length, false, ℕ, [], ◌∷◌}
use Rattle.std.proofs.Common.{◌++◌, sym, ap, ◌∙◌, arith, length-append}
use Rattle.circular_buffer.specs.Buffer.{Buffer}
use Rattle.nuttracking.proofs.KeptSound.{sound_with_id, kept_all, room_left}
use Rattle.nuttracking.specs.Tracking.{TrackingState, is_known}
use Rattle.nuttracking.proofs.tracking.Tracking.take_in.Goals as goal

pub invariant_of-self : goal.invariant_of-self
invariant_of-self c =
    let i = c.self.invariant in
    let t : TrackingState = record { ids = c.self.inside.ids.items; orders = c.self.inside.orders.items } in
    let unknown : is_known c.args.id t ≡ false = ap (is_known c.args.id) c.self.view_is ∙
    sym c.is_known.ensures ∙ c.if-is_known.false in
    let other : (length t.ids == c.self.inside.ids.capacity) ≡ false = sym c.is_full.ensures ∙ c.if-is_full.false in
    let room : length t.ids < c.self.inside.ids.capacity =
    room_left (length t.ids) c.self.inside.ids.capacity other (omega (arith, i.sound.ids_few)) in
    let items : c.push_back.new.self.items ≡ t.ids ++ c.args.id ∷ [] =
    ap (λ (b : Buffer ℕ). b.items) c.push_back.ensures.items
    ∙ kept_all c.self.inside.ids.capacity (t.ids ++ c.args.id ∷ [])
    (omega (arith, length-append t.ids (c.args.id ∷ []))) in
    record {
      id_room = ap (λ (b : Buffer ℕ). b.capacity) c.push_back.ensures.items ∙ i.id_room;
      order_room = i.order_room;
      sound = rw items (sound_with_id t c.args.id i.sound unknown (omega arith) (omega (arith, c.ranges.id)));
      numbers = i.numbers;
    }
