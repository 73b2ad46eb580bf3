use Rattle.std.proofs.Common.{arith, ◌≡◌, ◌++◌, ◌∷◌, []}
use Rattle.nutmap.proofs.Waiting.{room_popped}
use Rattle.nutmap.proofs.waste.take_apart.Goals as goal

pub open-requires-clause-kept : goal.open-requires-clause-kept
open-requires-clause-kept g c =
    let items : c.loop-count.trees.items ≡ c.pop.new.self.items ++ c.in-Some.tree ∷ [] = c.in-Some.ensures.items in
    let popped = room_popped 0 c.pop.new.self.items c.in-Some.tree (rw items at c.loop-count.invariant.kept.room) in
    record { room = popped.0; capacity = rw c.pop.ensures.capacity c.loop-count.invariant.kept.capacity }

pub open-requires-clause-room : goal.open-requires-clause-room
open-requires-clause-room g c =
    let items : c.loop-count.trees.items ≡ c.pop.new.self.items ++ c.in-Some.tree ∷ [] = c.in-Some.ensures.items in
    let popped = room_popped 0 c.pop.new.self.items c.in-Some.tree (rw items at c.loop-count.invariant.kept.room) in
    omega (arith, popped.1)
