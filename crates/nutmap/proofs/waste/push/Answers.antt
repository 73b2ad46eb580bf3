use Rattle.std.proofs.Common.{arith, ◌≡◌, ◌≤◌, ◌+◌, ◌++◌, ◌∷◌, [], length}
use Rattle.nutmap.specs.declared.waste.TheConstants.{WASTE_LIMIT}
use Rattle.nutmap.proofs.Waiting.{room_pushed}
use Rattle.nutmap.proofs.waste.push.Goals as goal

pub returns-in-Some-clause-kept : goal.returns-in-Some-clause-kept
returns-in-Some-clause-kept g c =
    let items : c.push.new.self.items ≡ c.args.trees.now.items ++ c.in-Some.tree ∷ [] =
    rw c.unwrap.ensures at c.push.ensures.items in
    let fits : 0 + length c.args.trees.now.items + c.in-Some.tree.value.1 ≤ WASTE_LIMIT =
    omega (arith, rw c.in-Some.is at c.requires.room) in
    record {
      room = rw items (room_pushed 0 c.args.trees.now.items c.in-Some.tree c.requires.kept.room fits);
      capacity = omega (arith, c.push.ensures.capacity, c.requires.kept.capacity);
    }
