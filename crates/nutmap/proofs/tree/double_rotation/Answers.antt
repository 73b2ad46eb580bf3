use Rattle.nutmap.proofs.Regroup.{left_node_rises, right_node_rises}
use Rattle.nutmap.proofs.tree.double_rotation.Goals as goal

pub make_node-requires-clause-rising : goal.make_node-requires-clause-rising
make_node-requires-clause-rising g c =
    let whole = rw (← c.middle.view_is) at c.requires.rising in
    left_node_rises _ _ _ _ _ _ _ _ whole

pub make_node-requires-2-clause-rising : goal.make_node-requires-2-clause-rising
make_node-requires-2-clause-rising g c =
    let whole = rw (← c.middle.view_is) at c.requires.rising in
    right_node_rises _ _ _ _ _ _ _ _ whole
