use Rattle.nutmap.proofs.Regroup.{right_of_three_rises}
use Rattle.nutmap.proofs.tree.rotate_right.Goals as goal

pub make_node-requires-clause-rising : goal.make_node-requires-clause-rising
make_node-requires-clause-rising g c =
    let whole = rw (← c.left.view_is) at c.requires.rising in
    right_of_three_rises g.K.Ord.cmp _ _ _ _ _ whole
