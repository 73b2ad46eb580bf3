use Rattle.nutmap.proofs.Collected.{joins_node}
use Rattle.nutmap.proofs.find.+collect.Goals as goal

pub returns : goal.returns
returns g t c = rw (c.in-Some.is, ← c.deref-node.ensures, ← c.node.view_is)
    (joins_node g.row.N _ _ _ _ _ _ _ c.collect.ensures
    (rw (c.deref.ensures, c.deref-2.ensures) at c.push.ensures) c.collect-2.ensures)
