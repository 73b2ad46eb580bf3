use Rattle.std.proofs.Common.{None, sym, ◌∙◌}
use Rattle.nutmap.proofs.Marks.{none_after}
use Rattle.nutmap.proofs.find.+first_marked.Goals as goal

pub returns-then-not-node : goal.returns-then-not-node
returns-then-not-node g t c = rw (c.in-Some.is, ← c.deref-node.ensures, ← c.node.view_is)
    (sym (none_after g.V.Marked.marked g.K.Ord.cmp _ None (sym c.node.invariant.marked ∙ c.if-not-node.true)))
