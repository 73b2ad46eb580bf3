use Rattle.std.proofs.Common.{sym, ◌∙◌}
use Rattle.nutmap.proofs.Collected.{joins_node, above_less, above_equal, above_greater}
use Rattle.nutmap.proofs.find.+collect_above.Goals as goal

pub returns-in-Less : goal.returns-in-Less
returns-in-Less g t c =
    let below = above_less g.met.K.Ord.total c.args.key.now _ _ _ _ c.node.invariant.tree.rising
    (sym (rw c.deref.ensures at c.cmp.ensures) ∙ c.in-Less.is) in
    rw (c.in-Some.is, ← c.deref-node.ensures, ← c.node.view_is, below)
    (joins_node g.row.N _ _ _ _ _ _ _ c.collect_above.ensures
    (rw (c.deref-in-Less.ensures, c.deref-in-Less-2.ensures) at c.push.ensures) c.collect.ensures)

pub returns-in-Equal : goal.returns-in-Equal
returns-in-Equal g t c =
    let here = above_equal g.met.K.Ord.total c.args.key.now _ _ _ _ c.node.invariant.tree.rising
    (sym (rw c.deref.ensures at c.cmp.ensures) ∙ c.in-Equal.is) in
    rw (c.in-Some.is, ← c.deref-node.ensures, ← c.node.view_is, here) c.collect-in-Equal.ensures

pub returns-in-Greater : goal.returns-in-Greater
returns-in-Greater g t c =
    let past = above_greater g.met.K.Ord.total c.args.key.now _ _ _ _ c.node.invariant.tree.rising
    (sym (rw c.deref.ensures at c.cmp.ensures) ∙ c.in-Greater.is) in
    rw (c.in-Some.is, ← c.deref-node.ensures, ← c.node.view_is, past) c.collect_above-in-Greater.ensures
