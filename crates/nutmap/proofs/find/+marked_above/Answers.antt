use Rattle.std.proofs.Common.{◌≡◌, Some, false, sym, ◌∙◌, rules}
use Rattle.nutmap.proofs.Marks.{none_after, right_above, equal_above, greater_above}
use Rattle.nutmap.proofs.find.+marked_above.Goals as goal

pub returns-then-not-node : goal.returns-then-not-node
returns-then-not-node g t c = rw (c.in-Some.is, ← c.deref-node.ensures, ← c.node.view_is)
    (sym (none_after g.V.Marked.marked g.K.Ord.cmp _ (Some c.args.key.now)
    (sym c.node.invariant.marked ∙ c.if-not-node.true)))

pub returns-in-None-2 : goal.returns-in-None-2
returns-in-None-2 g t c =
    let unmarked : g.V.Marked.marked c.node.inside.entry.value.value ≡ false = search rules in
    rw (c.in-Some.is, ← c.deref-node.ensures, ← c.node.view_is)
    (c.first_marked.ensures ∙ sym (right_above g.V.Marked.marked g.met.K.Ord.total c.args.key.now
    _ _ _ _ c.node.invariant.tree.rising
    (sym (rw c.deref.ensures at c.cmp.ensures) ∙ c.in-Less.is) (sym c.in-None.ensures) unmarked))

pub returns-in-Equal : goal.returns-in-Equal
returns-in-Equal g t c = rw (c.in-Some.is, ← c.deref-node.ensures, ← c.node.view_is)
    (c.first_marked-in-Equal.ensures ∙
    sym (equal_above g.V.Marked.marked g.met.K.Ord.total c.args.key.now _ _ _ _
    c.node.invariant.tree.rising (sym (rw c.deref.ensures at c.cmp.ensures) ∙ c.in-Equal.is)))

pub returns-in-Greater : goal.returns-in-Greater
returns-in-Greater g t c = rw (c.in-Some.is, ← c.deref-node.ensures, ← c.node.view_is)
    (c.marked_above-in-Greater.ensures ∙
    sym (greater_above g.V.Marked.marked g.met.K.Ord.total c.args.key.now _ _ _ _
    c.node.invariant.tree.rising (sym (rw c.deref.ensures at c.cmp.ensures) ∙ c.in-Greater.is)))
