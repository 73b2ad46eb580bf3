use Rattle.std.proofs.Common.{sym, ◌∙◌}
use Rattle.nutmap.proofs.Above.{above_some, above_here, above_equal, above_greater}
use Rattle.nutmap.proofs.find.+above.Goals as goal

pub returns-in-Some-above : goal.returns-in-Some-above
returns-in-Some-above g t c = rw (c.in-Some.is, ← c.deref-node.ensures, ← c.node.view_is)
    (sym (above_some (g.K.Ord.cmp c.args.key.now) _ _ _ (sym c.in-Some-above.ensures)))

pub returns-in-None : goal.returns-in-None
returns-in-None g t c = rw (
  c.in-Some.is,
  ← c.deref-node.ensures,
  ← c.node.view_is,
  c.deref-in-None.ensures,
  c.deref-in-None-2.ensures,
) (sym (above_here g.met.K.Ord.total c.args.key.now _ _ _ _ c.node.invariant.tree.rising
    (sym (rw c.deref.ensures at c.cmp.ensures) ∙ c.in-Less.is) (sym c.in-None.ensures)))

pub returns-in-Equal : goal.returns-in-Equal
returns-in-Equal g t c = rw (c.in-Some.is, ← c.deref-node.ensures, ← c.node.view_is)
    (c.above-in-Equal.ensures ∙ sym
    (above_equal g.met.K.Ord.total c.args.key.now _ _ _ _ c.node.invariant.tree.rising
    (sym (rw c.deref.ensures at c.cmp.ensures) ∙ c.in-Equal.is)))

pub returns-in-Greater : goal.returns-in-Greater
returns-in-Greater g t c = rw (c.in-Some.is, ← c.deref-node.ensures, ← c.node.view_is)
    (c.above-in-Greater.ensures ∙ sym
    (above_greater g.met.K.Ord.total c.args.key.now _ _ _ _ c.node.invariant.tree.rising
    (sym (rw c.deref.ensures at c.cmp.ensures) ∙ c.in-Greater.is)))
