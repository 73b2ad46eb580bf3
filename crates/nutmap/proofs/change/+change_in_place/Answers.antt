use Rattle.std.proofs.Common.{sym, ◌∙◌}
use Rattle.nutmap.proofs.Changed.{changed_left, changed_middle, changed_right}
use Rattle.nutmap.proofs.change.+change_in_place.Goals as goal

pub returns-in-Less-clause-changed : goal.returns-in-Less-clause-changed
returns-in-Less-clause-changed g t c = λ is.
    rw (c.in-Some.is, ← c.in-Some-get_mut.ensures.value, ← c.node.view_is)
    (changed_left g.met.K.Ord.total g.F.FnOnce c.args.change c.args.key.now _ _ _ _
    c.node.invariant.tree.rising _ (sym (rw c.deref.ensures at c.cmp.ensures) ∙ c.in-Less.is)
    (c.change_in_place.ensures.changed is))

pub returns-in-Equal-clause-changed : goal.returns-in-Equal-clause-changed
returns-in-Equal-clause-changed g t c = λ is.
    rw (c.in-Some.is, ← c.in-Some-get_mut.ensures.value, ← c.node.view_is)
    (changed_middle g.met.K.Ord.total g.F.FnOnce c.args.change c.args.key.now _ _ _ _
    c.node.invariant.tree.rising _ (sym (rw c.deref.ensures at c.cmp.ensures) ∙ c.in-Equal.is)
    (c.change_unshared.ensures.changed is))

pub returns-in-Greater-clause-changed : goal.returns-in-Greater-clause-changed
returns-in-Greater-clause-changed g t c = λ is.
    rw (c.in-Some.is, ← c.in-Some-get_mut.ensures.value, ← c.node.view_is)
    (changed_right g.met.K.Ord.total g.F.FnOnce c.args.change c.args.key.now _ _ _ _
    c.node.invariant.tree.rising _ (sym (rw c.deref.ensures at c.cmp.ensures) ∙ c.in-Greater.is)
    (c.change_in_place-in-Greater.ensures.changed is))
