use Rattle.std.proofs.Common.{◌≡◌, Some, sym, ◌∙◌}
use Rattle.nutmap.specs.Entries.{value_at}
use Rattle.nutmap.specs.Tree.{entries_of}
use Rattle.nutmap.proofs.Ordered.{lookup_left, lookup_middle, lookup_right}
use Rattle.nutmap.proofs.find.value.Goals as goal

pub loop-rest-preserved-in-Less : goal.loop-rest-preserved-in-Less
loop-rest-preserved-in-Less g c =
    let step : value_at g.K.Ord.cmp (entries_of c.loop-rest.rest.now) c.args.key.now ≡
    value_at g.K.Ord.cmp (entries_of c.node.inside.left) c.args.key.now =
    rw (c.in-Some.is, ← c.deref-node.ensures, ← c.node.view_is)
    (lookup_left g.met.K.Ord.total c.args.key.now _ _ _ _ c.node.invariant.tree.rising
    (sym (rw c.deref.ensures at c.cmp.ensures) ∙ c.in-Less.is)) in
    c.loop-rest.invariant ∙ step

pub returns-in-Equal : goal.returns-in-Equal
returns-in-Equal g c =
    let step : value_at g.K.Ord.cmp (entries_of c.loop-rest.rest.now) c.args.key.now ≡
    Some c.node.inside.entry.value.value =
    rw (c.in-Some.is, ← c.deref-node.ensures, ← c.node.view_is)
    (lookup_middle g.met.K.Ord.total c.args.key.now _ _ _ _ c.node.invariant.tree.rising
    (sym (rw c.deref.ensures at c.cmp.ensures) ∙ c.in-Equal.is)) in
    sym (c.loop-rest.invariant ∙ step)

pub loop-rest-preserved : goal.loop-rest-preserved
loop-rest-preserved g c =
    let step : value_at g.K.Ord.cmp (entries_of c.loop-rest.rest.now) c.args.key.now ≡
    value_at g.K.Ord.cmp (entries_of c.node.inside.right) c.args.key.now =
    rw (c.in-Some.is, ← c.deref-node.ensures, ← c.node.view_is)
    (lookup_right g.met.K.Ord.total c.args.key.now _ _ _ _ c.node.invariant.tree.rising
    (sym (rw c.deref.ensures at c.cmp.ensures) ∙ c.in-Greater.is)) in
    c.loop-rest.invariant ∙ step
