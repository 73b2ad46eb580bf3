use Rattle.std.proofs.Common.{◌∷◌}
use Rattle.nutmap.specs.Tree.{entries_of}
use Rattle.nutmap.proofs.Regroup.{rest_rises}
use Rattle.nutmap.proofs.remove.+without_least.Goals as goal

pub balance-requires-clause-rising : goal.balance-requires-clause-rising
balance-requires-clause-rising g t c =
    let whole = rw (c.in-Some.is, ← c.deref.ensures) at c.node.invariant.tree.rising in
    rw c.in_ok-left.ensures.entries (rest_rises g.K.Ord.cmp c.deref.result.now.0
    ((c.node.inside.entry.key.value, c.node.inside.entry.value.value) ∷
    entries_of c.node.inside.right) (record { rising = whole }))
