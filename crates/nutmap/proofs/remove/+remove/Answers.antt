use Rattle.std.proofs.Common.{sym, ◌∙◌}
use Rattle.nutmap.proofs.Ordered.{remove_left, remove_middle, remove_right, rest_stays_rising}
use Rattle.nutmap.proofs.remove.+remove.Goals as goal

pub balance-requires-clause-rising : goal.balance-requires-clause-rising
balance-requires-clause-rising g t c =
    let cut = remove_left g.met.K.Ord.total c.args.key.now _ _ _ _ c.node.invariant.tree.rising
    (sym (rw c.deref.ensures at c.cmp.ensures) ∙ c.in-Less.is) in
    rw (c.in_ok-left-in-Less.ensures.entries, ← cut)
    (rest_stays_rising g.met.K.Ord.total _ _ (record { rising = c.node.invariant.tree.rising }))

pub join-requires-clause-rising : goal.join-requires-clause-rising
join-requires-clause-rising g t c =
    let cut = remove_middle g.met.K.Ord.total c.args.key.now _ _ _ _ c.node.invariant.tree.rising
    (sym (rw c.deref.ensures at c.cmp.ensures) ∙ c.in-Equal.is) in
    rw (← cut) (rest_stays_rising g.met.K.Ord.total _ _ (record { rising = c.node.invariant.tree.rising }))

pub balance-requires-in-Greater-clause-rising : goal.balance-requires-in-Greater-clause-rising
balance-requires-in-Greater-clause-rising g t c =
    let cut = remove_right g.met.K.Ord.total c.args.key.now _ _ _ _ c.node.invariant.tree.rising
    (sym (rw c.deref.ensures at c.cmp.ensures) ∙ c.in-Greater.is) in
    rw (c.in_ok-right-in-Greater.ensures.entries, ← cut)
    (rest_stays_rising g.met.K.Ord.total _ _ (record { rising = c.node.invariant.tree.rising }))

pub returns-in_ok-left-in-Less-clause-entries : goal.returns-in_ok-left-in-Less-clause-entries
returns-in_ok-left-in-Less-clause-entries g t c =
    let cut = remove_left g.met.K.Ord.total c.args.key.now _ _ _ _ c.node.invariant.tree.rising
    (sym (rw c.deref.ensures at c.cmp.ensures) ∙ c.in-Less.is) in
    rw (
      c.in-Some.is,
      ← c.deref-node.ensures,
      ← c.node.view_is,
      cut,
      ← c.in_ok-left-in-Less.ensures.entries,
    ) c.balance.ensures.entries

pub returns-in-Equal-clause-entries : goal.returns-in-Equal-clause-entries
returns-in-Equal-clause-entries g t c =
    let cut = remove_middle g.met.K.Ord.total c.args.key.now _ _ _ _ c.node.invariant.tree.rising
    (sym (rw c.deref.ensures at c.cmp.ensures) ∙ c.in-Equal.is) in
    rw (c.in-Some.is, ← c.deref-node.ensures, ← c.node.view_is, cut) c.join.ensures.entries

pub returns-in_ok-right-in-Greater-clause-entries : goal.returns-in_ok-right-in-Greater-clause-entries
returns-in_ok-right-in-Greater-clause-entries g t c =
    let cut = remove_right g.met.K.Ord.total c.args.key.now _ _ _ _ c.node.invariant.tree.rising
    (sym (rw c.deref.ensures at c.cmp.ensures) ∙ c.in-Greater.is) in
    rw (
      c.in-Some.is,
      ← c.deref-node.ensures,
      ← c.node.view_is,
      cut,
      ← c.in_ok-right-in-Greater.ensures.entries,
    ) c.balance-in-Greater.ensures.entries
