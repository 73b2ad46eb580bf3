use Rattle.std.proofs.Common.{sym, ◌∙◌}
use Rattle.nutmap.proofs.Ordered.{insert_left, insert_middle, insert_right, one_rises, keys_stay_rising}
use Rattle.nutmap.proofs.insert.+insert.Goals as goal

pub make_node-requires-clause-rising : goal.make_node-requires-clause-rising
make_node-requires-clause-rising g t c = one_rises g.K.Ord.cmp _

pub balance-requires-clause-rising : goal.balance-requires-clause-rising
balance-requires-clause-rising g t c =
    let cut = insert_left g.met.K.Ord.total c.args.entry.now.key.value _ _ _ _
    c.node.invariant.tree.rising c.args.entry.now.value.value
    (sym (rw (c.deref.ensures, c.deref-2.ensures) at c.cmp.ensures) ∙ c.in-Less.is) in
    rw (c.in_ok-left-in-Less.ensures.entries, ← cut)
    (keys_stay_rising g.met.K.Ord.total _ _ _ (record { rising = c.node.invariant.tree.rising }))

pub balance-requires-in-Greater-clause-rising : goal.balance-requires-in-Greater-clause-rising
balance-requires-in-Greater-clause-rising g t c =
    let cut = insert_right g.met.K.Ord.total c.args.entry.now.key.value _ _ _ _
    c.node.invariant.tree.rising c.args.entry.now.value.value
    (sym (rw (c.deref.ensures, c.deref-2.ensures) at c.cmp.ensures) ∙ c.in-Greater.is) in
    rw (c.in_ok-right-in-Greater.ensures.entries, ← cut)
    (keys_stay_rising g.met.K.Ord.total _ _ _ (record { rising = c.node.invariant.tree.rising }))

pub returns-in_ok-left-in-Less-clause-entries : goal.returns-in_ok-left-in-Less-clause-entries
returns-in_ok-left-in-Less-clause-entries g t c =
    let cut = insert_left g.met.K.Ord.total c.args.entry.now.key.value _ _ _ _
    c.node.invariant.tree.rising c.args.entry.now.value.value
    (sym (rw (c.deref.ensures, c.deref-2.ensures) at c.cmp.ensures) ∙ c.in-Less.is) in
    rw (
      c.in-Some.is,
      ← c.deref-node.ensures,
      ← c.node.view_is,
      cut,
      ← c.in_ok-left-in-Less.ensures.entries,
    ) c.balance.ensures.entries

pub returns-in_ok-entry-in-Equal-clause-entries : goal.returns-in_ok-entry-in-Equal-clause-entries
returns-in_ok-entry-in-Equal-clause-entries g t c =
    let cut = insert_middle g.met.K.Ord.total c.args.entry.now.key.value _ _ _ _
    c.node.invariant.tree.rising c.args.entry.now.value.value
    (sym (rw (c.deref.ensures, c.deref-2.ensures) at c.cmp.ensures) ∙ c.in-Equal.is) in
    let made = rw (c.in_ok-entry-in-Equal.ensures.key, c.in_ok-entry-in-Equal.ensures.value) at
    c.make_node-in-Equal.ensures.entries in
    rw (c.in-Some.is, ← c.deref-node.ensures, ← c.node.view_is, cut) made

pub returns-in_ok-right-in-Greater-clause-entries : goal.returns-in_ok-right-in-Greater-clause-entries
returns-in_ok-right-in-Greater-clause-entries g t c =
    let cut = insert_right g.met.K.Ord.total c.args.entry.now.key.value _ _ _ _
    c.node.invariant.tree.rising c.args.entry.now.value.value
    (sym (rw (c.deref.ensures, c.deref-2.ensures) at c.cmp.ensures) ∙ c.in-Greater.is) in
    rw (
      c.in-Some.is,
      ← c.deref-node.ensures,
      ← c.node.view_is,
      cut,
      ← c.in_ok-right-in-Greater.ensures.entries,
    ) c.balance-in-Greater.ensures.entries
