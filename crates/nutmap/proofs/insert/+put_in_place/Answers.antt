use Rattle.std.proofs.Common.{◌++◌, ◌∷◌, sym, ap, ◌∙◌}
use Rattle.std.proofs.lemmas.Result.{on_ok_weaker}
use Rattle.nutmap.specs.Tree.{entries_of}
use Rattle.nutmap.proofs.Ordered.{lookup_left, lookup_middle, lookup_right, insert_left, insert_middle, insert_right}
use Rattle.nutmap.proofs.insert.+put_in_place.Goals as goal

pub returns-in-Less-clause-before : goal.returns-in-Less-clause-before
returns-in-Less-clause-before g t c =
    let cut = lookup_left g.met.K.Ord.total c.args.key.now _ _ _ _ c.node.invariant.tree.rising
    (sym (rw c.deref.ensures at c.cmp.ensures) ∙ c.in-Less.is) in
    rw (c.in-Some.is, ← c.in-Some-get_mut.ensures.value, ← c.node.view_is, cut) c.put_in_place-before.ensures.before

pub returns-in-Less-clause-entries : goal.returns-in-Less-clause-entries
returns-in-Less-clause-entries g t c =
    let cut = insert_left g.met.K.Ord.total c.args.key.now _ _ _ _ c.node.invariant.tree.rising
    c.args.value.value (sym (rw c.deref.ensures at c.cmp.ensures) ∙ c.in-Less.is) in
    rw (c.in-Some.is, ← c.in-Some-get_mut.ensures.value, ← c.node.view_is, cut)
    (on_ok_weaker c.put_in_place-before.result
    (ap (λ es. es ++ (c.node.inside.entry.key.value, c.node.inside.entry.value.value) ∷
    entries_of c.node.inside.right)) c.put_in_place-before.ensures.entries)

pub returns-in-Equal-clause-before : goal.returns-in-Equal-clause-before
returns-in-Equal-clause-before g t c =
    rw (
      c.in-Some.is,
      ← c.in-Some-get_mut.ensures.value,
      ← c.node.view_is,
      c.replace-before.ensures.value,
    ) (lookup_middle g.met.K.Ord.total c.args.key.now _ _ _ _ c.node.invariant.tree.rising
    (sym (rw c.deref.ensures at c.cmp.ensures) ∙ c.in-Equal.is))

pub returns-in-Equal-clause-entries : goal.returns-in-Equal-clause-entries
returns-in-Equal-clause-entries g t c =
    let cut = insert_middle g.met.K.Ord.total c.args.key.now _ _ _ _ c.node.invariant.tree.rising
    c.args.value.value (sym (rw c.deref.ensures at c.cmp.ensures) ∙ c.in-Equal.is) in
    rw (c.in-Some.is, ← c.in-Some-get_mut.ensures.value, ← c.node.view_is, c.replace-before.ensures.after) (sym cut)

pub returns-in-Greater-clause-before : goal.returns-in-Greater-clause-before
returns-in-Greater-clause-before g t c =
    let cut = lookup_right g.met.K.Ord.total c.args.key.now _ _ _ _ c.node.invariant.tree.rising
    (sym (rw c.deref.ensures at c.cmp.ensures) ∙ c.in-Greater.is) in
    rw (c.in-Some.is, ← c.in-Some-get_mut.ensures.value, ← c.node.view_is, cut)
    c.put_in_place-before-in-Greater.ensures.before

pub returns-in-Greater-clause-entries : goal.returns-in-Greater-clause-entries
returns-in-Greater-clause-entries g t c =
    let cut = insert_right g.met.K.Ord.total c.args.key.now _ _ _ _ c.node.invariant.tree.rising
    c.args.value.value (sym (rw c.deref.ensures at c.cmp.ensures) ∙ c.in-Greater.is) in
    rw (c.in-Some.is, ← c.in-Some-get_mut.ensures.value, ← c.node.view_is, cut)
    (on_ok_weaker c.put_in_place-before-in-Greater.result
    (ap (λ es. entries_of c.node.inside.left ++
    (c.node.inside.entry.key.value, c.node.inside.entry.value.value) ∷ es))
    c.put_in_place-before-in-Greater.ensures.entries)
