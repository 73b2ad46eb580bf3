use Rattle.std.proofs.Common.{◌<◌, length, sym, subst, refl}
use Rattle.std.specs.Prelude.{IsNone}
use Rattle.nutdriver.specs.declared.limits.TheConstants.{VARIABLE_LIMIT}
use Rattle.nutdriver.specs.Tree.{TreeState, variable_at}
use Rattle.nutdriver.proofs.TreeLemmas.{few_inserted}
use Rattle.nutdriver.proofs.tree.Tree.put_back.Goals as goal

pub invariant_of-self-in-Ok-Some : goal.invariant_of-self-in-Ok-Some
invariant_of-self-in-Ok-Some c =
    let P : TreeState → Type 0 = λ t. IsNone (variable_at t c.args.name.now) →
    length t.variables < VARIABLE_LIMIT in
    let room = subst P (sym c.self.view_is) c.requires in
    let few = few_inserted c.changes_count_one_entry.ensures.added
    c.changes_count_one_entry.ensures.replaced c.args.name.now c.in-Ok-Some.variable VARIABLE_LIMIT
    c.self.inside.variables c.insert.ensures.rising c.self.invariant.0 room in
    (rw (c.in_ok-insert-in-Ok-Some.ensures.ok, c.copied.ensures) few, c.self.invariant.1, c.self.invariant.2)

pub returns-in_ok-insert-in-Ok-Some-clause-ok : goal.returns-in_ok-insert-in-Ok-Some-clause-ok
returns-in_ok-insert-in-Ok-Some-clause-ok c =
    rw (c.in-Ok-Some.is, c.in-Ok-Some.field-0-is)
    (rw (← c.self.view_is, c.in_ok-insert-in-Ok-Some.ensures.ok, c.copied.ensures) refl)
