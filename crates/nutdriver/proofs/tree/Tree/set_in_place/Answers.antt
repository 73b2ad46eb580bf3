use Rattle.std.proofs.Common.{◌≡◌, refl, rules}
use Rattle.nutdriver.specs.declared.limits.TheConstants.{VARIABLE_LIMIT}
use Rattle.nutdriver.specs.Variable.{with_value}
use Rattle.nutdriver.proofs.TreeLemmas.{few_changed, of_call}
use Rattle.nutdriver.proofs.tree.Tree.set_in_place.Goals as goal

pub invariant_of-self : goal.invariant_of-self
invariant_of-self c = (
  few_changed c.changes_count_one_entry.ensures.replaced c.args.name.now VARIABLE_LIMIT
      c.change_in_place.result c.self.inside.variables _ c.change_in_place.ensures.rising
      c.change_in_place.ensures.changed c.change_in_place.ensures.unchanged c.self.invariant.0,
  c.self.invariant.1,
  c.self.invariant.2,
)

pub returns-clause-changed : goal.returns-clause-changed
returns-clause-changed c = λ is.
    let d = c.change_in_place.ensures.changed is in
    let after : d.after ≡ with_value c.args.value.now d.before =
    of_call (λ x y. y ≡ with_value c.args.value.now x) d.called (search rules) in
    rw (← c.self.view_is, d.there, d.leaves, after) refl
