use Rattle.nutdriver.specs.declared.limits.TheConstants.{VARIABLE_LIMIT}
use Rattle.nutdriver.proofs.TreeLemmas.{few_removed}
use Rattle.nutdriver.proofs.tree.Tree.delete_info.Goals as goal

pub invariant_of-self-2 : goal.invariant_of-self-2
invariant_of-self-2 c = (
  rw c.in_ok-remove.ensures.ok (few_removed c.changes_count_one_entry.ensures.taken_out
      c.changes_count_one_entry.ensures.absent c.args.name.now VARIABLE_LIMIT
      c.self.inside.variables c.self.invariant.0),
  c.self.invariant.1,
  c.self.invariant.2,
)
