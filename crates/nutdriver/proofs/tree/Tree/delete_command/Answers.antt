use Rattle.std.proofs.Common.{◌≡◌, ◌∙◌, true, Ok, refl, sym}
use Rattle.std.specs.BTreeMap.{is_at}
use Rattle.nutdriver.specs.declared.effect.Effect.TheVariants.{Changed}
use Rattle.nutdriver.specs.declared.limits.TheConstants.{COMMAND_LIMIT}
use Rattle.nutdriver.specs.declared.line.DriverLine.TheVariants.{DelCmd}
use Rattle.nutdriver.specs.DriverStep.{driver_step}
use Rattle.nutdriver.specs.Tree.{byte_order, has_command, without_command}
use Rattle.nutdriver.proofs.TreeLemmas.{few_removed, keys_of-remove_entry}
use Rattle.nutdriver.proofs.tree.Tree.delete_command.Goals as goal

pub invariant_of-self-2 : goal.invariant_of-self-2
invariant_of-self-2 c = (
  c.self.invariant.0,
  rw c.in_ok-remove.ensures.ok
      (few_removed c.changes_count_one_entry.ensures.taken_out
      c.changes_count_one_entry.ensures.absent c.args.name.now COMMAND_LIMIT c.self.inside.commands c.self.invariant.1),
  c.self.invariant.2,
)

pub returns-clause-step : goal.returns-clause-step
returns-clause-step c =
    let tree = c.args.self.now in
    let name = c.args.name.now in
    let there : has_command tree name ≡ true = sym c.has_command.ensures ∙ c.if-not-has_command.false in
    let step : driver_step tree (DelCmd name) ≡ Ok (without_command tree name, Changed) = rw there refl in
    step ∙ rw (
      ← c.self.view_is,
      c.in_ok-remove.ensures.ok,
      keys_of-remove_entry (is_at (byte_order c.args.name.now)) c.self.inside.commands,
    ) refl
