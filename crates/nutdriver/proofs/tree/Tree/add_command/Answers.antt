use Rattle.std.proofs.Common.{◌≡◌, ◌<◌, ◌∙◌, false, Ok, length, ap, refl, sym, arith}
use Rattle.std.specs.Prelude.{nat_le}
use Rattle.std.proofs.lemmas.Bool.Decides.{nat_tests}
use Rattle.std.proofs.lemmas.Map.Entries.{length-keys_of}
use Rattle.nutdriver.specs.declared.effect.Effect.TheVariants.{Changed}
use Rattle.nutdriver.specs.declared.limits.TheConstants.{COMMAND_LIMIT}
use Rattle.nutdriver.specs.declared.line.DriverLine.TheVariants.{AddCmd}
use Rattle.nutdriver.specs.DriverStep.{driver_step}
use Rattle.nutdriver.specs.Tree.{TreeState, byte_order, has_command, with_command}
use Rattle.nutdriver.proofs.TreeLemmas.{few_inserted, keys_of-insert_entry}
use Rattle.nutdriver.proofs.tree.Tree.add_command.Goals as goal

pub invariant_of-self-2 : goal.invariant_of-self-2
invariant_of-self-2 c =
    let room : length c.self.inside.commands < COMMAND_LIMIT = omega arith in
    let few = few_inserted c.changes_count_one_entry.ensures.added
    c.changes_count_one_entry.ensures.replaced c.args.name.now tt COMMAND_LIMIT
    c.self.inside.commands c.insert.ensures.rising c.self.invariant.1 (λ absent. room) in
    (c.self.invariant.0, rw (c.in_ok-insert.ensures.ok, c.copied.ensures) few, c.self.invariant.2)

pub returns-clause-step : goal.returns-clause-step
returns-clause-step c =
    let tree = c.args.self.now in
    let name = c.args.name.now in
    let few : length c.self.inside.commands < COMMAND_LIMIT = omega arith in
    let room : length tree.commands < COMMAND_LIMIT =
    omega (
      arith,
      ap (λ (t : TreeState). length t.commands) c.self.view_is,
      length-keys_of c.self.inside.commands,
      few,
    ) in
    let none : has_command tree name ≡ false = sym c.has_command.ensures ∙ c.if-has_command.false in
    let fits : nat_le COMMAND_LIMIT (length tree.commands) ≡ false = grind (arith, nat_tests, room) in
    let step : driver_step tree (AddCmd name) ≡ Ok (with_command tree name, Changed) = rw (none, fits) refl in
    step ∙ rw (
      ← c.self.view_is,
      c.in_ok-insert.ensures.ok,
      c.copied.ensures,
      keys_of-insert_entry byte_order c.args.name.now tt c.self.inside.commands,
    ) refl
