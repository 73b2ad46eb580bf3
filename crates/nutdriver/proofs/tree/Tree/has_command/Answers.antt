use Rattle.std.proofs.Common.{sym, ap, ◌∙◌}
use Rattle.std.specs.Prelude.{is_some}
use Rattle.std.specs.BTreeMap.{is_at}
use Rattle.nutdriver.specs.Tree.{TreeState, byte_order, has_command}
use Rattle.nutdriver.proofs.TreeLemmas.{is_some-lookup, is_some-copied}
use Rattle.nutdriver.proofs.tree.Tree.has_command.Goals as goal

pub returns : goal.returns
returns c =
    c.is_some.ensures ∙ sym (is_some-copied c.get.result) ∙ ap is_some c.get.ensures
    ∙ is_some-lookup (is_at (byte_order c.args.name.now)) c.self.inside.commands
    ∙ ap (λ (t : TreeState). has_command t c.args.name.now) c.self.view_is
