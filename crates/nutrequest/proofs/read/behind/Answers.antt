use Rattle.std.proofs.Common.{◌∙◌}
use Rattle.nutrequest.proofs.Joining.{nothing_behind}
use Rattle.nutrequest.proofs.read.behind.Goals as goal

pub returns-in_err-first : goal.returns-in_err-first
returns-in_err-first c =
    c.from_residual.ensures
    ∙ nothing_behind c.args.front.now c.loop-word.word-index c.loop-word-test.true
    c.loop-word.words c.in_err-first.ensures.steps.0
    ∙ c.loop-word.invariant
