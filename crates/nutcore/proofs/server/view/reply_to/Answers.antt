use Rattle.std.proofs.Common.{◌∙◌, [], Option, Ok, refl, ap}
use Rattle.nutcommand.specs.declared.command.Command.{Command}
use Rattle.nutanswer.specs.View.{asker_seen}
use Rattle.nutcore.specs.Reply.{refusal_by}
use Rattle.nutcore.proofs.Serving.{replies_nothing, answers_each}
use Rattle.nutcore.proofs.server.view.reply_to.Goals as goal

pub returns-in-Err : goal.returns-in-Err
returns-in-Err c s n line sees asks read = ap (refusal_by s n) (read ∙ c.in-Err.is)

pub returns-in-None : goal.returns-in-None
returns-in-None c s n line sees asks read =
    replies_nothing s n line (record { ref_ptr = (0, 0); now = [] })
    (read ∙ c.in-Ok.is ∙ ap (λ (o : Option Command). Ok o) c.in-None.is) refl

pub returns-in-Some : goal.returns-in-Some
returns-in-Some c s n line sees asks read =
    answers_each c.args.view.now (asker_seen c.args.asker) c.in-Some.command c.answer.result
    c.answer.ensures.ok c.answer.ensures.memory s n line sees asks
    (read ∙ c.in-Ok.is ∙ ap (λ (o : Option Command). Ok o) c.in-Some.is)
