use Rattle.std.proofs.Common.{Err, ◌∷◌, [], ◌∙◌, ap}
use Rattle.std.specs.Prelude.{codes}
use Rattle.std.proofs.lemmas.Result.{err_from_is_err_and}
use Rattle.nutwords.specs.Spelling.{quoted}
use Rattle.nutlisting.specs.Shown.{shown}
use Rattle.nutanswer.specs.Answer.{in_one_line}
use Rattle.nutanswer.specs.Promises.{live_variable}
use Rattle.nutanswer.proofs.Rows.{refused_line, without_variable}
use Rattle.nutanswer.proofs.view.View.get_var.Goals as goal

pub returns-in_err-ups : goal.returns-in_err-ups
returns-in_err-ups g c =
    let s = c.args.self.now in
    let missing = c.in_err-ups.ensures ∙ ap (live_variable s c.args.ups.now) c.read-name.ensures in
    let p = err_from_is_err_and c.from_residual.result c.from_residual.ensures.1 in
    refused_line _ c.in_err-ups.field-0.0 c.from_residual.result _
    (without_variable s c.args.ups.now c.args.name.now
    (λ u v x. in_one_line (codes "VAR" ∷ u.name ∷ v ∷ quoted (shown u.state.fsd v x) ∷ []))
    c.in_err-ups.field-0.0 missing)
    (p.1 ∙ ap Err p.2)
