use Rattle.std.proofs.Common.{Err, ◌∷◌, ◌∙◌, ap, sym}
use Rattle.std.specs.Prelude.{codes}
use Rattle.std.specs.Result.{result_err}
use Rattle.std.proofs.lemmas.Result.{err_from_is_err_and}
use Rattle.nutlisting.specs.Types.{type_words}
use Rattle.nutanswer.specs.Answer.{in_one_line, shares_version, text_of_answer, change_of_answer}
use Rattle.nutanswer.specs.Promises.{variable_of_known, live_variable}
use Rattle.nutanswer.proofs.Rows.{refused_line, with_variable, without_variable}
use Rattle.nutanswer.proofs.view.View.get_type.Goals as goal

pub returns : goal.returns
returns g c =
    let s = c.args.self.now in
    let found = c.in_ok-ups.ensures ∙ ap (live_variable s c.args.ups.now) c.read-name.ensures in
    let k = variable_of_known (c.in_ok-ups.ups, c.in_ok-ups.name, c.in_ok-ups.variable) in
    let row = with_variable s c.args.ups.now c.args.name.now
    (λ u v x. in_one_line (codes "TYPE" ∷ u.name ∷ v ∷ type_words x)) k found in
    record {
      text = c.type_line_into.ensures.text ∙ ap text_of_answer (sym row);
      changes = ap change_of_answer (sym row);
      one = ap shares_version row;
      granted = ap result_err row;
      whole_line = c.type_line_into.ensures.whole;
    }

pub returns-in_err-ups : goal.returns-in_err-ups
returns-in_err-ups g c =
    let s = c.args.self.now in
    let missing = c.in_err-ups.ensures ∙ ap (live_variable s c.args.ups.now) c.read-name.ensures in
    let p = err_from_is_err_and c.from_residual.result c.from_residual.ensures.1 in
    refused_line _ c.in_err-ups.field-0.0 c.from_residual.result _
    (without_variable s c.args.ups.now c.args.name.now
    (λ u v x. in_one_line (codes "TYPE" ∷ u.name ∷ v ∷ type_words x)) c.in_err-ups.field-0.0 missing)
    (p.1 ∙ ap Err p.2)
