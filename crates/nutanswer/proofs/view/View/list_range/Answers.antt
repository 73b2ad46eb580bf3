use Rattle.std.proofs.Common.{Ok, Err, Some, ◌∙◌, ap}
use Rattle.std.proofs.lemmas.Result.{err_from_is_err_and}
use Rattle.nutanswer.specs.Answer.{listing}
use Rattle.nutlisting.specs.Items.{range_listing}
use Rattle.nutanswer.specs.Promises.{live_variable}
use Rattle.nutanswer.proofs.Rows.{refused_listing, without_variable}
use Rattle.nutanswer.proofs.view.View.list_range.Goals as goal

pub returns-in_err-ups : goal.returns-in_err-ups
returns-in_err-ups g c =
    let s = c.args.self.now in
    let missing = c.in_err-ups.ensures ∙ ap (live_variable s c.args.ups.now) c.read-name.ensures in
    let p = err_from_is_err_and c.from_residual.result c.from_residual.ensures.1 in
    refused_listing _ c.in_err-ups.field-0.0 c.from_residual.result
    (without_variable s c.args.ups.now c.args.name.now
    (λ u v x. Ok (listing (range_listing u.name v (Some x)))) c.in_err-ups.field-0.0 missing)
    (p.1 ∙ ap Err p.2)
