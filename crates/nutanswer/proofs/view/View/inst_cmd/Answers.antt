use Rattle.std.proofs.Common.{Err, ◌∙◌, ap}
use Rattle.std.proofs.lemmas.Result.{err_from_is_err_and}
use Rattle.nutanswer.specs.View.{asker_seen}
use Rattle.std.specs.Prelude.{ℕ, List, Option}
use Rattle.nutanswer.specs.Checks.{user}
use Rattle.nutanswer.specs.Orders.{instcmd_right}
use Rattle.nutanswer.specs.Promises.{live_command}
use Rattle.nutanswer.proofs.Rows.{instcmd_refused}
use Rattle.nutanswer.proofs.view.View.inst_cmd.Goals as goal

pub returns-in_err-ups : goal.returns-in_err-ups
returns-in_err-ups g c =
    let s = c.args.self.now in
    let a = asker_seen c.args.asker in
    let right = c.in_ok-user_of_command.ensures ∙
    ap (λ (name : Option (List ℕ)). user s a (instcmd_right name)) c.read-name.ensures in
    let found = c.in_err-ups.ensures ∙ ap (live_command s c.args.ups.now) c.read-name.ensures in
    let p = err_from_is_err_and c.from_residual-in_err-ups.result c.from_residual-in_err-ups.ensures.1 in
    instcmd_refused s a c.args.ups.now c.args.name.now c.args.value.now right
    c.in_err-ups.field-0.0 found c.from_residual-in_err-ups.result (p.1 ∙ ap Err p.2)
