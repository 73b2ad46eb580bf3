use Rattle.std.proofs.Common.{ℕ, List, Option, sym, ap, ◌∙◌}
use Rattle.nutanswer.specs.View.{asker_seen}
use Rattle.nutanswer.specs.Checks.{user}
use Rattle.nutanswer.specs.Orders.{right_to, instcmd_right}
use Rattle.nutanswer.proofs.RightLemmas.{user_by_bytes}
use Rattle.nutanswer.proofs.view.View.user_of_command.Goals as goal

pub returns-in-Some : goal.returns-in-Some
returns-in-Some g c =
    let s = c.args.self.now in
    let a = asker_seen c.args.asker in
    c.user.ensures ∙ user_by_bytes s a c.as_bytes.result ∙
    ap (λ (name : List ℕ). user s a (right_to name)) c.as_bytes.ensures.value
    ∙ ap (λ (name : Option (List ℕ)). user s a (instcmd_right name)) (sym c.in-Some.is)

pub returns-in-None : goal.returns-in-None
returns-in-None g c =
    let s = c.args.self.now in
    let a = asker_seen c.args.asker in
    c.user-in-None.ensures ∙ user_by_bytes s a _ ∙
    ap (λ (name : Option (List ℕ)). user s a (instcmd_right name)) (sym c.in-None.is)
