use Rattle.std.proofs.Common.{◌≡◌, [], ◌∷◌, Result, Ok, refl, sym, subst}
use Rattle.std.specs.Prelude.{codes}
use Rattle.nutcommand.specs.declared.err_word.ErrWord.{ErrWord}
use Rattle.nutcommand.specs.declared.command.Command.TheVariants as commands
use Rattle.nutanswer.specs.declared.reply.Change.TheVariants.{Fsd}
use Rattle.nutanswer.specs.View.{asker_seen}
use Rattle.nutanswer.specs.Checks.{known_ups}
use Rattle.nutanswer.specs.Answer.{Answer, one_line, answer_to, IsOneLine}
use Rattle.nutanswer.specs.Promises.{ups_of_known}
use Rattle.nutanswer.proofs.Carried.{own, own_line}
use Rattle.nutanswer.proofs.view.View.fsd.Goals as goal

pub returns : goal.returns
returns g c =
    let s = c.args.self.now in
    let u = ups_of_known c.in_ok-ups.ups in
    let found : known_ups s c.args.ups.now ≡ Ok u = sym c.in_ok-ups.ensures in
    let row : answer_to s (asker_seen c.args.asker) (commands.Fsd c.args.ups.now) ≡
    Ok (one_line (codes "OK" ∷ codes "FSD-SET" ∷ []) (Fsd u.id)) = rw (← c.in_ok-user.ensures, found) refl in
    subst (λ (answer : Result Answer ErrWord). IsOneLine answer (codes "OK FSD-SET\n") (Fsd u.id)) (sym row)
    (own (codes "OK FSD-SET") (codes "OK" ∷ codes "FSD-SET" ∷ []) (Fsd u.id) refl
    (own_line (codes "OK FSD-SET") refl refl))
