use Rattle.std.proofs.Common.{◌≡◌, Some, refl, rules, subst, sym}
use Rattle.nutloop.specs.declared.over_mio.MioSockets.{MioSockets}
use Rattle.nutloop.specs.declared.over_mio.places.Admission.TheVariants.{After, SentAway}
use Rattle.nutloop.specs.Places.{Decides, LetsGo, SendsAway}
use Rattle.nutloop.proofs.Places.{becomes}
use Rattle.nutloop.proofs.over_mio.MioSockets.admit.Goals as goal

pub returns : goal.returns
returns g c =
    let x = c.in_ok-newcomer.newcomer.now in
    let s = c.args.server.now.state in
    let old = c.args.self.now in
    let there : old.entrance.newcomer ≡ Some x = search rules in
    let decided : Decides s old x (Some c.in_ok-decision.field-0) = c.in_ok-decision.ensures in
    elim c.match-branch-3.branch [
      | goal.in-After w ↦ becomes s old c.match-branch-3.self x (After w.in-After.place) there
          (rw w.in-After.is at decided)
          (refl, subst (λ (m : MioSockets _ _). LetsGo w.in-After.place old m) (sym w.self-is) w.let_go.ensures)
      | goal.in-SentAway w ↦ becomes s old c.match-branch-3.self x SentAway there (rw w.in-SentAway.is at decided)
          (refl, subst (λ (m : MioSockets _ _). SendsAway old m) (sym w.self-is) w.send_away.ensures)
    ]
