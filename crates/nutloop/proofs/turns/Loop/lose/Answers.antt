use Rattle.std.proofs.Common.{subst}
use Rattle.nutcore.specs.declared.event.Event.{Event}
use Rattle.nutloop.specs.Turn.{Happens, loss_of}
use Rattle.nutloop.proofs.Rows.{does_then, shut_behind}
use Rattle.nutloop.proofs.turns.Loop.lose.Goals as goal

pub returns : goal.returns
returns g c =
    does_then g.S.Sockets.told g.R.Record.holds (loss_of c.args.p) c.happens.result c.args.self.now
    c.happens.new.self c.shut.new.self _
    (subst (λ (e : Event). Happens g.R.Record.holds e c.args.self.now c.happens.result c.happens.new.self)
    c.loss_of.ensures c.happens.ensures) (shut_behind c.args.p c.happens.result) c.shut.ensures
