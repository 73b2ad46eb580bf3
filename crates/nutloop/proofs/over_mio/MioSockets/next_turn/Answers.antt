use Rattle.nutloop.specs.Pass.{again, goes_on}
use Rattle.nutloop.proofs.Answering.{going_on, of_next_pass}
use Rattle.nutloop.proofs.over_mio.MioSockets.next_turn.Goals as goal

pub returns-clause-gives : goal.returns-clause-gives
returns-clause-gives g c =
    let pass = going_on (goes_on c.visit.new.self.pass) (again c.visit.new.self.pass)
    c.in_ok-self.field-0 c.in_ok-self.ensures in
    of_next_pass c.args.server.now.state c.args.self.now c.visit.new.self c.visit-2.new.self
    c.in_ok-self.field-0 c.visit-2.result c.in_default.ensures.same c.in_default.ensures.gives pass.0 pass.1
    c.visit-2.ensures.same c.visit-2.ensures.gives
