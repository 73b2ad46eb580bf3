use Rattle.std.proofs.Common.{◌∙◌, Option, ap, sym, arith, length, drop}
use Rattle.nutlisting.specs.Counts.{lines}
use Rattle.nutcore.proofs.Common.{SessionState, ServerState, session}
use Rattle.nutcore.specs.Step.{offered}
use Rattle.nutcore.specs.Cost.{RunningServer}
use Rattle.nutcore.specs.contracts.server.Server.{the_view}
use Rattle.nutcore.proofs.Runs.{state_is}
use Rattle.nutcore.proofs.Serving.{found_in, stands}
use Rattle.nutcore.proofs.Costs.{placed_behind}
use Rattle.nutcore.proofs.server.Server.serve.Goals as goal

pub overflow_sub-self : goal.overflow_sub-self
overflow_sub-self c =
    let s : ServerState = c.pump-pumped.new.self.state in
    let x : SessionState = c.index-session.result.now in
    let found = found_in (state_is c.self.view_is) c.pump-pumped.ensures.at c.index-session.ensures in
    let within = rw found at (c.pump-pumped.ensures.keeps c.args.kept c.requires.counted).within in
    omega (arith, within, c.offered.ensures)

pub returns-clause-cost : goal.returns-clause-cost
returns-clause-cost c =
    let v : ServerState = (the_view c.self.inside).state in
    let s : ServerState = c.pump-pumped.new.self.state in
    let x : SessionState = c.index-session.result.now in
    let here = stands (state_is c.self.view_is) c.pump-pumped.ensures.at c.index-session.ensures in
    placed_behind (offered (session c.args.c v)) c.args.kept c.self.inside.scratch.renders c.offered.result
    (ap (λ (r : RunningServer). r.cost.rendered) c.self.view_is ∙
    (c.pump-pumped.ensures.keeps c.args.kept c.requires.counted).counted ∙
    ap (λ (z : ServerState). lines (drop c.args.kept (offered (session c.args.c z)))) (sym (state_is c.self.view_is)))
    (c.offered.ensures ∙ sym (ap (λ (o : Option SessionState). length (offered o)) here.found))
