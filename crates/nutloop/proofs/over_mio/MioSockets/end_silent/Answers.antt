use Rattle.std.proofs.Common.{◌∙◌, ap, length, subst, sym}
use Rattle.nutloop.specs.Places.{NobodyIsSilent}
use Rattle.nutloop.proofs.Places.{nobody_stays, refilled}
use Rattle.nutloop.proofs.over_mio.MioSockets.end_silent.Goals as goal

pub returns-in-Some-clause-nobody : goal.returns-in-Some-clause-nobody
returns-in-Some-clause-nobody g c =
    let all = refilled c.args.self.now.clients.items c.end_silent.new.clients
    (c.end_silent.ensures.places ∙ ap length c.as_mut_slice.ensures.value) in
    let stays = nobody_stays c.args.server.now.state c.in-Some.idle c.args.self.now.second
    c.as_mut_slice.result.now c.end_silent.new.clients
    c.end_silent.ensures in
    subst (λ clients. NobodyIsSilent c.args.server.now.state c.args.self.now.rules.idle
    c.args.self.now.second clients) (sym all)
    (subst (λ idle. NobodyIsSilent c.args.server.now.state idle c.args.self.now.second
    c.end_silent.new.clients) (sym c.in-Some.is) stays)
