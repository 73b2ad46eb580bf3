use Rattle.std.proofs.Common.{◌∙◌, subst}
use Rattle.nutio.specs.Ends.{SendGives}
use Rattle.nutclient.proofs.ending.report.Goals as goal

pub returns : goal.returns
returns g c =
    let sent = subst
    (λ text. SendGives g.E.Sink.contents g.E.Sink.failures text c.args.err.now c.send.result c.send.new.writer)
    (c.deref.ensures.0 ∙ c.fault_lines.ensures) c.send.ensures in
    (c.status.ensures, c.send.result, sent)
