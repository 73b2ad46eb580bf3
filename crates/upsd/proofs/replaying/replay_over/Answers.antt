use Rattle.std.proofs.Common.{◌≡◌, ◌∙◌, ap}
use Rattle.nutcore.specs.Server.{ServerState, new_server}
use Rattle.nutreplay.specs.Script.{max_age_of}
use Rattle.upsd.proofs.Replayed.{ends_over}
use Rattle.upsd.proofs.replaying.replay_over.Goals as goal

pub returns : goal.returns
returns g c =
    let read = c.in_ok-lines.ensures in
    let is : c.in_ok-server.server.state ≡
    new_server c.args.of.list c.args.of.users c.args.of.descriptions (max_age_of c.in_ok-lines.lines.items) =
    ap (λ s. s.state) c.in_ok-server.ensures.serves ∙
    ap (λ age. new_server c.args.of.list c.args.of.users c.args.of.descriptions age)
    (c.max_age_of.ensures ∙ ap max_age_of c.deref.ensures.value) in
    ends_over g.W.Sink.contents g.W.Sink.failures (g.R.FileReader.gives c.args.reader.now) c.args.of
    c.args.script read.0 c.in_ok-lines.lines.items c.in_ok-server.server.state c.args.out.now
    c.replay_lines.result _ read.1 read.2 is
    (rw c.deref-2.ensures.value at c.replay_lines.ensures)
