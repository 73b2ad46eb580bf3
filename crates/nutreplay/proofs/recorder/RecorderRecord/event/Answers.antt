use Rattle.std.proofs.Common.{refl}
use Rattle.nutreplay.proofs.Recording.{added, is_off}
use Rattle.nutreplay.proofs.recorder.RecorderRecord.event.Goals as goal

pub returns-then-not-self : goal.returns-then-not-self
returns-then-not-self g c =
    added g.W.Sink.contents c.args.self.now _ c.args.event.now c.add_line.result refl refl
    c.is_none-self.ensures c.if-not-self.true c.add_line.ensures.line c.add_line.ensures.lawful

pub returns-else-not-self : goal.returns-else-not-self
returns-else-not-self g c = is_off g.W.Sink.contents c.args.self.now c.args.event.now c.if-not-self.false
