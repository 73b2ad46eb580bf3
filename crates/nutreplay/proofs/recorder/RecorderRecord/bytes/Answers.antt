use Rattle.std.proofs.Common.{◌≡◌, ◌++◌, refl, string_bytes, subst}
use Rattle.std.specs.Prelude.{OnSome}
use Rattle.nutcore.specs.Recording.{came_from}
use Rattle.nutreplay.proofs.Recording.{added, is_off, line_sent}
use Rattle.nutreplay.proofs.recorder.RecorderRecord.bytes.Goals as goal

pub returns-then-not-self : goal.returns-then-not-self
returns-then-not-self g c =
    added g.W.Sink.contents c.args.self.now _ (came_from c.args.from c.args.bytes.now)
    c.add_line_of_bytes-added.result refl refl c.is_none-self.ensures c.if-not-self.true
    (subst (λ line. OnSome c.add_line_of_bytes-added.result
    (string_bytes c.add_line_of_bytes-added.new.text ≡ string_bytes c.args.self.now.waiting ++
    line)) (line_sent c.args.self.now.list c.args.from c.args.bytes.now)
    c.add_line_of_bytes-added.ensures.line)
    c.add_line_of_bytes-added.ensures.lawful

pub returns-else-not-self : goal.returns-else-not-self
returns-else-not-self g c = is_off g.W.Sink.contents c.args.self.now
    (came_from c.args.from c.args.bytes.now) c.if-not-self.false
