use Rattle.nutreplay.proofs.Recording.{goes_on}
use Rattle.nutreplay.proofs.recorder.RecorderRecord.pause.Goals as goal

pub returns-clause-goes_on : goal.returns-clause-goes_on
returns-clause-goes_on g c = goes_on g.W.Sink.contents g.W.Sink.failures c.args.self.now
    c.flush.new.self c.flush.ensures
