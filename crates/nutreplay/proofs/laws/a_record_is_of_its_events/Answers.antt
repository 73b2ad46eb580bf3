use Rattle.nutreplay.proofs.Recording.{of_its_events}
use Rattle.nutreplay.proofs.laws.a_record_is_of_its_events.Goals as goal

pub returns : goal.returns
returns g c = of_its_events g.W.Sink.contents g.W.Sink.failures
