use Rattle.nutcore.proofs.Bounded.{bounded}
use Rattle.nutcore.proofs.laws.each_event_is_bounded.Goals as goal

pub returns : goal.returns
returns c = bounded
