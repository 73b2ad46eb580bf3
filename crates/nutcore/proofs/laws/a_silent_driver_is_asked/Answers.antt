use Rattle.nutcore.proofs.FreshRuns.{silent_asked}
use Rattle.nutcore.proofs.laws.a_silent_driver_is_asked.Goals as goal

pub returns : goal.returns
returns c = silent_asked
