use Rattle.nutanswer.proofs.Commands.{answered_fresh}
use Rattle.nutanswer.proofs.laws.what_is_answered_is_fresh.Goals as goal

pub returns : goal.returns
returns c = answered_fresh
