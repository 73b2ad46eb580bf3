use Rattle.nutcore.proofs.Endings.{asked_no_more}
use Rattle.nutcore.proofs.laws.who_is_over_is_asked_no_more.Goals as goal

pub returns : goal.returns
returns c = asked_no_more
