use Rattle.nutcore.proofs.TakingAmongOthers.{takes_some}
use Rattle.nutcore.proofs.laws.who_takes_gets_everything.Goals as goal

pub returns-clause-among_others : goal.returns-clause-among_others
returns-clause-among_others c = takes_some
