use Rattle.nutcore.proofs.Due.{nothing_is_due}
use Rattle.nutcore.proofs.laws.nothing_due_is_slept_over.Goals as goal

pub returns : goal.returns
returns c = nothing_is_due
