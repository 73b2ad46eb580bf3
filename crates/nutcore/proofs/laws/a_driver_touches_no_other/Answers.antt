use Rattle.nutcore.proofs.Isolation.{driver_alone}
use Rattle.nutcore.proofs.laws.a_driver_touches_no_other.Goals as goal

pub returns : goal.returns
returns c = driver_alone
