use Rattle.nutcore.proofs.Isolation.{client_alone}
use Rattle.nutcore.proofs.laws.a_client_touches_no_other.Goals as goal

pub returns : goal.returns
returns c = client_alone
