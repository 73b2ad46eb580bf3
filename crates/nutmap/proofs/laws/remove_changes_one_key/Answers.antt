use Rattle.nutmap.proofs.Changes.{remove_changes}
use Rattle.nutmap.proofs.laws.remove_changes_one_key.Goals as goal

pub returns : goal.returns
returns g c = λ map key rising. remove_changes g.met.K.Ord.total map rising key
