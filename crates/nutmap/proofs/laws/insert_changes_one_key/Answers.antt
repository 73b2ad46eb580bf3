use Rattle.nutmap.proofs.Changes.{insert_changes}
use Rattle.nutmap.proofs.laws.insert_changes_one_key.Goals as goal

pub returns : goal.returns
returns g c = λ map key value rising. insert_changes g.met.K.Ord.total map key value
