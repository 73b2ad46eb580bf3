use Rattle.std.specs.BTreeMap.{is_at}
use Rattle.nutmap.proofs.Ordered.{keys_stay_rising, rest_stays_rising}
use Rattle.nutmap.proofs.laws.changes_keep_keys_rising.Goals as goal

pub returns-clause-inserted : goal.returns-clause-inserted
returns-clause-inserted g c = λ map key value rising. keys_stay_rising g.met.K.Ord.total key value map rising

pub returns-clause-removed : goal.returns-clause-removed
returns-clause-removed g c = λ map key rising. rest_stays_rising g.met.K.Ord.total (is_at (g.K.Ord.cmp key)) map rising
