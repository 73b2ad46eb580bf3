use Rattle.nutmap.proofs.Next.{after_walk}
use Rattle.nutmap.proofs.laws.after_walks_the_entries.Goals as goal

pub returns : goal.returns
returns g c = λ map key rising. after_walk g.met.K.Ord.total map rising key
