use Rattle.nutmap.proofs.Next.{after_next}
use Rattle.nutmap.proofs.laws.after_is_next.Goals as goal

pub returns : goal.returns
returns g c = λ map key rising. after_next g.met.K.Ord.total map rising key
