use Rattle.nutmap.proofs.Marks.{marked_walk}
use Rattle.nutmap.proofs.laws.marked_after_walks_the_marked_entries.Goals as goal

pub returns : goal.returns
returns g c = λ map key s. marked_walk g.V.Marked.marked g.met.K.Ord.total map s key
