use Rattle.nutmap.proofs.Heights.{empty_tree}
use Rattle.nutmap.proofs.tree.height.Goals as goal

pub returns-in-None-clause-tree : goal.returns-in-None-clause-tree
returns-in-None-clause-tree g c = rw c.in-None.is (empty_tree g.K.Ord.cmp)
