use Rattle.nutdriver.proofs.TreeLemmas.{is_there}
use Rattle.nutdriver.proofs.tree.Tree.put_info.Goals as goal

pub put_back-requires : goal.put_back-requires
put_back-requires c = λ absent. is_there c.get.result _ c.in-Some.variable c.get.ensures c.in-Some.is absent
