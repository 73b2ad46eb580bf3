use Rattle.nutmap.specs.Tree.{height_of}
use Rattle.nutmap.proofs.find.+collect.Given as goal

abbrev pub decreases-collect : goal.decreases-collect
decreases-collect g l = height_of l.link.now
