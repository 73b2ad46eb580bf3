use Rattle.nutmap.specs.Tree.{height_of}
use Rattle.nutmap.proofs.find.+collect_above.Given as goal

abbrev pub decreases-collect_above : goal.decreases-collect_above
decreases-collect_above g l = height_of l.link.now
