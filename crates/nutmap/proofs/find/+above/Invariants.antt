use Rattle.nutmap.specs.Tree.{height_of}
use Rattle.nutmap.proofs.find.+above.Given as goal

abbrev pub decreases-above : goal.decreases-above
decreases-above g l = height_of l.link.now
