use Rattle.nutmap.specs.Tree.{height_of}
use Rattle.nutmap.proofs.remove.+remove.Given as goal

abbrev pub decreases-remove : goal.decreases-remove
decreases-remove g l = height_of l.link.now
