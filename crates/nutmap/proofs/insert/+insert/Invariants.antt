use Rattle.nutmap.specs.Tree.{height_of}
use Rattle.nutmap.proofs.insert.+insert.Given as goal

abbrev pub decreases-insert : goal.decreases-insert
decreases-insert g l = height_of l.link.now
