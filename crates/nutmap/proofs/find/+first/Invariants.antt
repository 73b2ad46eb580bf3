use Rattle.nutmap.specs.Tree.{height_of}
use Rattle.nutmap.proofs.find.+first.Given as goal

abbrev pub decreases-first : goal.decreases-first
decreases-first g l = height_of l.link.now
