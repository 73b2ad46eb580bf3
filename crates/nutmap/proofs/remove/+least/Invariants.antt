use Rattle.nutmap.proofs.remove.+least.Given as goal

abbrev pub decreases-least : goal.decreases-least
decreases-least g l = l.node.now.1
