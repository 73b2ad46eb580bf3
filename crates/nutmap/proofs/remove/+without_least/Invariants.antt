use Rattle.nutmap.proofs.remove.+without_least.Given as goal

abbrev pub decreases-without_least : goal.decreases-without_least
decreases-without_least g l = l.node.now.1
