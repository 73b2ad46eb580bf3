use Rattle.std.proofs.Common.{◌-◌, ◌+◌, ◌≤◌}
use Rattle.nutmap.specs.Waste.{nodes_in, AreKept}
use Rattle.nutmap.proofs.waste.take_apart.Given as goal

-- what was taken apart doesn't wait any more
abbrev pub invariant-loop-count : goal.invariant-loop-count
invariant-loop-count g l = record {
  kept : AreKept l.trees;
  most : l.count ≤ l.most;
  fewer : nodes_in l.trees.items + l.count ≤ nodes_in l.fn.trees.items;
}

abbrev pub decreases-loop-count : goal.decreases-loop-count
decreases-loop-count g l = l.most - l.count
