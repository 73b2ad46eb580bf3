use Rattle.std.proofs.Common.{◌≡◌, ◌+◌, max, arith}
use Rattle.nutmap.specs.Tree.{height_of}
use Rattle.nutmap.proofs.Heights.{node_tree}
use Rattle.nutmap.proofs.tree.make_node.Goals as goal

pub invariant_of-node : goal.invariant_of-node
invariant_of-node g c =
    let is : c.max-height.result + 1 ≡
    max (height_of c.args.left.now) (height_of c.args.right.now) + 1 =
    omega (arith, c.max-height.ensures, c.height.ensures.height, c.height-2.ensures.height) in
    rw (
      c.in_ok-left.ensures.entries,
      c.in_ok-left.ensures.height,
      c.in_ok-right.ensures.entries,
      c.in_ok-right.ensures.height,
      c.in_ok-entry.ensures.key,
      c.in_ok-entry.ensures.value,
    ) (node_tree g.K.Ord.cmp g.V.Marked.marked _ _ _ _ _ _ _ c.height.ensures.tree
    c.height-2.ensures.tree c.requires.rising c.requires.balanced is c.node_has_marked-has_marked.ensures)
