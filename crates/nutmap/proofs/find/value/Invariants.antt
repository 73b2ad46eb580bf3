use Rattle.std.proofs.Common.{◌≡◌}
use Rattle.nutmap.specs.Entries.{value_at}
use Rattle.nutmap.specs.Tree.{entries_of, height_of}
use Rattle.nutmap.proofs.find.value.Given as goal

-- the key has the same value in the rest as in the whole tree
abbrev pub invariant-loop-rest : goal.invariant-loop-rest
invariant-loop-rest g l = value_at g.K.Ord.cmp (entries_of l.link) l.key ≡
    value_at g.K.Ord.cmp (entries_of l.rest) l.key

abbrev pub decreases-loop-rest : goal.decreases-loop-rest
decreases-loop-rest g l = height_of l.rest
