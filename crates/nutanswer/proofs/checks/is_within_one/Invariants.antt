use Rattle.std.proofs.Common.{◌≡◌, drop}
use Rattle.std.specs.List.{list_any}
use Rattle.nutanswer.specs.Orders.{is_within}
use Rattle.nutanswer.proofs.checks.is_within_one.Given as goal

-- no range so far has it
abbrev pub invariant-loop-range : goal.invariant-loop-range
invariant-loop-range l = record {
  none : list_any (is_within l.number) (drop l.range-index l.ranges) ≡ list_any (is_within l.number) l.ranges;
}
