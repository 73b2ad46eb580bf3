use Rattle.std.proofs.Common.{◌≡◌, ◌≤◌, drop}
use Rattle.upsd.specs.Reading.{lines_end_from, lines_end}
use Rattle.upsd.proofs.reading.lines_end.Given as goal

abbrev pub invariant-loop-i : goal.invariant-loop-i
invariant-loop-i l = record {
  rest : lines_end_from l.end l.i (drop l.i l.bytes) ≡ lines_end l.bytes;
  within : l.end ≤ l.i;
}
