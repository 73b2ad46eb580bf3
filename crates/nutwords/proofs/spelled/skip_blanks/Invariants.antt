use Rattle.std.proofs.Common.{◌≡◌, drop}
use Rattle.nutwords.specs.Scan.{read_line}
use Rattle.nutwords.proofs.spelled.skip_blanks.Given as goal

-- the blanks so far change nothing
abbrev pub invariant-loop-i : goal.invariant-loop-i
invariant-loop-i l = read_line (drop l.i l.line) ≡ read_line l.line
