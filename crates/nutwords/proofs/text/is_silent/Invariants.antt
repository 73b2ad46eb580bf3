use Rattle.std.proofs.Common.{◌≡◌, drop}
use Rattle.nutwords.specs.Text.{first_mark}
use Rattle.nutwords.proofs.text.is_silent.Given as goal

-- only blanks so far
abbrev pub invariant-loop-b : goal.invariant-loop-b
invariant-loop-b l = first_mark (drop l.b-index l.line) ≡ first_mark l.line
