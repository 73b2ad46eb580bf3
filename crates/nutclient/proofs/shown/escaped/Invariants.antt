use Rattle.std.proofs.Common.{◌≡◌, ◌++◌, drop}
use Rattle.nutclient.specs.Shown.{escaped}
use Rattle.nutclient.proofs.shown.escaped.Given as goal

-- what is printed so far, and what is printed of the bytes that are left, is what is printed of all
abbrev pub invariant-loop-i : goal.invariant-loop-i
invariant-loop-i l = l.printed.items ++ escaped l.left (drop l.i l.text) ≡ escaped 0 l.text
