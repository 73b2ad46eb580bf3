use Rattle.std.proofs.Common.{◌≡◌, ◌≤◌, ◌++◌}
use Rattle.std.specs.Char.Escape.{escape_ascii}
use Rattle.std.specs.Char.Iter.{escape_byte_rest, escape_byte_left, escape_byte_end}
use Rattle.nutclient.proofs.shown.push_escape.Given as goal

-- what is printed of the escape, and what is left of it, is all of it
abbrev pub invariant-rest : goal.invariant-rest
invariant-rest l = (escape_byte_end l.rest ≤ 4) ×
    (l.printed.items ++ escape_byte_rest l.rest ≡ l.initial.printed.items ++ escape_ascii l.byte)

abbrev pub decreases-rest : goal.decreases-rest
decreases-rest l = escape_byte_left l.rest
