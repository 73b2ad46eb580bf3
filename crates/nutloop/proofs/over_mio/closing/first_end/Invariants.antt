use Rattle.std.proofs.Common.{◌≡◌, take}
use Rattle.nutloop.specs.Waking.{first_end}
use Rattle.nutloop.proofs.over_mio.closing.first_end.Given as goal

-- That of those before.
abbrev pub invariant-loop-connection : goal.invariant-loop-connection
invariant-loop-connection l = l.end ≡ first_end (take l.connection-index l.closing)
