use Rattle.std.proofs.Common.{◌≡◌, drop}
use Rattle.nutloop.specs.Waking.{is_any_absent}
use Rattle.nutloop.proofs.over_mio.drivers.is_any_absent.Given as goal

-- None of those at the places before is tried again.
abbrev pub invariant-loop-place : goal.invariant-loop-place
invariant-loop-place l =
    is_any_absent l.server.state 0 l.drivers ≡ is_any_absent l.server.state l.place (drop l.place l.drivers)
