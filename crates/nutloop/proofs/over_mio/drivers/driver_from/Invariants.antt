use Rattle.std.proofs.Common.{◌≡◌, ◌<◌, ◌≤◌, ℕ, false}
use Rattle.nutloop.specs.Pass.{driver_at}
use Rattle.nutloop.proofs.over_mio.drivers.driver_from.Given as goal

-- Nothing may be done at the places before.
abbrev pub invariant-loop-place : goal.invariant-loop-place
invariant-loop-place l = (k : ℕ) → l.from ≤ k → k < l.place →
    driver_at l.server.state l.way l.drivers k ≡ false
