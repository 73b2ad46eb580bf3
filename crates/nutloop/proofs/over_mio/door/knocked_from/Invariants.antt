use Rattle.std.proofs.Common.{◌≡◌, ◌<◌, ◌≤◌, ℕ, false}
use Rattle.nutloop.specs.Doors.{is_knocked}
use Rattle.nutloop.proofs.over_mio.door.knocked_from.Given as goal

-- Nobody may be waiting at the places before.
abbrev pub invariant-loop-place : goal.invariant-loop-place
invariant-loop-place l = (k : ℕ) → l.from ≤ k → k < l.place → is_knocked l.doors k ≡ false
