use Rattle.std.proofs.Common.{◌≡◌, take}
use Rattle.nutcore.specs.Due.{due_among}
use Rattle.nutcore.proofs.server.drivers.due_among.Given as goal

-- the least second of the UPSs before the place
abbrev pub invariant-loop-place : goal.invariant-loop-place
invariant-loop-place l = l.due ≡ due_among l.max_age l.moment (take l.place l.upses.items)
