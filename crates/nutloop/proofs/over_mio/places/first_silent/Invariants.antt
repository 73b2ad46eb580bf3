use Rattle.std.proofs.Common.{◌≡◌, take}
use Rattle.std.specs.Prelude.{fold}
use Rattle.nutcore.specs.Due.{never}
use Rattle.nutloop.specs.Places.{silent_second}
use Rattle.nutloop.proofs.over_mio.places.first_silent.Given as goal

-- That of those before.
abbrev pub invariant-loop-slot : goal.invariant-loop-slot
invariant-loop-slot l = l.first ≡ fold (silent_second l.idle) never (take l.slot-index l.clients)
