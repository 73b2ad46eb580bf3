use Rattle.nutloop.specs.Places.{places_at}
use Rattle.nutloop.proofs.Highest.{IsHighestSoFar}
use Rattle.nutloop.proofs.over_mio.places.who_has_most.Given as goal

abbrev pub invariant-loop-place : goal.invariant-loop-place
invariant-loop-place l = IsHighestSoFar (places_at l.clients) l.place l.first l.highest
