use Rattle.nutloop.specs.Places.{rank_at}
use Rattle.nutloop.proofs.Highest.{IsHighestSoFar}
use Rattle.nutloop.proofs.over_mio.places.who_gives_way.Given as goal

abbrev pub invariant-loop-place : goal.invariant-loop-place
invariant-loop-place l = IsHighestSoFar (rank_at l.server.state l.second l.clients) l.place l.first l.highest
