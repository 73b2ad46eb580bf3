use Rattle.nutloop.specs.Closing.{connections_at}
use Rattle.nutloop.proofs.Highest.{IsHighestSoFar}
use Rattle.nutloop.proofs.over_mio.closing.first_to_go.Given as goal

abbrev pub invariant-loop-place : goal.invariant-loop-place
invariant-loop-place l = IsHighestSoFar (connections_at l.closing) l.place l.first l.highest
