use Rattle.std.proofs.Common.{◌≡◌, ◌<◌, ◌≤◌, ℕ, false}
use Rattle.nutloop.specs.Pass.{client_at}
use Rattle.nutloop.proofs.over_mio.clients.client_from.Given as goal

-- Nothing may be done at the places before.
abbrev pub invariant-loop-place : goal.invariant-loop-place
invariant-loop-place l = (k : ℕ) → l.from ≤ k → k < l.place →
    client_at l.server.state l.way l.clients k ≡ false
