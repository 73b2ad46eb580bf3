use Rattle.std.proofs.Common.{◌≡◌, ◌<◌, ◌≤◌, ℕ, length}
use Rattle.nutloop.specs.Pass.{client_in}
use Rattle.nutloop.specs.Places.{EndsIfSilent}
use Rattle.nutloop.proofs.over_mio.places.end_silent.Given as goal

-- Those before are ended if they were silent; the others are as they were.
abbrev pub invariant-loop-place : goal.invariant-loop-place
invariant-loop-place l = (length l.clients ≡ length l.fn.clients)
    × ((k : ℕ) → k < l.place →
    EndsIfSilent l.server.state l.idle l.second (client_in l.fn.clients k) (client_in l.clients k))
    × ((k : ℕ) → l.place ≤ k → client_in l.clients k ≡ client_in l.fn.clients k)
