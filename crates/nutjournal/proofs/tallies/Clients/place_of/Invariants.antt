use Rattle.std.proofs.Common.{◌≡◌, ◌+◌, drop}
use Rattle.nutjournal.specs.Tallies.{place_of}
use Rattle.nutjournal.proofs.tallies.Clients.place_of.Given as goal

-- none so far is this address
abbrev pub invariant-loop-place : goal.invariant-loop-place
invariant-loop-place l = place_of l.address l.self.addresses.items ≡ l.place +
    place_of l.address (drop l.place l.self.addresses.items)
