use Rattle.std.proofs.Common.{◌≡◌, ◌<◌, ℕ, Some, length, map, slice_get}
use Rattle.std.specs.Net.Grammar.{IsSocketText}
use Rattle.std.specs.declared.net.socket_addr.SocketAddr.{SocketAddr}
use Rattle.upsd.specs.Task.{text_at}
use Rattle.upsd.proofs.task.addresses_of.Given as goal

-- Those before are read.
abbrev pub invariant-loop-place : goal.invariant-loop-place
invariant-loop-place l = (length l.list ≡ 8)
    × ((k : ℕ) → k < l.place → (address : SocketAddr) × (slice_get l.list k ≡ Some address)
    × IsSocketText (text_at (map (λ v. v.now) l.texts) k) address)
