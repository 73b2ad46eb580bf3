-- The bytes that NUT's server leaves out of what it reads (parseconf.c).
use Rattle.std.specs.Prelude.{◌≡◌, ◌==◌, ℕ, Bool, true, not, nat_le, List, [], filter, take}
use Rattle.std.specs.Prelude.{Result, Ok}
use Rattle.nutcore.specs.declared.event.Peer.{Peer}
use Rattle.nutcore.specs.declared.event.Peer.TheVariants.{Client, Driver}
use Rattle.nutloop.specs.declared.sockets.Got.{Got}
use Rattle.nutloop.specs.declared.sockets.Got.TheVariants.{Bytes, Later}

-- Of a client's all but CR are kept, of a driver's those up to 126.
abbrev pub is_kept : Peer → ℕ → Bool
is_kept (Client c) byte = not (byte == 13)
is_kept (Driver u) byte = nat_le byte 126

-- The bytes that a read gave.
abbrev pub given : {E : Type 0} → Result Got E → List ℕ → List ℕ
given (Ok (Bytes n)) into = take n into
given _ into = []

-- A read's bytes are handed on, or those of them that are kept, where that is asked for. Where none
-- is, more may come later.
abbrev pub HandsOn : {E : Type 0} → Bool → Peer → Result Got E → List ℕ → Result Got E → List ℕ
    → Type 0
HandsOn true p (Ok (Bytes n)) old answer new =
    (given answer new ≡ filter (is_kept p) (take n old))
    × (filter (is_kept p) (take n old) ≡ [] → answer ≡ Ok Later)
HandsOn _ p read old answer new = (answer ≡ read) × (new ≡ old)
