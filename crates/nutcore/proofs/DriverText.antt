-- What a driver reports changes its UPS, and the orders that this UPS waits for.
use Rattle.std.proofs.Common.{◌≡◌, ℕ, List, Option, refl}
use Rattle.nutcore.proofs.Common.{UpsId, ServerState}
use Rattle.nutcore.specs.Ups.{ups_after_bytes}
use Rattle.nutcore.specs.DriverEvents.{changed_both, lines_read, after_driver_bytes}

pub bytes_change : (u : UpsId) (piece : List ℕ) (refused : Option ℕ) (s : ServerState)
    → after_driver_bytes u piece refused s ≡
    changed_both (ups_after_bytes s.moment u.place s.tracking piece refused) (lines_read u piece refused s) u s
unfolding after_driver_bytes
bytes_change u piece refused s = refl
