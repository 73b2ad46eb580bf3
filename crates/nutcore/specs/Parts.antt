-- The parts of a server beside its sessions: its UPSs, by their places, and the tracked orders.
use Rattle.std.specs.Prelude.{ℕ, zero, suc, List, [], ◌∷◌, Option, slice_get}
use Rattle.nutusers.specs.declared.ups_list.UpsId.{UpsId}
use Rattle.nuttracking.specs.Tracking.{TrackingState}
use Rattle.nutcore.specs.Ups.{UpsState}
use Rattle.nutcore.specs.Server.{ServerState}

-- The server with these ids and orders.
abbrev pub with_tracking : TrackingState → ServerState → ServerState
with_tracking t s = record s { tracking = t }

-- The UPS at a place.
abbrev pub ups_at : ℕ → ServerState → Option UpsState
ups_at place s = slice_get s.upses place

-- The list in which f changes what is at the place, if anything is.
abbrev pub changed_at : (UpsState → UpsState) → ℕ → List UpsState → List UpsState
changed_at f place [] = []
changed_at f zero (x ∷ xs) = f x ∷ xs
changed_at f (suc place) (x ∷ xs) = x ∷ changed_at f place xs

-- The server in which f changes this UPS.
abbrev pub with_ups_changed : (UpsState → UpsState) → UpsId → ServerState → ServerState
with_ups_changed f u s = record s { upses = changed_at f u.place s.upses }
