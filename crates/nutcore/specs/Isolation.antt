-- What an event leaves unchanged.
use Rattle.std.specs.Prelude.{◌≡◌, ◌≢◌, ◌⊎◌, ℕ, Bool, true, false, List, [], ◌∷◌, Option, Some}
use Rattle.std.specs.Prelude.{None, map}
use Rattle.nuttracking.specs.declared.order.Progress.TheVariants.{Pending}
use Rattle.nuttracking.specs.declared.order.TrackedOrder.{TrackedOrder}
use Rattle.nutusers.specs.declared.ups_list.UpsId.{UpsId}
use Rattle.nutcore.specs.declared.event.Event.{Event}
use Rattle.nutcore.specs.declared.event.Event.TheVariants as events
use Rattle.nutcore.specs.declared.event.Outcome.{Outcome}
use Rattle.nutcore.specs.declared.event.Outcome.TheVariants.{Refused}
use Rattle.nutcore.specs.declared.event.Fault.{Fault}
use Rattle.nutcore.specs.declared.event.Fault.TheVariants.{LineTooLong, Memory}
use Rattle.nuttracking.specs.Tracking.{nothing_tracked}
use Rattle.nutcore.specs.Ups.{UpsState}
use Rattle.nutcore.specs.Server.{ServerState, session}
use Rattle.nutcore.specs.Parts.{ups_at}
use Rattle.nutcore.specs.Cost.{cost_of, no_cost}
use Rattle.nutcore.specs.Step.{Step}

-- The client whose event it is.
abbrev pub client_of : Event → Option ℕ
client_of (events.Feed c piece) = Some c
client_of (events.Took c n) = Some c
client_of (events.Close c) = Some c
client_of _ = None

-- The UPS whose driver's event it is.
abbrev pub ups_of : Event → Option UpsId
ups_of (events.DriverUp u) = Some u
ups_of (events.DriverBytes u piece) = Some u
ups_of (events.DriverTook u n) = Some u
ups_of (events.DriverDown u) = Some u
ups_of _ = None

-- A UPS except for what commands change of it: its forced shutdown, and what its driver is owed.
abbrev pub without_commands : UpsState → UpsState
without_commands x = record x { fsd = false; owed = [] }

-- The server except for the sessions, for what commands change of the UPSs, and for the ids and the
-- tracked orders.
abbrev pub kept_from_clients : ServerState → ServerState
kept_from_clients s = record s {
  sessions = [];
  upses = map without_commands s.upses;
  tracking = nothing_tracked;
}

-- What a client sends or takes, or its end, leaves every other session as it is, and of the server
-- all that no command changes.
pub record LeavesOtherClients (c : ℕ) (old new : ServerState) : Type 0 where
  pub sessions : (d : ℕ) → d ≢ c → session d new ≡ session d old
  pub server : kept_from_clients new ≡ kept_from_clients old

abbrev pub AClientTouchesNoOther : Type 0
AClientTouchesNoOther =
    (old new : ServerState) (event : Event) (outcome : Outcome) (c : ℕ) → Step old event outcome new
    → client_of event ≡ Some c → LeavesOtherClients c old new

-- An order as what the driver of the UPS at this place reports may leave it: as it was; or, where
-- it is an order to that driver and pending, with another progress.
abbrev pub MaySettle : ℕ → TrackedOrder → TrackedOrder → Type 0
MaySettle place old new =
    (new ≡ old)
    ⊎ ((old.place ≡ place) × (old.progress ≡ Pending)
    × (new ≡ record old { progress = new.progress }))

-- So is each of these, in their places.
abbrev pub MaySettleEach : ℕ → List TrackedOrder → List TrackedOrder → Type 0
MaySettleEach place [] [] = Unit {0}
MaySettleEach place (x ∷ xs) (y ∷ ys) = MaySettle place x y × MaySettleEach place xs ys
MaySettleEach place [] (y ∷ ys) = ⊥
MaySettleEach place (x ∷ xs) [] = ⊥

-- What a driver does leaves every session as it is, every other UPS, each tracked order but pending
-- ones of its own UPS, and the rest of the server.
pub record LeavesOtherUpses (u : UpsId) (old new : ServerState) : Type 0 where
  pub upses : (place : ℕ) → place ≢ u.place → ups_at place new ≡ ups_at place old
  pub ids : new.tracking.ids ≡ old.tracking.ids
  pub orders : MaySettleEach u.place old.tracking.orders new.tracking.orders
  pub server : (let but : ServerState
      = record new { upses = old.upses; tracking = old.tracking } in but)
      ≡ old

abbrev pub ADriverTouchesNoOther : Type 0
ADriverTouchesNoOther =
    (old new : ServerState) (event : Event) (outcome : Outcome) (u : UpsId)
    → Step old event outcome new → ups_of event ≡ Some u → LeavesOtherUpses u old new

-- A fault that changes nothing: each but a line that is too long, and being out of memory.
abbrev pub is_harmless : Fault → Bool
is_harmless LineTooLong = false
is_harmless (Memory k) = false
is_harmless _ = true

-- An event that is refused by such a fault changes nothing.
abbrev pub ARefusedEventChangesNothing : Type 0
ARefusedEventChangesNothing =
    (old new : ServerState) (event : Event) (fault : Fault) → Step old event (Refused fault) new
    → is_harmless fault ≡ true → new ≡ old

-- Nor does it cost anything.
abbrev pub ARefusedEventCostsNothing : Type 0
ARefusedEventCostsNothing =
    (old new : ServerState) (event : Event) (fault : Fault) → Step old event (Refused fault) new
    → is_harmless fault ≡ true → cost_of old event new ≡ no_cost
