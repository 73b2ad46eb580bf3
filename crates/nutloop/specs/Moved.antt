-- Which bytes turns move between the sockets and the server: the law of every list of turns.
use Rattle.std.specs.Prelude.{◌≡◌, ℕ, Bool, false, List, [], ◌∷◌, ◌++◌, Some, Result, ◌==◌}
use Rattle.std.specs.Prelude.{if◌then◌else◌, take}
use Rattle.std.specs.List.{flat_map}
use Rattle.nutusers.specs.declared.ups_list.UpsId.{UpsId}
use Rattle.nutcore.specs.declared.event.Event.{Event}
use Rattle.nutcore.specs.declared.event.Event.TheVariants.{DriverTook, Feed}
use Rattle.nutcore.specs.declared.event.Outcome.{Outcome}
use Rattle.nutcore.specs.declared.event.Peer.{Peer}
use Rattle.nutcore.specs.declared.event.Peer.TheVariants.{Client, Driver}
use Rattle.nutcore.specs.Server.{ServerState}
use Rattle.nutcore.specs.Step.{after}
use Rattle.nutcore.specs.Run.{Run}
use Rattle.nutcore.specs.History.{taken}
use Rattle.nutcore.specs.DriverHistory.{came}
use Rattle.nutloop.specs.declared.sockets.Call.{Call}
use Rattle.nutloop.specs.declared.sockets.Call.TheVariants.{Gave, Wrote}
use Rattle.nutloop.specs.declared.fault.LoopFault.{LoopFault}
use Rattle.nutcore.specs.DriverOrders.{owed_to_driver}
use Rattle.nutcore.specs.Recording.{Recorded}
use Rattle.nutloop.specs.Sockets.{Told}
use Rattle.nutloop.specs.declared.turns.Loop.{Loop}
use Rattle.nutloop.specs.Serving.{TurnsUpTo}

-- It is this client, or this driver.
abbrev pub is_client : ℕ → Peer → Bool
is_client c (Client d) = d == c
is_client c (Driver v) = false

abbrev pub is_driver : UpsId → Peer → Bool
is_driver u (Client d) = false
is_driver u (Driver v) = v.place == u.place

-- The bytes that it gave, and those that it took, of the calls that are reported.
abbrev pub gave_in : (Peer → Bool) → Call → List ℕ
gave_in this (Gave p most bytes) = if this p then bytes else []
gave_in this _ = []

abbrev pub took_in : (Peer → Bool) → Call → List ℕ
took_in this (Wrote p bytes n) = if this p then take n bytes else []
took_in this _ = []

abbrev pub bytes_given : (Peer → Bool) → List Call → List ℕ
bytes_given this calls = flat_map (gave_in this) calls

abbrev pub bytes_taken : (Peer → Bool) → List Call → List ℕ
bytes_taken this calls = flat_map (took_in this) calls

-- The bytes that f finds in each event of a run, joined.
abbrev pub along : (ServerState → Event → List ℕ) → ServerState → List Event → List Outcome → List ℕ
along f s [] os = []
along f s (e ∷ es) [] = []
along f s (e ∷ es) (o ∷ os) = f s e ++ along f (after s e o) es os

-- What was fed to the client.
abbrev pub fed_in_event : ℕ → ServerState → Event → List ℕ
fed_in_event c s (Feed d piece) = if d == c then piece else []
fed_in_event c s _ = []

-- What was at the front of the bytes owed to the driver when it took so many of them.
abbrev pub driver_took_in_event : UpsId → ServerState → Event → List ℕ
driver_took_in_event u s (DriverTook v n) =
    if v.place == u.place then take n (owed_to_driver v s) else []
driver_took_in_event u s _ = []

-- The turns reported these calls and made these events of the server: each client's bytes are fed
-- to it and each driver's to it, all of them, once and in order; and what each of them took is what
-- the server counts as taken.
pub record AreMoved (since : List Call) (old : ServerState) (events : List Event)
    (outcomes : List Outcome) (new : ServerState) : Type 0 where
  pub run : Run old events outcomes new
  pub fed : (c : ℕ) → bytes_given (is_client c) since ≡ along (fed_in_event c) old events outcomes
  pub taken_by_client : (c : ℕ) → bytes_taken (is_client c) since ≡ taken c old events outcomes
  pub came_of_driver : (u : UpsId) → bytes_given (is_driver u) since ≡ came u events
  pub taken_by_driver : (u : UpsId)
      → bytes_taken (is_driver u) since ≡ along (driver_took_in_event u) old events outcomes

-- Over any turns of serving, with sockets that report their calls.
abbrev pub EveryByteIsMovedOnce : {S R : Type 0} → (S → Told) → (R → Recorded) → Type 0
EveryByteIsMovedOnce {S} {R} told holds =
    (old new : Loop S R) (result : Result (Unit {0}) LoopFault) (before now : List Call)
    → TurnsUpTo told holds old result new
    → (told old.sockets).calls ≡ Some before → (told new.sockets).calls ≡ Some now
    → (since : List Call)
    × ((events : List Event)
    × ((outcomes : List Outcome) × (now ≡ before ++ since)
    × AreMoved since old.server.state events outcomes new.server.state))
