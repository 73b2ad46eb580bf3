-- A silent driver is asked before its data are stale.
use Rattle.std.specs.Prelude.{◌≡◌, ◌<◌, ◌≤◌, ◌+◌, ◌/◌, ◌⊎◌, ℕ, List, [], ◌∷◌, ◌++◌, Some, length}
use Rattle.nutusers.specs.declared.ups_list.UpsId.{UpsId}
use Rattle.nutcore.specs.declared.event.Event.{Event}
use Rattle.nutcore.specs.declared.event.Event.TheVariants.{Tick}
use Rattle.nutcore.specs.declared.event.Outcome.{Outcome}
use Rattle.nutcore.specs.declared.TheConstants.{DRIVER_OWED_LIMIT}
use Rattle.nutcore.specs.DriverHistory.{StaysConnected, heard}
use Rattle.nutcore.specs.DriverOrders.{ping, given_in_event, moment_of, owed_to_driver}
use Rattle.nutcore.specs.Run.{Run}
use Rattle.nutcore.specs.Server.{ServerState}
use Rattle.nutcore.specs.Parts.{ups_at}
use Rattle.nutcore.specs.Sound.{IsSound}
use Rattle.nutcore.specs.Ups.{UpsState, ping_line}

-- A run began at the moment of the last line of this UPS's driver, or of its connection. The driver
-- stays connected, and no whole line of it comes. In the end a third of the greatest age is over.
pub record IsSilent (u : UpsId) (old : ServerState) (events : List Event) (outcomes : List Outcome)
    (new : ServerState) : Type 0 where
  pub now : UpsState
  pub sound : IsSound old
  pub run : Run old events outcomes new
  pub there : ups_at u.place old ≡ Some now
  pub last : now.report.heard ≡ old.moment
  pub stays : StaysConnected u old events outcomes
  pub silent : heard u old events outcomes ≡ []
  pub third : old.moment + old.max_age / 3 ≤ new.moment

-- The run's first tick at which a third of the greatest age is over since the last line gives the
-- driver a PING, or there is no room for one in what the driver may be owed. If this tick comes at
-- most a third of that age after the moment before it, the data aren't stale yet.
pub record WasAsked (u : UpsId) (last max_age : ℕ) (old : ServerState) (events : List Event)
    (outcomes : List Outcome) : Type 0 where
  pub events_before : List Event
  pub seconds : ℕ
  pub events_after : List Event
  pub outcomes_before : List Outcome
  pub outcome : Outcome
  pub outcomes_after : List Outcome
  pub server : ServerState
  pub events_are : events ≡ events_before ++ Tick seconds ∷ events_after
  pub outcomes_are : outcomes ≡ outcomes_before ++ outcome ∷ outcomes_after
  pub reached : Run old events_before outcomes_before server
  pub first : server.moment < last + max_age / 3
  pub over : last + max_age / 3 ≤ moment_of server seconds
  pub asked : (given_in_event u server (Tick seconds) outcome ≡ ping ∷ [])
      ⊎ (DRIVER_OWED_LIMIT < length (owed_to_driver u server) + length ping_line)
  pub in_time : seconds ≤ server.moment + max_age / 3
      → moment_of server seconds ≤ last + max_age

abbrev pub ASilentDriverIsAskedInTime : Type 0
ASilentDriverIsAskedInTime =
    (u : UpsId) (old new : ServerState) (events : List Event) (outcomes : List Outcome)
    → IsSilent u old events outcomes new
    → WasAsked u old.moment old.max_age old events outcomes
