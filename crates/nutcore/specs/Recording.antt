-- What is recorded of the events of a server.
use Rattle.std.specs.Prelude.{ℕ, List, ◌++◌, Option, Some, None}
use Rattle.nutcore.specs.declared.event.Event.{Event}
use Rattle.nutcore.specs.declared.event.Event.TheVariants.{Feed, DriverBytes}
use Rattle.nutcore.specs.declared.event.Peer.{Peer}
use Rattle.nutcore.specs.declared.event.Peer.TheVariants.{Client, Driver}

-- The event that these bytes come from the peer.
abbrev pub came_from : Peer → List ℕ → Event
came_from (Client c) bytes = Feed c bytes
came_from (Driver u) bytes = DriverBytes u bytes

-- Of which events, of a server of which greatest age, there is a record.
abbrev pub Recorded : Type 1
Recorded = ℕ → List Event → Type 0

-- A record of some events becomes one of these and of the next ones.
abbrev pub Continues : Recorded → List Event → Recorded → Type 0
Continues old next new =
    (max_age : ℕ) (events : List Event) → old max_age events → new max_age (events ++ next)

-- What a record holds, where there is one.
abbrev pub held_by : {R : Type 0} → (R → Recorded) → Option R → Recorded
held_by holds None max_age events = ⊥
held_by holds (Some kept) max_age events = holds kept max_age events
