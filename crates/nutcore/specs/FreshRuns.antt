-- Over every run from a new server, data are answered only while they are fresh.
use Rattle.std.specs.Prelude.{◌≡◌, ◌⊎◌, ◌<◌, ◌≤◌, ◌+◌, ◌/◌, ℕ, true, false, List, [], ◌∷◌, ◌++◌}
use Rattle.std.specs.Prelude.{length, Option, Some, Ok, All, codes, max, nat_eq}
use Rattle.std.specs.List.{starts_with}
use Rattle.nutdriver.specs.declared.line.DriverLine.{DriverLine}
use Rattle.nutdriver.specs.Report.{connected_report}
use Rattle.nutdriver.specs.LastLine.{changes, TheLastLineDecides}
use Rattle.nutdriver.specs.Sound.{IsSoundTree}
use Rattle.nutusers.specs.declared.ups_list.UpsId.{UpsId}
use Rattle.nutcommand.specs.declared.command.Command.{Command}
use Rattle.nutcommand.specs.Command.{read_command, asks_data_of}
use Rattle.nutanswer.specs.Checks.{KnownUps, ups_named}
use Rattle.nutanswer.specs.View.{readiness, usable}
use Rattle.nutcore.specs.declared.event.Event.{Event}
use Rattle.nutcore.specs.declared.event.Event.TheVariants.{DriverUp, Tick}
use Rattle.nutcore.specs.declared.event.Outcome.{Outcome}
use Rattle.nutcore.specs.declared.event.Outcome.TheVariants.{Done}
use Rattle.nutcore.specs.declared.TheConstants.{DRIVER_OWED_LIMIT}
use Rattle.nutcore.specs.Ups.{UpsState, ping_line}
use Rattle.nutcore.specs.Server.{ServerState}
use Rattle.nutcore.specs.Parts.{ups_at}
use Rattle.nutcore.specs.Reply.{seen, seen_ups, reply}
use Rattle.nutcore.specs.Step.{Step, after}
use Rattle.nutcore.specs.Sound.{IsSound}
use Rattle.nutcore.specs.Run.{Run}
use Rattle.nutcore.specs.History.{Execution, of_line, of_notice, executions}
use Rattle.nutcore.specs.Headline.{IsTimely}
use Rattle.nutcore.specs.DriverHistory.{Heard, heard}
use Rattle.nutcore.specs.DriverRuns.{IsNewServer, ConnectedInRun}

-- The greatest tick among the events.
abbrev pub tick_of : Event → ℕ
tick_of (Tick seconds) = seconds
tick_of _ = 0

abbrev pub greatest_tick : List Event → ℕ
greatest_tick [] = 0
greatest_tick (e ∷ es) = max (tick_of e) (greatest_tick es)

-- It is the moment of the server to which they lead from a new one; the greatest age stays what it
-- was.
pub record IsAtItsMoment (old : ServerState) (events : List Event) (new : ServerState) : Type 0
  where
    pub moment : new.moment ≡ greatest_tick events
    pub max_age : new.max_age ≡ old.max_age

abbrev pub TheMomentIsTheGreatestTick : Type 0
TheMomentIsTheGreatestTick =
    (old new : ServerState) (events : List Event) (outcomes : List Outcome) → IsNewServer old
    → Run old events outcomes new → IsAtItsMoment old events new

-- The whole lines that the server executed of a driver since it connected, each with its moment.
abbrev pub lines_since : {u : UpsId} {old : ServerState} {events : List Event}
    {outcomes : List Outcome} {now : UpsState} → ConnectedInRun u old events outcomes now
    → List Heard
lines_since {u = u} c =
    heard u (after c.server (DriverUp u) Done) c.events_since c.outcomes_since

-- On this server the driver of the UPS is connected: it connected in these events, which a run
-- began with, and wasn't lost since. It has reported all that it knows, and says that its data are
-- right; and the last of the whole lines that came since it connected came at a moment at most the
-- greatest age before the greatest tick of these events.
pub record IsFreshIn (old : ServerState) (events : List Event) (outcomes : List Outcome)
    (s : ServerState) (u : UpsId) : Type 0 where
  pub now : UpsState
  pub there : ups_at u.place s ≡ Some now
  pub connected : ConnectedInRun u old events outcomes now
  pub dumped : now.report.dumped ≡ true
  pub ok : now.report.ok ≡ true
  pub earlier : List Heard
  pub last : Heard
  pub lines_are : lines_since connected ≡ earlier ++ last ∷ []
  pub recent : greatest_tick events ≤ last.moment + old.max_age

-- The UPS that was asked for was there, usable and sound, and fresh in the run's beginning before
-- the event that executed the line.
pub record WasFresh (old : ServerState) (events : List Event) (outcomes : List Outcome)
    (s : ServerState) (c : ℕ) (line : List ℕ) (ups : Option (List ℕ)) : Type 0 where
  pub known : KnownUps
  pub named : ups_named (seen s) ups ≡ Some known
  pub ready : readiness s.moment s.max_age known.state.report ≡ usable
  pub sound : IsSoundTree known.state.report.tree
  pub timely : IsTimely old events outcomes (of_line s c line)
  pub fresh : IsFreshIn old timely.events_before timely.outcomes_before s known.id
  pub is : known.state ≡ seen_ups fresh.now

-- Where a line asks for the data of a UPS, or gives its driver an order, and isn't answered by ERR.
abbrev pub IsAnsweredFresh : ServerState → List Event → List Outcome → Execution → Type 0
IsAnsweredFresh old events outcomes (of_line s c line) =
    (command : Command) (ups : Option (List ℕ)) → read_command line ≡ Ok (Some command)
    → asks_data_of command ≡ Some ups → starts_with nat_eq (reply s c line) (codes "ERR") ≡ false
    → WasFresh old events outcomes s c line ups
IsAnsweredFresh old events outcomes (of_notice s c) = Unit {0}

-- Of every line that a run from a new server executes.
abbrev pub WhateverIsAnsweredIsFresh : Type 0
WhateverIsAnsweredIsFresh =
    (old new : ServerState) (events : List Event) (outcomes : List Outcome) → IsNewServer old
    → Run old events outcomes new
    → All (IsAnsweredFresh old events outcomes) (executions old events outcomes)

-- Those of its lines since it connected that changed its tree.
abbrev pub changes_since : {u : UpsId} {old : ServerState} {events : List Event}
    {outcomes : List Outcome} {now : UpsState} → ConnectedInRun u old events outcomes now
    → List DriverLine
changes_since c = changes (connected_report c.server.moment) (lines_since c)

-- What the driver of a UPS set last, since it connected, the UPS holds: the last of these lines
-- that decides a variable.
abbrev pub WhatADriverSetLastIsHeld : Type 0
WhatADriverSetLastIsHeld =
    (old : ServerState) (events : List Event) (outcomes : List Outcome) (u : UpsId) (now : UpsState)
    (name : List ℕ) (c : ConnectedInRun u old events outcomes now)
    → TheLastLineDecides now.report.tree (changes_since c) name

-- After each tick, a connected driver of which nothing was heard for a third of the greatest age
-- has been asked since its last line, or has no room for a PING in what it may be owed. So it is
-- asked before its data are stale, where ticks come at least each third of that age.
abbrev pub ASilentDriverIsAsked : Type 0
ASilentDriverIsAsked =
    (old new : ServerState) (seconds : ℕ) (outcome : Outcome) (u : UpsId) (x : UpsState)
    → IsSound old → Step old (Tick seconds) outcome new → ups_at u.place new ≡ Some x
    → x.report.connected ≡ true → x.report.heard + old.max_age / 3 ≤ new.moment
    → (x.report.heard < x.pinged) ⊎ (DRIVER_OWED_LIMIT < length x.owed + length ping_line)
