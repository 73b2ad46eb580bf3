-- Drivers over whole runs: since they connected, up to their loss, and their refused lines.
use Rattle.std.specs.Prelude.{◌≡◌, ◌⊎◌, ◌<◌, ◌≤◌, ◌+◌, ℕ, true, false, List, [], ◌∷◌, ◌++◌, Some}
use Rattle.std.specs.Prelude.{Ok, Err, length, min}
use Rattle.std.specs.Option.{option_map_or}
use Rattle.nutusers.specs.UpsList.{Ups, IsList}
use Rattle.nutusers.specs.Users.{User}
use Rattle.nutusers.specs.Descriptions.{Descriptions, AreLawful}
use Rattle.nutusers.specs.declared.ups_list.UpsId.{UpsId}
use Rattle.nutdriver.specs.declared.line.DriverLine.{DriverLine}
use Rattle.nutdriver.specs.declared.fault.DriverFault.{DriverFault}
use Rattle.nutdriver.specs.declared.report.Report.{Report}
use Rattle.nutdriver.specs.declared.report.LineOutcome.TheVariants.{Refused}
use Rattle.nutdriver.specs.DriverLine.{read_driver_line}
use Rattle.nutdriver.specs.DriverStep.{driver_step}
use Rattle.nutdriver.specs.Report.{lost_report, after_line}
use Rattle.nutcore.specs.declared.event.Event.{Event}
use Rattle.nutcore.specs.declared.event.Event.TheVariants.{DriverUp}
use Rattle.nutcore.specs.declared.event.Outcome.{Outcome}
use Rattle.nutcore.specs.declared.event.Outcome.TheVariants.{Done}
use Rattle.nutcore.specs.Ups.{UpsState, new_ups, after_connecting, greatest_count}
use Rattle.nutcore.specs.Server.{ServerState, new_server}
use Rattle.nutcore.specs.Parts.{ups_at}
use Rattle.nutcore.specs.Step.{Step, after}
use Rattle.nutcore.specs.Run.{Run}
use Rattle.nutcore.specs.Headline.{IsBeginning}
use Rattle.nutcore.specs.Sound.{IsMaxAge}
use Rattle.nutcore.specs.DriverHistory.{has_driver, StaysConnected, came, came_in_event, heard}
use Rattle.nutcore.specs.DriverHistory.{heard_in_event, unfinished_of, bytes_heard, refused_among}
use Rattle.nutcore.specs.DriverHistory.{IsHeard}

-- A new server, of a list and descriptions that were read, and a greatest age.
pub record IsNewServer (s : ServerState) : Type 0 where
  pub list : List Ups
  pub users : List User
  pub descriptions : Descriptions
  pub max_age : ℕ
  pub is_list : IsList list
  pub are_lawful : AreLawful descriptions
  pub is_max_age : IsMaxAge max_age
  pub is : s ≡ new_server list users descriptions max_age

-- On this server, where no driver is connected to the UPS, one connects, and isn't lost in the
-- events after that, which leave the UPS so. What came since is its executed lines, followed by
-- what is unfinished; its report is what these lines made of the one with which a connection
-- begins; and the refused ones are counted.
pub record ConnectsHere (u : UpsId) (server : ServerState) (events : List Event)
    (outcomes : List Outcome) (now : UpsState) : Type 0 where
  pub lost : UpsState
  pub there : ups_at u.place server ≡ Some lost
  pub unconnected : lost.report.connected ≡ false
  pub stays : StaysConnected u (after server (DriverUp u) Done) events outcomes
  pub is_heard : IsHeard (after_connecting server.moment lost) (came u events)
      (heard u (after server (DriverUp u) Done) events outcomes) now

-- It did so in the run: this is the last connection of it.
pub record ConnectedInRun (u : UpsId) (old : ServerState) (events : List Event)
    (outcomes : List Outcome) (now : UpsState) : Type 0 where
  pub events_before : List Event
  pub outcomes_before : List Outcome
  pub server : ServerState
  pub events_since : List Event
  pub outcomes_since : List Outcome
  pub events_are : events ≡ events_before ++ DriverUp u ∷ events_since
  pub outcomes_are : outcomes ≡ outcomes_before ++ Done ∷ outcomes_since
  pub reached : Run old events_before outcomes_before server
  pub connects : ConnectsHere u server events_since outcomes_since now

-- The UPS at the end of a run from a new server: where no driver is connected, a new one except for
-- a forced shutdown and the count of refused lines; and else as its driver's last connection made
-- it.
pub record StandsAfter (u : UpsId) (old : ServerState) (events : List Event)
    (outcomes : List Outcome) (new : ServerState) : Type 0 where
  pub now : UpsState
  pub there : ups_at u.place new ≡ Some now
  pub unconnected : now.report.connected ≡ false
      → now ≡ record new_ups { fsd = now.fsd; faulty = now.faulty }
  pub connected : now.report.connected ≡ true → ConnectedInRun u old events outcomes now

-- Of every run from a new server, and every UPS of it.
abbrev pub WhatCameSinceConnectingIsExecuted : Type 0
WhatCameSinceConnectingIsExecuted =
    (old new : ServerState) (events : List Event) (outcomes : List Outcome) (u : UpsId)
    → IsNewServer old → u.place < length old.upses → Run old events outcomes new
    → StandsAfter u old events outcomes new

-- Up to its loss: of a driver that stayed in a run, and is lost by the event after it, the executed
-- lines, those of this event too, are a beginning of what was unfinished and what came.
abbrev pub ALostDriversLinesAreABeginning : Type 0
ALostDriversLinesAreABeginning =
    (old mid new : ServerState) (events : List Event) (outcomes : List Outcome) (event : Event)
    (outcome : Outcome) (u : UpsId) → Run old events outcomes mid
    → StaysConnected u old events outcomes → Step mid event outcome new → has_driver u new ≡ false
    → IsBeginning (bytes_heard (heard u old events outcomes ++ heard_in_event u mid event outcome))
    (unfinished_of u old ++ (came u events ++ came_in_event u event))

-- A line is refused for this fault: it isn't read, or what it says can't be done to the tree.
abbrev pub IsRefusedFor : Report → List ℕ → DriverFault → Type 0
IsRefusedFor report line fault =
    (read_driver_line line ≡ Err fault)
    ⊎ ((said : DriverLine) × (read_driver_line line ≡ Ok said)
    × (driver_step report.tree said ≡ Err fault))

-- Such a line, and no other, is refused; it is heard, and changes nothing more of the report.
pub record WhichLinesAreRefused : Type 0 where
  pub refused : (moment : ℕ) (report : Report) (line : List ℕ) (fault : DriverFault)
      → IsRefusedFor report line fault
      → after_line moment report line ≡ (record report { heard = moment }, Refused fault)
  pub only : (moment : ℕ) (report : Report) (line : List ℕ) (fault : DriverFault)
      → (after_line moment report line).1 ≡ Refused fault → IsRefusedFor report line fault

-- What the UPS's driver has reported, and the count of its refused lines.
abbrev pub report_of : UpsId → ServerState → Report
report_of u s = option_map_or (λ x. x.report) (ups_at u.place s) lost_report

abbrev pub count_of : UpsId → ServerState → ℕ
count_of u s = option_map_or (λ x. x.faulty) (ups_at u.place s) 0

-- How many of the lines that a run executed for the UPS are refused.
abbrev pub refused_lines : UpsId → ServerState → List Event → List Outcome → ℕ
refused_lines u s [] os = 0
refused_lines u s (e ∷ es) [] = 0
refused_lines u s (e ∷ es) (o ∷ os) =
    refused_among (report_of u s) (heard_in_event u s e o) + refused_lines u (after s e o) es os

-- They are what its count grows by, up to its greatest number. Drivers that connect and are lost
-- leave it as it is.
abbrev pub RefusedLinesAreCounted : Type 0
RefusedLinesAreCounted =
    (old new : ServerState) (events : List Event) (outcomes : List Outcome) (u : UpsId)
    → u.place < length old.upses → count_of u old ≤ greatest_count → Run old events outcomes new
    → count_of u new ≡ min (count_of u old + refused_lines u old events outcomes) greatest_count

-- From a new server on they are the count.
abbrev pub ANewServerCountsAllRefusedLines : Type 0
ANewServerCountsAllRefusedLines =
    (old new : ServerState) (events : List Event) (outcomes : List Outcome) (u : UpsId)
    → IsNewServer old → u.place < length old.upses → Run old events outcomes new
    → count_of u new ≡ min (refused_lines u old events outcomes) greatest_count
