-- From socket to socket: what a client's socket took is the answers to what it gave; what a
-- driver's socket gave is executed, and what it took is the server's lines to the driver.
use Rattle.std.specs.Prelude.{◌≡◌, ℕ, true, false, List, ◌++◌, Some, Result, All}
use Rattle.nutusers.specs.declared.ups_list.UpsId.{UpsId}
use Rattle.nutcore.specs.declared.event.Event.{Event}
use Rattle.nutcore.specs.declared.event.Outcome.{Outcome}
use Rattle.nutcore.specs.Server.{ServerState}
use Rattle.nutcore.specs.Run.{Run}
use Rattle.nutcore.specs.History.{Execution, executions, of_client, lines_of, texts_of, owed, held}
use Rattle.nutcore.specs.History.{is_closed, is_over}
use Rattle.nutcore.specs.Headline.{IsBeginning, IsTimely}
use Rattle.nutcore.specs.DriverHistory.{StaysConnected, DriverIsHeard, heard}
use Rattle.nutcore.specs.DriverRuns.{IsNewServer}
use Rattle.nutcore.specs.DriverOrders.{owed_to_driver, connections}
use Rattle.nutcore.specs.DriverOrders as driver
use Rattle.nutcore.specs.OrdersByRight.{all_given}
use Rattle.nutcore.specs.Sound.{IsSound}
use Rattle.nutloop.specs.declared.sockets.Call.{Call}
use Rattle.nutloop.specs.declared.fault.LoopFault.{LoopFault}
use Rattle.nutcore.specs.Recording.{Recorded}
use Rattle.nutloop.specs.Sockets.{Told}
use Rattle.nutloop.specs.declared.turns.Loop.{Loop}
use Rattle.nutloop.specs.Serving.{TurnsUpTo}
use Rattle.nutloop.specs.Moved.{is_client, is_driver, bytes_given, bytes_taken}

-- Of one client and what was executed for it: all that its socket gave is the executed lines, in
-- order, followed by what is held of it; and what its socket took, followed by what it is owed, is
-- the answers to these lines. Of a client that is ending or closed the executed lines are a
-- beginning of what its socket gave; of a closed one what its socket took is one of the answers.
pub record IsAnswered (c : ℕ) (since : List Call) (executed : List Execution) (new : ServerState)
    : Type 0 where
  pub gave_while_going : is_over c new ≡ false
      → bytes_given (is_client c) since ≡ lines_of executed ++ held c new
  pub gave_once_over : is_over c new ≡ true
      → IsBeginning (lines_of executed) (bytes_given (is_client c) since)
  pub took_while_open : is_closed c new ≡ false
      → bytes_taken (is_client c) since ++ owed c new ≡ texts_of executed
  pub took_once_closed : is_closed c new ≡ true
      → IsBeginning (bytes_taken (is_client c) since) (texts_of executed)

-- The turns reported these calls and were one run of the server, in which each answer is the reply
-- to its line on the server of that moment; and every client is answered.
pub record AreAnswered (since : List Call) (old new : ServerState) : Type 0 where
  pub events : List Event
  pub outcomes : List Outcome
  pub run : Run old events outcomes new
  pub timely : All (IsTimely old events outcomes) (executions old events outcomes)
  pub answered : (c : ℕ) → IsAnswered c since (of_client c (executions old events outcomes)) new

-- Over any turns of serving from a new server, with sockets that report their calls.
abbrev pub WhatASocketGaveIsAnswered : {S R : Type 0} → (S → Told) → (R → Recorded) → Type 0
WhatASocketGaveIsAnswered {S} {R} told holds =
    (old new : Loop S R) (result : Result (Unit {0}) LoopFault) (before now : List Call)
    → IsNewServer old.server.state → TurnsUpTo told holds old result new
    → (told old.sockets).calls ≡ Some before → (told new.sockets).calls ≡ Some now
    → (since : List Call) × (now ≡ before ++ since)
    × AreAnswered since old.server.state new.server.state

-- Of one driver in a run: what was unfinished of it, followed by all that its socket gave, is its
-- executed lines, followed by what is unfinished, and its report is what these lines made of it.
-- What it was owed, followed by the lines to it, is what its socket took, followed by what it is
-- owed.
pub record IsServedByItsSocket (u : UpsId) (since : List Call) (old : ServerState)
    (events : List Event)
    (outcomes : List Outcome) (new : ServerState) : Type 0 where
  pub gave : DriverIsHeard u old (bytes_given (is_driver u) since) (heard u old events outcomes) new
  pub took : owed_to_driver u old
      ++ driver.texts_of (all_given (connections u old events outcomes))
      ≡ bytes_taken (is_driver u) since ++ owed_to_driver u new

-- The turns reported these calls and were one run of the server; and so is each driver that wasn't
-- lost in it.
pub record DriversAreServedByTheirSockets (since : List Call) (old new : ServerState) : Type 0 where
  pub events : List Event
  pub outcomes : List Outcome
  pub run : Run old events outcomes new
  pub each : (u : UpsId) → StaysConnected u old events outcomes
      → IsServedByItsSocket u since old events outcomes new

-- Over any turns of serving from a sound server, as each is, with sockets that report their calls.
abbrev pub ADriverIsServedByItsSocket : {S R : Type 0} → (S → Told) → (R → Recorded) → Type 0
ADriverIsServedByItsSocket {S} {R} told holds =
    (old new : Loop S R) (result : Result (Unit {0}) LoopFault) (before now : List Call)
    → IsSound old.server.state → TurnsUpTo told holds old result new
    → (told old.sockets).calls ≡ Some before → (told new.sockets).calls ≡ Some now
    → (since : List Call) × (now ≡ before ++ since)
    × DriversAreServedByTheirSockets since old.server.state new.server.state
