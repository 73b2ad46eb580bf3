-- By the clock: what is answered after a look is never older than the greatest age, by the second
-- that the clock had at that look.
use Rattle.std.specs.Prelude.{◌≡◌, ◌≤◌, ◌+◌, ℕ, true, List, ◌++◌, Option}
use Rattle.nutcore.specs.declared.event.Event.{Event}
use Rattle.nutcore.specs.declared.event.Outcome.{Outcome}
use Rattle.nutcore.specs.DriverRuns.{IsNewServer}
use Rattle.nutcore.specs.FreshRuns.{WasFresh}
use Rattle.nutcore.specs.Recording.{Recorded}
use Rattle.nutcore.specs.Run.{Run}
use Rattle.nutcore.specs.Server.{ServerState}
use Rattle.nutloop.specs.declared.turns.Loop.{Loop}
use Rattle.nutloop.specs.Fairness.{AnyTurns, IsOneOf, Turn}
use Rattle.nutloop.specs.Sockets.{Told}

module _ {S R : Type 0} (told : S → Told) (holds : R → Recorded) where
  pub record NoAnswerIsOlderByTheClock : Type 0 where
    -- From the turn after a look on the server's moment is at least the second that the clock had.
    pub moment : (start old mid new : Loop S R) (before later : List (Option Turn))
        (first : Option Turn) → IsNewServer start.server.state
        → AnyTurns told holds start before old → (look : IsOneOf told holds true old first mid)
        → AnyTurns told holds mid later new → look.is.so_far.second ≤ new.server.state.moment
    -- So a line that asks for data, and is executed after that turn in a run that these turns
    -- begin, and isn't answered by ERR, rests on a line that its driver sent at most the greatest
    -- age before that second.
    pub fresh : (start old mid : Loop S R) (before : List (Option Turn)) (first : Option Turn)
        → IsNewServer start.server.state
        → AnyTurns told holds start before old → (look : IsOneOf told holds true old first mid)
        → (events more : List Event) (outcomes : List Outcome)
        → Run start.server.state events outcomes mid.server.state
        → (all : List Event) (results : List Outcome) (s : ServerState) (c : ℕ) (line : List ℕ)
        (ups : Option (List ℕ)) (was : WasFresh start.server.state all results s c line ups)
        → was.timely.events_before ≡ events ++ more
        → look.is.so_far.second ≤ was.fresh.last.moment + start.server.state.max_age
