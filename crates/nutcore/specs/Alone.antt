-- A client that sends one line, among any other clients.
use Rattle.std.specs.Prelude.{◌≡◌, ◌≤◌, ℕ, false, List, [], ◌∷◌, Some, None, length}
use Rattle.nutwords.specs.Cut.{has_lf}
use Rattle.nutcore.specs.declared.event.Event.{Event}
use Rattle.nutcore.specs.declared.event.Event.TheVariants.{Feed}
use Rattle.nutcore.specs.declared.event.Outcome.{Outcome}
use Rattle.nutcore.specs.declared.event.Outcome.TheVariants.{Fed}
use Rattle.nutcore.specs.declared.TheConstants.{HELD_LIMIT}
use Rattle.nutwords.specs.SplitLine.{with_lf}
use Rattle.nutcore.specs.Session.{SessionState}
use Rattle.nutcore.specs.Server.{ServerState, session}
use Rattle.nutcore.specs.Reply.{reply}
use Rattle.nutcore.specs.Step.{Step}
use Rattle.nutcore.specs.Run.{Run}
use Rattle.nutcore.specs.History.{of_line, executions, of_client, taken, asked, owed, held, is_over}
use Rattle.nutcore.specs.Headline.{IsLawful}

-- The run executed only this line for the client, on this server, and what it took is exactly the
-- reply to it.
pub record WasAnswered (c : ℕ) (old : ServerState) (events : List Event) (outcomes : List Outcome)
    (line : List ℕ) : Type 0 where
  pub server : ServerState
  pub executed : of_client c (executions old events outcomes) ≡ of_line server c line ∷ []
  pub took : taken c old events outcomes ≡ reply server c line

-- A client that wasn't there before, whatever others do: where what joined its held input in a run
-- is one line, and in the end it isn't over, holds nothing and is owed nothing.
abbrev pub OneLineIsAnswered : Type 0
OneLineIsAnswered =
    (old new : ServerState) (events : List Event) (outcomes : List Outcome) (c : ℕ) (line : List ℕ)
    → IsLawful old → session c old ≡ None → Run old events outcomes new
    → asked c old events outcomes ≡ with_lf line → has_lf line ≡ false → is_over c new ≡ false
    → held c new ≡ [] → owed c new ≡ [] → WasAnswered c old events outcomes line

-- The session goes on, holds nothing and owes nothing.
pub record IsIdle (x : SessionState) : Type 0 where
  pub going : x.ending ≡ false
  pub held : x.held ≡ []
  pub owed : x.owed ≡ []

-- Where one whole line of such a client comes, and memory isn't refused, the client is owed exactly
-- the reply to it on the server as it was.
abbrev pub ALineIsAnsweredAtOnce : Type 0
ALineIsAnsweredAtOnce =
    (old new : ServerState) (c n : ℕ) (line : List ℕ) (x : SessionState) → session c old ≡ Some x
    → IsIdle x → has_lf line ≡ false → length (with_lf line) ≤ HELD_LIMIT
    → Step old (Feed c (with_lf line)) (Fed n) new → owed c new ≡ reply old c line
