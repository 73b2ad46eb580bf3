-- A client that is owed little has room for input, and an ending one is finished.
use Rattle.std.specs.Prelude.{◌≡◌, ◌<◌, ◌≤◌, ℕ, true, false, List, [], ◌∷◌, Some, None, length}
use Rattle.nutlisting.specs.declared.outbox.TheConstants.{OWED_LIMIT}
use Rattle.nutcore.specs.declared.TheConstants.{HELD_LIMIT}
use Rattle.nutcore.specs.declared.event.Event.{Event}
use Rattle.nutcore.specs.declared.event.Outcome.{Outcome}
use Rattle.nutwords.specs.SplitLine.{first_line}
use Rattle.nutcore.specs.Session.{SessionState}
use Rattle.nutcore.specs.Server.{ServerState, session}
use Rattle.nutcore.specs.Step.{refused_after}
use Rattle.nutcore.specs.Run.{Run}
use Rattle.nutcore.specs.Calls.{is_finished}
use Rattle.nutcore.specs.History.{taken}
use Rattle.nutcore.specs.Headline.{IsLawful}
use Rattle.nutcore.specs.Isolation.{client_of}

-- Memory was there whenever this client sent or took.
abbrev pub HadMemory : ℕ → List Event → List Outcome → Type 0
HadMemory c [] os = Unit {0}
HadMemory c (e ∷ es) [] = Unit {0}
HadMemory c (e ∷ es) (o ∷ os) =
    (client_of e ≡ Some c → refused_after o ≡ None) × HadMemory c es os

-- The session holds no whole line, and fewer bytes than it may.
pub record HasRoom (x : SessionState) : Type 0 where
  pub no_line : first_line x.held ≡ None
  pub room : length x.held < HELD_LIMIT

-- Of a client that opened in a run, as of any in a run from a new server: where its session isn't
-- ending, and at most 4,096 bytes are owed to it, it has room for input.
abbrev pub WhoIsOwedLittleHasRoom : Type 0
WhoIsOwedLittleHasRoom =
    (old new : ServerState) (events : List Event) (outcomes : List Outcome) (c : ℕ)
    (x : SessionState) → session c old ≡ None → Run old events outcomes new
    → HadMemory c events outcomes → session c new ≡ Some x → x.ending ≡ false
    → length x.owed ≤ OWED_LIMIT → HasRoom x

-- A session that is ending is finished once as many bytes are taken as it was owed, whatever else
-- happens.
abbrev pub WhoEndsIsFinished : Type 0
WhoEndsIsFinished =
    (old new : ServerState) (events : List Event) (outcomes : List Outcome) (c : ℕ)
    (x y : SessionState) → IsLawful old → Run old events outcomes new → session c old ≡ Some x
    → x.ending ≡ true → session c new ≡ Some y
    → length (taken c old events outcomes) ≡ length x.owed → is_finished y ≡ true
