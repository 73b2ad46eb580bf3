-- In time: what waits at a look at the system is read, answered and written before the next look.
use Rattle.std.specs.Prelude.{◌≡◌, ◌⊎◌, ◌<◌, ℕ, zero, suc, Bool, true, false, List, [], ◌∷◌, ◌++◌}
use Rattle.std.specs.Prelude.{Option, Some, None, length, take}
use Rattle.nutwords.specs.Cut.{has_lf}
use Rattle.nutwords.specs.SplitLine.{with_lf}
use Rattle.nutlisting.specs.declared.outbox.TheConstants.{QUEUE_LIMIT}
use Rattle.nutcore.specs.declared.event.Event.{Event}
use Rattle.nutcore.specs.declared.event.Outcome.{Outcome}
use Rattle.nutcore.specs.declared.event.Outcome.TheVariants.{Fed}
use Rattle.nutcore.specs.declared.event.Peer.{Peer}
use Rattle.nutcore.specs.declared.event.Peer.TheVariants.{Client}
use Rattle.nutcore.specs.Alone.{IsIdle}
use Rattle.nutcore.specs.Headline.{IsBeginning}
use Rattle.nutcore.specs.History.{taken}
use Rattle.nutcore.specs.Recording.{Recorded, came_from}
use Rattle.nutcore.specs.Reply.{reply}
use Rattle.nutcore.specs.Run.{Run}
use Rattle.nutcore.specs.Server.{ServerState, session}
use Rattle.nutcore.specs.Session.{SessionState}
use Rattle.nutcore.specs.Sound.{IsSound}
use Rattle.nutcore.specs.Step.{Step, offered}
use Rattle.nutloop.specs.declared.over_mio.pass.Stop.{Stop}
use Rattle.nutloop.specs.declared.sockets.Ready.TheVariants.{Read, Write}
use Rattle.nutloop.specs.Fairness.{AnyTurns, FromLookToLook, IsOneOf, Turn}
use Rattle.nutloop.specs.Pass.{number}
use Rattle.nutloop.specs.declared.turns.Loop.{Loop}
use Rattle.nutloop.specs.Sockets.{Told}
use Rattle.nutloop.specs.Turn.{IsTurn, gave, took}

-- The stop is ready at each of these turns up to its own, and at the next look if it has none.
abbrev pub IsReadyUpToItsTurn : Stop → List (Option Turn) → Bool → Type 0
IsReadyUpToItsTurn s [] at_look = at_look ≡ true
IsReadyUpToItsTurn s (None ∷ ts) at_look = IsReadyUpToItsTurn s ts at_look
IsReadyUpToItsTurn s (Some t ∷ ts) at_look =
    (t.may s ≡ true) × ((t.visited ≡ s) ⊎ IsReadyUpToItsTurn s ts at_look)

-- One server leads to another.
pub record LeadsTo (old new : ServerState) : Type 0 where
  pub events : List Event
  pub outcomes : List Outcome
  pub run : Run old events outcomes new

module _ {S R : Type 0} (told : S → Told) (holds : R → Recorded) where
  -- The turn reads these bytes of the peer.
  abbrev pub Reads : {soon : Bool} {old new : Loop S R} → Peer → List ℕ → IsTurn told holds soon old new
      → Type 0
  Reads p bytes turn = (turn.ready ≡ Read p) × (turn.row.answer ≡ gave bytes)

  -- The client takes all that it is offered in the turn.
  abbrev pub TakesAll : {soon : Bool} {old new : Loop S R} → ℕ → IsTurn told holds soon old new → Type 0
  TakesAll {soon} {old} c turn =
      (turn.ready ≡ Write (Client c))
      × (turn.row.answer ≡ took (length (offered (session c old.server.state))))

  -- One of the turns is had at this stop.
  pub record IsHadAt (s : Stop) (old : Loop S R) (turns : List (Option Turn)) (new : Loop S R)
      : Type 0 where
    pub before : List (Option Turn)
    pub own : Turn
    pub after : List (Option Turn)
    pub all : turns ≡ before ++ Some own ∷ after
    pub visited : own.visited ≡ s
    pub looks : Bool
    pub from : Loop S R
    pub to : Loop S R
    pub earlier : AnyTurns told holds old before from
    pub one : IsOneOf told holds looks from (Some own) to
    pub later : AnyTurns told holds to after new

  -- Two stops have their turns one after the other, and then a third, if it is ready from then on.
  pub record AreHadInOrder (first second third : Stop) (old : Loop S R)
      (turns : List (Option Turn)) (at_look : Bool) (new : Loop S R) : Type 0 where
    pub reports : IsHadAt first old turns new
    pub asks : IsHadAt second reports.to reports.after new
    pub takes : IsReadyUpToItsTurn third asks.after at_look → IsHadAt third asks.to asks.after new

  -- A report of the peer is executed; then the line of the client is answered on the server to
  -- which that led; and the reply, or its first 8,192 bytes, begins what the client takes from then
  -- on.
  pub record IsAnsweredWith (peer : Peer) (report : List ℕ) (c : ℕ) (line : List ℕ)
      (before after asked answered taking : ServerState) : Type 0 where
    pub outcome : Outcome
    pub executed : Step before (came_from peer report) outcome after
    pub since : LeadsTo after asked
    pub later : LeadsTo answered taking
    pub reply : IsBeginning (take QUEUE_LIMIT (reply asked c line))
        (taken c answered later.events later.outcomes ++ offered (session c taking))

  -- So many looks, one after another, and what the turns after each are.
  abbrev pub EachLook : (Loop S R → List (Option Turn) → Bool → Loop S R → Type 0) → Stop → ℕ
      → Loop S R → Loop S R → Type 0
  EachLook P s zero old new = new ≡ old
  EachLook P s (suc n) old new =
      (mid : Loop S R) × ((turns : List Turn)
      × ((looks : FromLookToLook told holds old turns mid)
      × P old (looks.from.first ∷ looks.from.later) (looks.is.may mid.server.state s) mid
      × EachLook P s n mid new))

  pub record WhoeverAsksLearnsInTime : Type 0 where
    -- From one look to the next: stops that were ready at the first look have their turns in the
    -- order of their numbers.
    pub order : (old new : Loop S R) (turns : List Turn)
        (looks : FromLookToLook told holds old turns new) (first second third : Stop)
        → number first < number second → number second < number third
        → IsReadyUpToItsTurn first (looks.from.first ∷ looks.from.later)
        (looks.is.may new.server.state first)
        → IsReadyUpToItsTurn second (looks.from.first ∷ looks.from.later)
        (looks.is.may new.server.state second)
        → AreHadInOrder first second third old (looks.from.first ∷ looks.from.later)
        (looks.is.may new.server.state third) new
    -- A stop that is ready at so many looks has as many turns.
    pub again : (n : ℕ) (old new : Loop S R) (s : Stop)
        → EachLook (λ before turns at_look after. IsReadyUpToItsTurn s turns at_look) s n old new
        → EachLook (λ before turns at_look after. IsHadAt s before turns after) s n old new
    -- So where a peer reports in the first turn, an idle client asks one line in the second, for
    -- which memory isn't refused, and takes what it is offered in the third.
    pub answer : (old new : Loop S R) (turns : List (Option Turn)) (first second third : Stop)
        (reports : IsHadAt first old turns new)
        (asks : IsHadAt second reports.to reports.after new)
        (takes : IsHadAt third asks.to asks.after new)
        (peer : Peer) (report : List ℕ) (c n : ℕ) (line : List ℕ) (x : SessionState)
        → IsSound old.server.state → Reads peer report reports.one.turn
        → Reads (Client c) (with_lf line) asks.one.turn
        → asks.one.turn.row.does.outcomes ≡ Fed n ∷ []
        → session c asks.from.server.state ≡ Some x → IsIdle x → has_lf line ≡ false
        → TakesAll c takes.one.turn
        → IsAnsweredWith peer report c line reports.from.server.state reports.to.server.state
        asks.from.server.state asks.to.server.state takes.from.server.state
