-- What holds between two looks at the system: everybody who is ready has a turn, turns are few, and
-- nobody who is ready is slept over.
use Rattle.std.specs.Prelude.{◌≡◌, ◌⊎◌, ◌+◌, ◌≤◌, ℕ, suc, Bool, true, false, List, [], ◌∷◌}
use Rattle.std.specs.Prelude.{Option, Some, None, is_some, length}
use Rattle.std.specs.List.{cons_option}
use Rattle.nutcore.specs.Recording.{Recorded}
use Rattle.nutcore.specs.Server.{ServerState}
use Rattle.nutloop.specs.declared.over_mio.pass.Pass.{Pass}
use Rattle.nutloop.specs.declared.over_mio.pass.Stop.{Stop}
use Rattle.nutloop.specs.declared.over_mio.pass.TheConstants.{STOPS, TURNS_PER_LOOK}
use Rattle.nutloop.specs.declared.sockets.Ready.{Ready}
use Rattle.nutloop.specs.declared.sockets.Ready.TheVariants.{Id, Tick}
use Rattle.nutloop.specs.Pass.{HasNext, HasTurn, IsOver, fresh}
use Rattle.nutloop.specs.Sockets.{Passing, Told}
use Rattle.nutloop.specs.declared.turns.Loop.{Loop}
use Rattle.nutloop.specs.Turn.{IsTurn}
use Rattle.nutloop.specs.Serving.{Turns}

-- A turn of a peer or a newcomer: who could have had it, who had it, and the pass after it.
pub record Turn : Type 0 where
  pub may : Stop → Bool
  pub visited : Stop
  pub pass : Pass

abbrev pub HadTurn : Stop → List Turn → Type 0
HadTurn s [] = ⊥
HadTurn s (t ∷ ts) = (t.visited ≡ s) ⊎ HadTurn s ts

abbrev pub WasUnready : Stop → List Turn → Type 0
WasUnready s [] = ⊥
WasUnready s (t ∷ ts) = (t.may s ≡ false) ⊎ WasUnready s ts

abbrev pub turns_in : List (Option Turn) → List Turn
turns_in [] = []
turns_in (t ∷ ts) = cons_option t (turns_in ts)

-- After a look: the turn of a peer that was ready then; or a tick, or there is nothing to do. The
-- server's moment is that of the look from then on.
abbrev pub BeginsWith : ServerState → Ready → Option Turn → Passing → Type 0
BeginsWith s ready None new =
    (new.so_far.pass ≡ fresh) × ((ready ≡ Tick new.so_far.second) ⊎ (new.so_far.second ≤ s.moment))
BeginsWith s ready (Some t) new =
    (t.may ≡ new.may s) × (t.pass ≡ new.so_far.pass) × (ready ≡ new.ready_at s t.visited)
    × HasTurn t.may fresh t.visited t.pass × (new.so_far.second ≤ s.moment)

-- Without a look: the turn of a peer that was ready then, or an id is handed in.
abbrev pub GoesOnWith : ServerState → Passing → Ready → Option Turn → Passing → Type 0
GoesOnWith s old ready None new =
    ((id : ℕ) × (ready ≡ Id id)) × (old.so_far ≡ record new.so_far { ids = suc new.so_far.ids })
GoesOnWith s old ready (Some t) new =
    (t.may ≡ old.may s) × (t.pass ≡ new.so_far.pass) × (ready ≡ old.ready_at s t.visited)
    × HasNext t.may old.so_far.pass t.visited t.pass × (new.so_far.second ≡ old.so_far.second)
    × (new.so_far.ids ≤ old.so_far.ids)

-- What a turn finds: after a look, or without one.
abbrev pub FindsWith : Bool → ServerState → Option Passing → Ready → Option Turn → Passing → Type 0
FindsWith true s None ready t new = ⊥
FindsWith true s (Some old) ready t new =
    IsOver (old.may s) old.so_far.pass old.so_far.pass × BeginsWith s ready t new
FindsWith false s None ready t new = ⊥
FindsWith false s (Some old) ready t new = GoesOnWith s old ready t new

module _ {S R : Type 0} (told : S → Told) (holds : R → Recorded) where
  -- A turn of serving, and the turn of a pass that it is, if it is one.
  pub record IsOneOf (looks : Bool) (old : Loop S R) (t : Option Turn) (new : Loop S R)
      : Type 0 where
    pub soon : Bool
    pub turn : IsTurn told holds soon old new
    pub is : Passing
    pub found : (told turn.mid).passing ≡ Some is
    pub finds : FindsWith looks old.server.state (told old.sockets).passing turn.ready t is

  -- Turns, with and without looks.
  abbrev pub AnyTurns : Loop S R → List (Option Turn) → Loop S R → Type 0
  AnyTurns old [] new = new ≡ old
  AnyTurns old (t ∷ ts) new =
      (looks : Bool) × ((mid : Loop S R) × IsOneOf looks old t mid × AnyTurns mid ts new)

  abbrev pub WithoutALook : Loop S R → List (Option Turn) → Loop S R → Type 0
  WithoutALook old [] new = new ≡ old
  WithoutALook old (t ∷ ts) new = (mid : Loop S R) × IsOneOf false old t mid × WithoutALook mid ts new

  -- A look and the turns after it without another one.
  pub record FromALook (old : Loop S R) (turns : List Turn) (new : Loop S R) : Type 0 where
    pub first : Option Turn
    pub mid : Loop S R
    pub later : List (Option Turn)
    pub begins : IsOneOf true old first mid
    pub goes_on : WithoutALook mid later new
    pub all : turns ≡ turns_in (first ∷ later)

  -- The turns from one look up to the next one, before which nobody has a turn any more.
  pub record FromLookToLook (old : Loop S R) (turns : List Turn) (new : Loop S R) : Type 0 where
    pub from : FromALook old turns new
    pub is : Passing
    pub before : (told new.sockets).passing ≡ Some is
    pub over : IsOver (is.may new.server.state) is.so_far.pass is.so_far.pass

  -- Sockets that make passes.
  abbrev pub MakesPasses : Type 0
  MakesPasses = (s : S) → is_some (told s).passing ≡ true

  -- Looks divide the turns of serving, each of which is one after a look or one without a look.
  -- After a look there are at most 208 of peers and newcomers, and as many ids are handed in as
  -- were due. Before the next look nobody has a turn any more.
  pub record LooksDivideTheTurns : Type 0 where
    pub each : (old new : Loop S R) (n : ℕ) → MakesPasses → Turns told holds old n new
        → (turns : List (Option Turn)) × (length turns ≡ n) × AnyTurns old turns new
    pub few : (old new : Loop S R) (turns : List Turn) → FromALook old turns new
        → length turns + 1 ≤ TURNS_PER_LOOK + STOPS
    pub ids : (old new : Loop S R) (turns : List Turn) (looks : FromALook old turns new)
        → length looks.later ≤ length turns + looks.begins.is.so_far.ids
    pub until : (old mid new : Loop S R) (turns : List Turn) (t : Option Turn)
        → FromALook old turns mid → IsOneOf true mid t new → FromLookToLook old turns mid

  -- Whoever was ready all the while had a turn, at the latest after so many others. The next look
  -- waits only where nobody is ready.
  pub record EverybodyHasATurn : Type 0 where
    pub each : (old new : Loop S R) (turns : List Turn) (looks : FromLookToLook old turns new)
        (s : Stop) → HadTurn s turns
        ⊎ (WasUnready s turns ⊎ (looks.is.may new.server.state s ≡ false))
    pub awake : (old new : Loop S R) (turns : List Turn) (looks : FromLookToLook old turns new)
        (s : Stop) → looks.is.so_far.pass.had_turn ≡ false → looks.is.may new.server.state s ≡ false
    pub divided : LooksDivideTheTurns
