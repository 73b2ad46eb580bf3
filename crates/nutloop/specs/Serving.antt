-- Serving: turns one after another, up to the first that fails; and what holds of any turns.
use Rattle.std.specs.Prelude.{◌≡◌, ℕ, zero, suc, Bool, true, List, [], Result, Ok, Err, All, ◌++◌}
use Rattle.std.specs.Fn.{Called, Mut}
use denote.Ref.{Bor}
use Rattle.nutcore.specs.declared.event.Event.{Event}
use Rattle.nutcore.specs.declared.event.Outcome.{Outcome}
use Rattle.nutcore.specs.declared.note.Note.{Note}
use Rattle.nutcore.specs.Run.{Run}
use Rattle.nutcore.specs.Notes.{IsReadAtOnce}
use Rattle.nutcore.specs.NotedRuns.{notes_along}
use Rattle.nutcore.specs.Addresses.{OpensLawfully}
use Rattle.nutcore.specs.Recording.{Recorded, Continues}
use Rattle.nutloop.specs.declared.fault.LoopFault.{LoopFault}
use Rattle.nutloop.specs.declared.serving.TheConstants.{TURN_LIMIT}
use Rattle.nutloop.specs.declared.turns.Loop.{Loop}
use Rattle.nutloop.specs.Sockets.{Told}
use Rattle.nutloop.specs.Turn.{IsTurn, TurnGives}

module _ {S R : Type 0} (told : S → Told) (holds : R → Recorded) where
  -- So many turns that end well, one after another.
  abbrev pub Turns : Loop S R → ℕ → Loop S R → Type 0
  Turns old zero new = new ≡ old
  Turns old (suc n) new =
      (mid : Loop S R) × ((soon : Bool) × IsTurn told holds soon old mid × Turns mid n new)

  -- So many turns that end well. After each the watcher is shown the loop with what the turn noted:
  -- these notes in all. The next look ends soon where the watcher says so.
  abbrev pub ShownTurns : {W : Type 0} → (W → Loop S R → Bool → W → Type 0)
      → Bool → Loop S R → W → ℕ → List Note → Bool → Loop S R → W → Type 0
  ShownTurns shows soon old watcher zero notes again new last =
      (again ≡ soon) × (new ≡ old) × (last ≡ watcher) × (notes ≡ [])
  ShownTurns {W} shows soon old watcher (suc n) notes again new last =
      (mid : Loop S R) × ((next : W) × ((then_soon : Bool) × ((more : List Note)
      × (notes ≡ mid.server.notes ++ more) × IsTurn told holds soon old mid
      × shows watcher mid then_soon next
      × ShownTurns shows then_soon mid next n more again new last)))

  -- How turns end: with this fault, or as many ended well as are made.
  abbrev pub Ends : ℕ → Loop S R → Result (Unit {0}) LoopFault → Loop S R → Type 0
  Ends n old (Ok u) new = (n ≡ TURN_LIMIT) × (new ≡ old)
  Ends n old (Err fault) new = (soon : Bool) × TurnGives told holds soon old (Err fault) new

  -- They are one run of the server: its events are recorded, and all that they noted is shown, each
  -- event's notes once and in order. Sessions are opened only from lawful addresses, and drivers
  -- are read at most so many bytes at once.
  pub record IsOneRun (old : Loop S R) (notes : List Note) (new : Loop S R) : Type 0 where
    pub events : List Event
    pub outcomes : List Outcome
    pub run : Run old.server.state events outcomes new.server.state
    pub opens : All OpensLawfully events
    pub reads : All IsReadAtOnce events
    pub recorded : Continues (holds old.recorder) events (holds new.recorder)
    pub noted : notes ≡ notes_along old.server.state events outcomes

  -- The turns of serving without what is shown of them.
  abbrev pub TurnsUpTo : Loop S R → Result (Unit {0}) LoopFault → Loop S R → Type 0
  TurnsUpTo old result new = (n : ℕ) × ((mid : Loop S R) × Turns old n mid × Ends n mid result new)

  -- What serving does: turns up to the first that fails, of which the watcher is shown those that
  -- ended well. They are one run of the server, whatever the sockets do.
  pub record Serves {W : Type 0} (shows : W → Loop S R → Bool → W → Type 0) (old : Loop S R)
      (watcher : W) (result : Result (Unit {0}) LoopFault) (new : Loop S R) : Type 0 where
    pub turns : TurnsUpTo old result new
    pub notes : List Note
    pub again : Bool
    pub last : W
    pub shown : ShownTurns shows true old watcher turns.0 notes again turns.1.0 last
    pub run : IsOneRun old notes new

-- The watcher is called with this loop, and is this one then. It answers whether the next look ends
-- soon.
pub record IsShown {W S R : Type 0} (g : Mut W (Bor (Loop S R) × Unit {0}) Bool)
    (watcher : W) (shown : Loop S R) (soon : Bool) (next : W) : Type 0 where
  pub one : Bor (Loop S R)
  pub is : one.now ≡ shown
  pub called : Called g watcher (one, tt) soon next
