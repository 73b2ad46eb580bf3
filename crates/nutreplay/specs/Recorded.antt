-- What a recorder has written of the events, and what that is read as.
use Rattle.std.specs.Prelude.{◌≡◌, ◌⊎◌, ◌<◌, ◌&&◌, ℕ, Bool, true, false, not, List, [], ◌∷◌, ◌++◌, length}
use Rattle.std.specs.Prelude.{Option, Some, string_bytes}
use Rattle.nutio.specs.Ends.{IsBeginning, Written, WriteFailed}
use Rattle.nutusers.specs.UpsList.{Ups, IsList}
use Rattle.nutcore.specs.declared.event.Event.{Event}
use Rattle.nutreplay.specs.Written.{IsReadAs, line_of}
use Rattle.nutreplay.specs.declared.recorder.Recorder.{Recorder}

-- The line of the next event, if there is one.
abbrev pub next_line : List Ups → List Event → List ℕ
next_line list [] = []
next_line list (event ∷ later) = line_of list event

-- A record that has ended after its head: its whole lines are read as a beginning of the events,
-- and after them comes at most a beginning of the next line.
pub record EndsAfterHead (list : List Ups) (max_age : ℕ) (script : List ℕ) (events : List Event)
    : Type 0 where
  pub lines : List ℕ
  pub part : List ℕ
  pub first : List Event
  pub lost : List Event
  pub script_is : script ≡ lines ++ part
  pub events_are : events ≡ first ++ lost
  pub read : IsReadAs list max_age lines first
  pub begins : IsBeginning part (next_line list lost)

-- A record that has ended in its head has no event.
abbrev pub EndsInHead : List Ups → ℕ → List ℕ → Type 0
EndsInHead list max_age script =
    (head : List ℕ) × IsReadAs list max_age head [] × IsBeginning script head

abbrev pub HasEnded : List Ups → ℕ → List ℕ → List Event → Type 0
HasEnded list max_age script events =
    EndsInHead list max_age script ⊎ EndsAfterHead list max_age script events

-- A record that goes on: what is written and what waits are read as these events. Wherever the
-- writing of what waits stops, the record has ended.
pub record GoesOn (list : List Ups) (max_age : ℕ) (script waiting : List ℕ) (events : List Event)
    : Type 0 where
  pub read : IsReadAs list max_age (script ++ waiting) events
  pub stops : (front : List ℕ) → IsBeginning front waiting
      → HasEnded list max_age (script ++ front) events

-- A record of these events, which may have ended.
abbrev pub IsRecordOf : List Ups → ℕ → Bool → List ℕ → List ℕ → List Event → Type 0
IsRecordOf list max_age false script waiting events = GoesOn list max_age script waiting events
IsRecordOf list max_age true script waiting events = HasEnded list max_age script events

-- The recorder has recorded these events of a server of this greatest age: what it wrote is known,
-- and the lines that wait follow.
pub record Records {W : Type 0} (contents : W → Option (List ℕ)) (max_age : ℕ)
    (recorder : Recorder W) (events : List Event) : Type 0 where
  pub is_list : IsList recorder.list
  pub script : List ℕ
  pub known : contents recorder.writer ≡ Some script
  pub is : IsRecordOf recorder.list max_age recorder.is_cut script (string_bytes recorder.waiting)
      events

-- What a write of a text leaves: all of it; or nothing of one that is longer than is left, or a
-- beginning, where a write failed.
abbrev pub Leaves : {W : Type 0} → (W → Option (List ℕ)) → (W → ℕ) → ℕ → W → List ℕ → Bool → W
    → Type 0
Leaves contents failures left old text true new = Written contents failures old text new
Leaves contents failures left old text false new =
    ((left < length text) × (new ≡ old)) ⊎ WriteFailed contents failures old text new

-- The lines that wait are written, where the record hasn't ended, and none waits any more.
pub record WritesAll {W : Type 0} (contents : W → Option (List ℕ)) (failures : W → ℕ)
    (old new : Recorder W) : Type 0 where
  pub list : new.list ≡ old.list
  pub none_waits : string_bytes new.waiting ≡ []
  pub ended : old.is_cut ≡ true → (new.is_cut ≡ true) × (new.writer ≡ old.writer)
  pub goes_on : old.is_cut ≡ false
      → Leaves contents failures old.left old.writer (string_bytes old.waiting) (not new.is_cut)
      new.writer

-- The record ends by that.
abbrev pub ends_by : {W : Type 0} → Recorder W → Recorder W → Bool
ends_by old new = new.is_cut && not old.is_cut

-- What is written is read as these events, or the record has ended.
abbrev pub IsFileOf : List Ups → ℕ → Bool → List ℕ → List Event → Type 0
IsFileOf list max_age false script events = IsReadAs list max_age script events
IsFileOf list max_age true script events = HasEnded list max_age script events

-- What waits is written: the file is of the events that the recorder has recorded, and it has
-- recorded the same ones.
pub record ARecordIsOfItsEvents {W : Type 0} (contents : W → Option (List ℕ)) (failures : W → ℕ)
    : Type 0 where
  pub file : (max_age : ℕ) (old new : Recorder W) (events : List Event)
      → Records contents max_age old events → WritesAll contents failures old new
      → (script : List ℕ) × (contents new.writer ≡ Some script)
      × IsFileOf new.list max_age new.is_cut script events
  pub same : (max_age : ℕ) (old new : Recorder W) (events : List Event)
      → Records contents max_age old events → WritesAll contents failures old new
      → Records contents max_age new events
