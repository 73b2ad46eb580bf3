-- Ids for tracked orders: which are handed in at the start and at ticks.
use Rattle.std.specs.Prelude.{◌≡◌, ◌+◌, ℕ, suc, ⊤, List, Option, Some, None, length, min, Bool}
use Rattle.std.specs.Prelude.{if◌then◌else◌}
use Rattle.std.specs.Int.{w128, from_be_bytes}
use Rattle.std.specs.Io.KnownBytes.{Consumes}
use Rattle.nuttracking.specs.declared.limits.TheConstants.{ID_LIMIT}
use Rattle.nutloop.specs.declared.ids.Ids.{Ids}
use Rattle.nutloop.specs.declared.ids.TheConstants.{ID_SIZE}
use Rattle.nutloop.specs.declared.sockets.Ready.{Ready}
use Rattle.nutloop.specs.declared.sockets.Ready.TheVariants.{Id}

-- The id of the next sixteen bytes that a reader has left, the first of them the highest. A read
-- that fails, or ends before them, gives none.
abbrev pub ReadsId : Option (List ℕ) → Option ℕ → Option (List ℕ) → Type 0
ReadsId before None after = ⊤
ReadsId before (Some id) after =
    (bytes : List ℕ) × (length bytes ≡ ID_SIZE) × Consumes before after bytes
    × (id ≡ from_be_bytes w128 bytes)

-- Of those that are due one is given, and one fewer is left. Where the reader gives none, none is
-- left.
abbrev pub GivesNext : {F : Type 0} → (F → Option (List ℕ)) → ℕ → F → Option ℕ → ℕ → F → Type 0
GivesNext remaining due old (Some id) left new =
    (due ≡ suc left) × ReadsId (remaining old) (Some id) (remaining new)
GivesNext remaining due old None left new = left ≡ 0

-- One more is due for each second, and no more than may be available.
abbrev pub more_due : ℕ → ℕ → ℕ
more_due seconds due = min (due + seconds) ID_LIMIT

-- How many are due after a tick: all that are missing where that is asked for.
abbrev pub due_after : Bool → ℕ → ℕ → ℕ → ℕ
due_after refills missing seconds due = if refills then missing else more_due seconds due

-- The id that is handed in is the next one of the source.
abbrev pub HandsIn : {F : Type 0} → (F → Option (List ℕ)) → Option (Ids F) → ℕ → Option (Ids F)
    → Type 0
HandsIn remaining (Some old) id (Some new) =
    GivesNext remaining old.due old.bytes (Some id) new.due new.bytes
HandsIn remaining _ id _ = ⊥

abbrev pub id_in : Ready → Option ℕ
id_in (Id id) = Some id
id_in _ = None
