use Rattle.std.proofs.Common.{◌≡◌, take}
use Rattle.nutcore.specs.declared.note.TheConstants.{NOTE_LIMIT}
use Rattle.nutcore.specs.Notes.{tick_notes}
use Rattle.nutcore.proofs.server.status.note_stale.Given as goal

-- those of the UPSs before the place are noted
abbrev pub invariant-loop-place : goal.invariant-loop-place
invariant-loop-place l = l.notes ≡ take NOTE_LIMIT (tick_notes l.max_age l.was l.is 0 (take l.place l.upses.items))
