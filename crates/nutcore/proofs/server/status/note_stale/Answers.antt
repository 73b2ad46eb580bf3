use Rattle.std.proofs.Common.{◌≡◌, ◌+◌, ◌<◌, ◌++◌, ◌∙◌, ℕ, suc, [], List}
use Rattle.std.proofs.Common.{Option, Some, sym, ap, ap₂, arith, length, take, slice_get}
use Rattle.std.proofs.Common.{zero-add}
use Rattle.std.specs.List.{cons_option}
use Rattle.nutcore.specs.Ups.{UpsState}
use Rattle.nutcore.specs.declared.note.Note.{Note}
use Rattle.nutcore.specs.declared.note.TheConstants.{NOTE_LIMIT}
use Rattle.nutusers.specs.UpsList.{id_at}
use Rattle.nutcore.specs.Notes.{data_note, tick_notes}
use Rattle.nutcore.proofs.UpsPlaces.{there_is}
use Rattle.nutcore.proofs.Notes.{one_noted, ticked, ticked_so_far}
use Rattle.nutcore.proofs.server.status.note_stale.Goals as goal

pub loop-place-preserved : goal.loop-place-preserved
loop-place-preserved c =
    let p : ℕ = c.loop-place.place in
    let xs : List UpsState = c.args.upses.now.items in
    let x : UpsState = c.index-ups.result.now in
    let so_far : ℕ → List Note = λ n. tick_notes c.args.max_age c.args.was c.args.is 0 (take n xs) in
    let within : p < length xs = omega (arith, c.loop-place-test.true, c.len-place-end.ensures) in
    let there : slice_get xs p ≡ Some x = there_is xs p x within c.index-ups.ensures in
    let next : suc p ≡ p + 1 = omega arith in
    c.note_data.ensures
    ∙ one_noted (so_far p) _ c.loop-place.notes c.loop-place.invariant
    ∙ ap (λ (o : Option Note). take NOTE_LIMIT (so_far p ++ cons_option o []))
    (ap₂ (data_note (id_at p)) c.data_state.ensures c.data_state-in-loop-place.ensures)
    ∙ ap (λ (k : ℕ). take NOTE_LIMIT
    (so_far p ++ ticked c.args.max_age c.args.was c.args.is k x)) (sym (zero-add p))
    ∙ ap (take NOTE_LIMIT) (sym (ticked_so_far c.args.max_age c.args.was c.args.is 0 p xs x there) ∙ ap so_far next)
