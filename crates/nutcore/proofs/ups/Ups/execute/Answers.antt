use Rattle.std.proofs.Common.{◌≡◌, ◌∙◌, Option, Some, None, [], refl, sym, subst, ap, ap₂, cond}
use Rattle.nutcore.specs.Notes.{end_note, fault_of, data_note, data_state_of, shown_of}
use Rattle.nutcore.specs.Promises.{DoesLine, front_or, with_note}
use Rattle.nutcore.specs.Ups.{UpsState, with_faulty_line, with_unfinished}
use Rattle.nutcore.specs.declared.note.Note.{Note}
use Rattle.nutcore.specs.declared.note.Note.TheVariants.{LineRefused}
use Rattle.nutcore.proofs.DriverLoops.{does_line}
use Rattle.nutcore.proofs.ups.Ups.execute.Goals.{then-settle, else-settle}
use Rattle.nutcore.proofs.ups.Ups.execute.Goals as goal

pub returns-clause-done : goal.returns-clause-done
returns-clause-done c =
    let b = c.settle.result in
    let z = c.apply.new.self in
    let o = c.in_ok-outcome.outcome in
    let line = front_or c.args.count c.args.piece.now c.args.self.now.unfinished in
    let left : c.if-settle.self ≡ cond b (with_faulty_line z) z = elim c.if-settle.branch [
      | then-settle w ↦ rw (w.self-is, w.if-settle.true) w.refuse.ensures.counted
      | else-settle w ↦ rw (w.self-is, w.if-settle.false) refl
    ] in
    let two : c.if-settle.notes ≡ with_note
    (cond b (Some (LineRefused c.args.u (fault_of o) (shown_of line))) (end_note c.args.u o)) c.apply.new.notes =
    elim c.if-settle.branch [
      | then-settle w ↦ rw (w.notes-is, w.if-settle.true) (w.refuse.ensures.noted ∙
          ap (λ (s : UpsState). with_note (Some (LineRefused c.args.u (fault_of o)
          (shown_of (front_or c.args.count c.args.piece.now s.unfinished)))) c.apply.new.notes)
          c.in_ok-outcome.ensures.done.leaves)
      | else-settle w ↦ rw (w.notes-is, w.if-settle.false) w.note_end.ensures
    ] in
    let a = c.args.now.max_age in
    let m = c.args.now.seconds in
    let three = c.note_data.ensures ∙
    ap (λ (n : Option Note). with_note n c.if-settle.notes)
    (ap₂ (data_note c.args.u) c.data_state-was.ensures
    (c.data_state-is.ensures ∙ ap (data_state_of a m) c.self.view_is)) in
    rw c.clear.ensures (subst (λ s. DoesLine a m c.args.u line c.args.self.now c.args.tracking.now c.args.notes.now
    (with_unfinished [] s) c.settle.new.tracking c.note_data.new.notes) (sym c.self.view_is)
    (does_line a m c.args.u line c.args.self.now c.args.tracking.now c.args.notes.now o z b
    c.if-settle.self c.settle.new.tracking c.apply.new.notes c.if-settle.notes c.note_data.new.notes
    c.in_ok-outcome.ensures.done c.settle.ensures.answer c.settle.ensures.after left c.requires.room
    c.in_ok-outcome.ensures.noted two three))
