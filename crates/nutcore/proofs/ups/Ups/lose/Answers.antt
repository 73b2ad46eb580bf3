use Rattle.std.proofs.Common.{◌∙◌, Option, sym, ap}
use Rattle.nutcore.specs.declared.note.Note.{Note}
use Rattle.nutcore.specs.Promises.{with_note}
use Rattle.nutcore.specs.Notes.{status_of}
use Rattle.nutcore.proofs.Notes.{loss_noted, status_gone, no_status}
use Rattle.nutcore.proofs.ups.Ups.lose.Goals.{then-is_some, else-is_some}
use Rattle.nutcore.proofs.ups.Ups.lose.Goals as goal

pub returns-clause-noted : goal.returns-clause-noted
returns-clause-noted c =
    let x = c.args.self.now in
    let is = c.self.invariant ∙ ap status_of c.self.view_is in
    elim c.if-is_some.branch [
      | then-is_some w ↦ rw w.notes-is
          (loss_noted c.args.u x c.args.notes.now c.extend.new.self w.extend-then-is_some.new.self
          c.extend.ensures (w.extend-then-is_some.ensures ∙
          ap (λ (o : Option Note). with_note o c.extend.new.self)
          (sym (status_gone c.args.u c.self.inside.status (status_of x) is
          (sym c.is_some.ensures ∙ w.if-is_some.true)))))
      | else-is_some w ↦ rw w.notes-is
          (loss_noted c.args.u x c.args.notes.now c.extend.new.self c.extend.new.self
          c.extend.ensures (ap (λ (o : Option Note). with_note o c.extend.new.self)
          (sym (no_status c.args.u c.self.inside.status (status_of x) is
          (sym c.is_some.ensures ∙ w.if-is_some.false)))))
    ]
