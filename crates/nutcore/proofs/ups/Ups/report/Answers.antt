use Rattle.std.proofs.Common.{◌++◌, ◌∙◌, ◌≡◌, List, ℕ, ap, sym, subst, length, length-drop, arith}
use Rattle.nutwords.specs.declared.cut.Found.{Found}
use Rattle.nutwords.specs.Found.{FindsLine, Finds}
use Rattle.nutcore.specs.Ups.{UpsState, with_unfinished}
use Rattle.nutcore.specs.Promises.{front_or, DoesLine, LacksMemory}
use Rattle.nutcore.specs.contracts.ups.Ups.{the_view}
use Rattle.nutcore.proofs.DriverLoops.{IsAtLine, begins, reads_on, needs_more, too_long}
use Rattle.nutcore.proofs.DriverLoops.{lacks_memory, when_err, when_ok}
use Rattle.nutcore.proofs.ups.Ups.report.Goals.{in-InPiece, in-Joined}
use Rattle.nutcore.proofs.ups.Ups.report.Goals as goal

pub loop-length-init : goal.loop-length-init
loop-length-init c = record {
  at = begins c.args.now.max_age c.args.now.seconds c.args.u c.args.self.now c.args.tracking.now
      c.args.notes.now c.args.piece.now c.requires.room;
  left = omega arith;
}

pub returns-in-NeedsMore : goal.returns-in-NeedsMore
returns-in-NeedsMore c =
    let v : UpsState = the_view c.self.inside in
    let at = subst (λ (z : UpsState). IsAtLine c.args.now.max_age c.args.now.seconds c.args.u
    c.loop-length.done (c.args.self.now.unfinished ++ c.args.piece.now) c.args.self.now
    c.args.tracking.now c.args.notes.now z c.loop-length.tracking c.loop-length.notes
    c.loop-length.rest.now) (sym c.self.view_is) c.loop-length.invariant.at in
    needs_more at c.find.new.self (subst
    (λ (f : Found). Finds c.self.inside.cut c.loop-length.rest.now f c.find.new.self) c.in-NeedsMore.is c.find.ensures)

pub returns-in-TooLong : goal.returns-in-TooLong
returns-in-TooLong c =
    let v : UpsState = the_view c.self.inside in
    let at = subst (λ (z : UpsState). IsAtLine c.args.now.max_age c.args.now.seconds c.args.u
    c.loop-length.done (c.args.self.now.unfinished ++ c.args.piece.now) c.args.self.now
    c.args.tracking.now c.args.notes.now z c.loop-length.tracking c.loop-length.notes
    c.loop-length.rest.now) (sym c.self.view_is) c.loop-length.invariant.at in
    rw c.lose.ensures.lost (too_long at c.find.new.self c.lose.new.notes
    (subst (λ (f : Found). Finds c.self.inside.cut c.loop-length.rest.now f c.find.new.self)
    c.in-TooLong.is c.find.ensures) c.lose.ensures.noted)

pub returns-then-is_err : goal.returns-then-is_err
returns-then-is_err c =
    let v : UpsState = the_view c.self.inside in
    let at = subst (λ (z : UpsState). IsAtLine c.args.now.max_age c.args.now.seconds c.args.u
    c.loop-length.done (c.args.self.now.unfinished ++ c.args.piece.now) c.args.self.now
    c.args.tracking.now c.args.notes.now z c.loop-length.tracking c.loop-length.notes
    c.loop-length.rest.now) (sym c.self.view_is) c.loop-length.invariant.at in
    let held : List ℕ = c.find.new.self in
    let line : List ℕ = front_or c.match-find.length.0 c.loop-length.rest.now held in
    let self : c.match-find.self ≡ with_unfinished held v =
    elim c.match-find.branch [ in-InPiece w ↦ w.self-is | in-Joined w ↦ w.self-is ] in
    let finds : FindsLine v.unfinished c.loop-length.rest.now line c.match-find.length.1 = elim c.match-find.branch [
      | in-InPiece w ↦ rw w.length-is
          (subst (λ (f : Found). Finds c.self.inside.cut c.loop-length.rest.now f held)
          w.in-InPiece.is c.find.ensures).0
      | in-Joined w ↦ rw w.length-is
          (subst (λ (f : Found). Finds c.self.inside.cut c.loop-length.rest.now f held) w.in-Joined.is c.find.ensures)
    ] in
    let lacks : LacksMemory c.args.now.seconds line (with_unfinished held v) c.loop-length.tracking
    c.loop-length.notes c.execute.new.self c.execute.new.tracking c.execute.new.notes =
    subst (λ (z : UpsState). LacksMemory c.args.now.seconds
    (front_or c.match-find.length.0 c.loop-length.rest.now z.unfinished) z c.loop-length.tracking
    c.loop-length.notes c.execute.new.self c.execute.new.tracking c.execute.new.notes) self
    (when_err c.execute.result (sym c.is_err.ensures.value ∙ c.if-is_err.true) c.execute.ensures.lacks) in
    rw c.lose-then-is_err.ensures.lost
    (lacks_memory at line held c.match-find.length.1 c.execute.new.self c.execute.new.tracking
    c.execute.new.notes c.lose-then-is_err.new.notes finds lacks c.lose-then-is_err.ensures.noted)

pub loop-length-smaller : goal.loop-length-smaller
loop-length-smaller c =
    let v : UpsState = the_view c.self.inside in
    let held : List ℕ = c.find.new.self in
    let line : List ℕ = front_or c.match-find.length.0 c.loop-length.rest.now held in
    let self : c.match-find.self ≡ with_unfinished held v =
    elim c.match-find.branch [ in-InPiece w ↦ w.self-is | in-Joined w ↦ w.self-is ] in
    let finds : FindsLine v.unfinished c.loop-length.rest.now line c.match-find.length.1 = elim c.match-find.branch [
      | in-InPiece w ↦ rw w.length-is
          (subst (λ (f : Found). Finds c.self.inside.cut c.loop-length.rest.now f held)
          w.in-InPiece.is c.find.ensures).0
      | in-Joined w ↦ rw w.length-is
          (subst (λ (f : Found). Finds c.self.inside.cut c.loop-length.rest.now f held) w.in-Joined.is c.find.ensures)
    ] in
    omega (
      arith,
      finds.1,
      finds.2,
      ap (λ (bytes : List ℕ). length bytes) c.unused-rest.ensures,
      length-drop c.match-find.length.1 c.loop-length.rest.now,
    )

pub loop-length-preserved : goal.loop-length-preserved
loop-length-preserved c =
    let v : UpsState = the_view c.self.inside in
    let at = subst (λ (z : UpsState). IsAtLine c.args.now.max_age c.args.now.seconds c.args.u
    c.loop-length.done (c.args.self.now.unfinished ++ c.args.piece.now) c.args.self.now
    c.args.tracking.now c.args.notes.now z c.loop-length.tracking c.loop-length.notes
    c.loop-length.rest.now) (sym c.self.view_is) c.loop-length.invariant.at in
    let held : List ℕ = c.find.new.self in
    let line : List ℕ = front_or c.match-find.length.0 c.loop-length.rest.now held in
    let self : c.match-find.self ≡ with_unfinished held v =
    elim c.match-find.branch [ in-InPiece w ↦ w.self-is | in-Joined w ↦ w.self-is ] in
    let finds : FindsLine v.unfinished c.loop-length.rest.now line c.match-find.length.1 = elim c.match-find.branch [
      | in-InPiece w ↦ rw w.length-is
          (subst (λ (f : Found). Finds c.self.inside.cut c.loop-length.rest.now f held)
          w.in-InPiece.is c.find.ensures).0
      | in-Joined w ↦ rw w.length-is
          (subst (λ (f : Found). Finds c.self.inside.cut c.loop-length.rest.now f held) w.in-Joined.is c.find.ensures)
    ] in
    let does : DoesLine c.args.now.max_age c.args.now.seconds c.args.u line (with_unfinished held v)
    c.loop-length.tracking c.loop-length.notes c.execute.new.self c.execute.new.tracking
    c.execute.new.notes = subst (λ (z : UpsState). DoesLine c.args.now.max_age c.args.now.seconds
    c.args.u (front_or c.match-find.length.0 c.loop-length.rest.now z.unfinished) z
    c.loop-length.tracking c.loop-length.notes c.execute.new.self c.execute.new.tracking
    c.execute.new.notes) self (when_ok c.execute.result
    (sym c.is_err.ensures.value ∙ c.if-is_err.false) c.execute.ensures.done) in
    record {
      at = rw c.unused-rest.ensures (reads_on at line held c.match-find.length.1 c.execute.new.self
          c.execute.new.tracking c.execute.new.notes finds does);
      left = omega (
        arith,
        c.loop-length.invariant.left,
        finds.1,
        finds.2,
        ap (λ (bytes : List ℕ). length bytes) c.unused-rest.ensures,
        length-drop c.match-find.length.1 c.loop-length.rest.now,
      );
    }
