use Rattle.nutrequest.specs.Inbox.{unread, LineGives}
use Rattle.std.proofs.Common.{◌≡◌, ◌∙◌, ℕ, ◌+◌, ◌≤◌, List, [], ◌++◌}
use Rattle.std.proofs.Common.{drop, length, take, Err, Some, None, sym, ap, subst}
use Rattle.std.proofs.lemmas.List.{drop-drop, take_rest}
use Rattle.std.proofs.lemmas.Result.{err_from_is_err_and}
use Rattle.nutwords.specs.SplitLine.{split_line}
use Rattle.nutwords.specs.declared.limits.TheConstants.{LINE_ROOM}
use Rattle.nutrequest.proofs.Cutting.{first_line, first_too_long}
use Rattle.nutrequest.proofs.Reading.{line_fails}
use Rattle.nutrequest.proofs.inbox.Inbox.line.Goals as goal

-- the bytes after the line that was cut off the piece
rest_kept : (held kept line after : List ℕ) (u used : ℕ) →
    split_line (held ++ drop u kept) ≡ Some (line, drop used (drop u kept)) → after ≡ []
    → split_line (held ++ drop u kept) ≡ Some (line, after ++ drop (u + used) kept)
rest_kept held kept line after u used split none =
    split ∙ ap (λ (rest : List ℕ). Some (line, rest))
    (drop-drop used u kept ∙ ap (λ (front : List ℕ). front ++ drop (u + used) kept) (sym none))

pub returns-in-Line : goal.returns-in-Line
returns-in-Line g c =
    let i = c.loop-line.invariant in
    let l = c.loop-line.self in
    let cut = c.in-Line.ensures in
    let piece = take_rest c.deref.result.now l.used ∙ ap (drop l.used) c.deref.ensures.0 in
    let split = subst (λ (p : List ℕ). split_line (l.cut ++ p) ≡
    Some (c.in-Line.line.items, drop c.in-Line.used p)) piece cut.0 in (
      i.0,
      i.1,
      cut.2,
      first_line (unread c.args.self.now) i.0 (unread l) c.in-Line.line.items _ i.2
          (rest_kept l.cut l.kept.items c.in-Line.line.items c.next.new.self l.used c.in-Line.used split cut.3) cut.2,
    )

pub returns-in-TooLong : goal.returns-in-TooLong
returns-in-TooLong g c =
    let i = c.loop-line.invariant in
    let l = c.loop-line.self in
    let piece = take_rest c.deref.result.now l.used ∙ ap (drop l.used) c.deref.ensures.0 in
    let none = subst (λ (p : List ℕ). split_line (take LINE_ROOM (l.cut ++ p)) ≡ None) piece
    c.in-TooLong.ensures.0 in
    let long = subst (λ (p : List ℕ). LINE_ROOM ≤ length (l.cut ++ p)) piece c.in-TooLong.ensures.1 in
    (i.0, i.1, first_too_long (unread c.args.self.now) i.0 (unread l) i.2 none long)

pub returns-in_err-fill-in-More : goal.returns-in_err-fill-in-More
returns-in_err-fill-in-More g c =
    let i = c.loop-line.invariant in
    let l = c.loop-line.self in
    let e = c.in-More.ensures in
    let p = err_from_is_err_and c.from_residual.result c.from_residual.ensures.1 in
    let piece = take_rest c.deref.result.now l.used ∙ ap (drop l.used) c.deref.ensures.0 in
    subst (λ r. LineGives g.R.Source.remaining g.R.Source.failures (unread c.args.self.now)
    c.args.reader.now r (unread c.fill.new.self)
    c.fill.new.reader) (sym (p.1 ∙ ap Err p.2))
    (line_fails g.R.Source.remaining g.R.Source.failures c.args.reader.now c.loop-line.reader
    c.fill.new.reader (unread c.args.self.now)
    c.next.new.self i.0 (unread c.fill.new.self) c.in_err-fill-in-More.field-0.0
    i.1 (e.2 ∙ ap (λ (t : List ℕ). l.cut ++ t) piece ∙ i.2) (rw e.2 e.0) (rw e.2 e.1)
    c.in_err-fill-in-More.ensures)
