use Rattle.std.proofs.Common.{◌∷◌, [], sym, ap, ◌∙◌, arith}
use Rattle.nutwords.specs.Text.{lines_of}
use Rattle.nutusers.specs.File.{format_of}
use Rattle.nutusers.proofs.Progress.{HasRead, comes_to, by_lines, nothing_read, one_read, all_read, next_refused, room}
use Rattle.nutusers.proofs.file.read_lines.Goals as goal

pub loop-line-init : goal.loop-line-init
loop-line-init g c = record {
  read = λ meaning by. rw (
    c.into_iter-line-iterator.ensures.into_iter_gives,
    c.of-line-items.ensures.value,
  ) (nothing_read c.args.none by.nothing);
  can = tt;
  finite = tt;
}

pub overflow_add-number : goal.overflow_add-number
overflow_add-number g c =
    let meaning = comes_to g.T.FromLines.with_line c.args.none in
    let read : HasRead (format_of g.T.FromLines.refusal meaning) meaning (lines_of c.args.bytes.now)
    (c.in-Some.line.now ∷ c.next.new.self) c.loop-line.number c.loop-line.read =
    rw c.in-Some.ensures.steps at c.loop-line.invariant.read meaning (by_lines g.T.FromLines.with_line c.args.none) in
    omega (arith, room _ _ _ _ read, c.of-line-items.ensures.few)

pub returns-in-Err-clause-err : goal.returns-in-Err-clause-err
returns-in-Err-clause-err g c = λ meaning by.
    let read : HasRead (format_of g.T.FromLines.refusal meaning) meaning (lines_of c.args.bytes.now)
    (c.in-Some.line.now ∷ c.next.new.self) c.loop-line.number c.loop-line.read =
    rw c.in-Some.ensures.steps at c.loop-line.invariant.read meaning by in
    next_refused g.T.FromLines.adds _ _ _ _ _ read (rw read.value_is at c.in-Err.ensures.fault) c.in-Err.ensures.memory

pub loop-line-preserved : goal.loop-line-preserved
loop-line-preserved g c = record {
  read = λ meaning by.
      let read : HasRead (format_of g.T.FromLines.refusal meaning) meaning
      (lines_of c.args.bytes.now) (c.in-Some.line.now ∷ c.next.new.self) c.loop-line.number
      c.loop-line.read = rw c.in-Some.ensures.steps at c.loop-line.invariant.read meaning by in
      one_read _ _ _ _ _ read (rw read.value_is at c.in_default.ensures.fault)
      (c.in_default.ensures.ok ∙ ap (λ value. g.T.FromLines.with_line value c.in-Some.line.now)
      read.value_is ∙ sym (by.one_more c.in-Some.line.now read.earlier));
  can = tt;
  finite = tt;
}

pub returns-clause-ok : goal.returns-clause-ok
returns-clause-ok g c = λ meaning by.
    let read : HasRead (format_of g.T.FromLines.refusal meaning) meaning (lines_of c.args.bytes.now)
    [] c.loop-line.number c.loop-line.read = rw c.in-None.ensures.steps.0 at c.loop-line.invariant.read meaning by in
    all_read _ _ read
