use Rattle.std.proofs.Common.{◌≡◌, ◌+◌, ◌∷◌, ◌∙◌, refl, ap, arith, length}
use Rattle.nutwords.specs.Text.{lines_of}
use Rattle.nutreplay.specs.Script.{actions_of, first_bad_line}
use Rattle.nutreplay.proofs.transcript.Transcript.run.Goals as goal

pub loop-line-init : goal.loop-line-init
unfolding actions_of first_bad_line
loop-line-init c =
    let lines : c.into_iter-line-iterator.result ≡ lines_of c.args.script.now =
    c.into_iter-line-iterator.ensures.into_iter_gives ∙ c.of-line-items.ensures.value in
    record {
      ends = λ t h. rw lines at h;
      bad = rw lines refl;
      short = omega (arith, ap length lines);
      can = tt;
      finite = tt;
    }

pub overflow_add-number : goal.overflow_add-number
overflow_add-number c =
    let short : c.loop-line.number + length (c.in-Some.line.now ∷ c.next.new.self) ≡
    length (lines_of c.args.script.now) = rw c.in-Some.ensures.steps at c.loop-line.invariant.short in
    omega (arith, short, c.of-line-items.ensures.few)
