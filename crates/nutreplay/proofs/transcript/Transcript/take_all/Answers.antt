use Rattle.std.proofs.Common.{arith}
use Rattle.nutreplay.specs.Transcript.TakesAgain.{all_taken}
use Rattle.nutreplay.proofs.Taking.{taken_longer, takes_again, first_time}
use Rattle.nutreplay.proofs.transcript.Transcript.take_all.Goals as goal

pub loop-left-smaller : goal.loop-left-smaller
loop-left-smaller c =
    let longer = taken_longer c.args.line c.args.peer c.loop-left.left _ _ c.in_ok-left-2.ensures.happens in
    omega (arith, longer, c.in_ok-left-2.ensures.few)

pub loop-left-preserved : goal.loop-left-preserved
loop-left-preserved c = record {
  count = c.in_ok-left-2.ensures.left;
  ends = λ t h. c.loop-left.invariant.ends t
      (takes_again c.args.line c.args.peer c.loop-left.left _ _ t c.loop-left.invariant.count
      c.loop-left-test.true c.in_ok-left-2.ensures.happens h);
}

pub returns : goal.returns
returns c = (
  c.take.new.self,
  first_time c.args.line c.args.peer _ _ _ _ c.self.view_is
      c.count_offered-n.ensures c.in_ok-left.ensures.happens,
  c.loop-left.invariant.ends _ (all_taken _ (omega (arith, c.loop-left.invariant.count, c.loop-left-test.false))),
)
