use Rattle.nutjournal.specs.Tally.{after_second}
use Rattle.nutjournal.proofs.Seconds.{one_more_mapped}
use Rattle.nutjournal.proofs.tallies.begin_second.Goals as goal

pub loop-tally-preserved : goal.loop-tally-preserved
loop-tally-preserved c =
    one_more_mapped (λ y. after_second y c.args.is_minute) c.args.tallies.now c.loop-tally.tallies
    c.loop-tally.tally-index _ _
    c.loop-tally-test.true c.loop-tally.invariant c.next_second.ensures
