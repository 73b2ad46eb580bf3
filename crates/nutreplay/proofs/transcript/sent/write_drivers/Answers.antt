use Rattle.std.proofs.Common.{arith, sym}
use Rattle.nutreplay.proofs.Doing.{more_drivers, all_drivers}
use Rattle.nutreplay.proofs.transcript.sent.write_drivers.Goals as goal

pub loop-place-preserved : goal.loop-place-preserved
loop-place-preserved c =
    more_drivers c.args.taken.now c.args.list.now c.loop-place.place _ _ _ _
    (sym (rw c.in-Some.is at c.name.ensures)) c.loop-place.invariant
    (rw c.as_bytes.ensures.value at c.in_ok-write_driver.ensures)

pub returns : goal.returns
returns c = all_drivers c.args.taken.now c.args.list.now c.loop-place.place _ _ (omega arith) c.loop-place.invariant
