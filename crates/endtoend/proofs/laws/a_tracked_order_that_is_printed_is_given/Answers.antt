use Rattle.endtoend.proofs.Tracked.{tracked_orders_given}
use Rattle.endtoend.proofs.laws.a_tracked_order_that_is_printed_is_given.Goals as goal

pub returns : goal.returns
returns c = tracked_orders_given
