use Rattle.endtoend.proofs.Pinged.{asked_in_time}
use Rattle.endtoend.proofs.laws.a_silent_driver_is_asked_in_time.Goals as goal

pub returns : goal.returns
returns c = asked_in_time c.a_client_touches_no_other.ensures c.what_a_driver_reported_is_executed.ensures
