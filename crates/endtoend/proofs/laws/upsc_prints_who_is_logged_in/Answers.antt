use Rattle.endtoend.proofs.Printing.{prints_number, prints_clients}
use Rattle.endtoend.proofs.laws.upsc_prints_who_is_logged_in.Goals as goal

pub returns-clause-number : goal.returns-clause-number
returns-clause-number c = prints_number c.what_is_counted_is_who_is_there.ensures

pub returns-clause-addresses : goal.returns-clause-addresses
returns-clause-addresses c = prints_clients c.what_is_counted_is_who_is_there.ensures
