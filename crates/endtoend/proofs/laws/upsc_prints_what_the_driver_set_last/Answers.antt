use Rattle.endtoend.proofs.FromDriver.{prints_last, prints_all_last}
use Rattle.endtoend.proofs.laws.upsc_prints_what_the_driver_set_last.Goals as goal

pub returns-clause-variable : goal.returns-clause-variable
returns-clause-variable c = prints_last c.whatever_is_answered_is_fresh.ensures.fresh
    c.what_a_driver_set_last_is_held.ensures c.upsc_prints_the_variable.ensures

pub returns-clause-variables : goal.returns-clause-variables
returns-clause-variables c = prints_all_last c.whatever_is_answered_is_fresh.ensures.fresh
    c.what_a_driver_set_last_is_held.ensures c.upsc_prints_the_variables.ensures
