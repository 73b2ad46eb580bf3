use Rattle.endtoend.proofs.Shutdown.{shutdown_shown}
use Rattle.endtoend.proofs.laws.every_answer_shows_a_forced_shutdown.Goals as goal

pub returns : goal.returns
returns c =
    shutdown_shown c.a_forced_shutdown_reaches_everybody.ensures c.what_is_listed_is_what_is_held.ensures
    c.each_is_listed_once.ensures c.whatever_is_answered_is_fresh.ensures.fresh c.upsc_prints_the_variable.ensures
