use Rattle.nutloop.proofs.Clock.{no_answer_is_older_by_the_clock}
use Rattle.nutloop.proofs.laws.no_answer_is_older_by_the_clock.Goals as goal

pub returns : goal.returns
returns g c =
    no_answer_is_older_by_the_clock g.S.Sockets.told g.R.Record.holds c.whatever_is_answered_is_fresh.ensures.moment
