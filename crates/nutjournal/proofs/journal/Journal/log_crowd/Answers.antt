use Rattle.nutjournal.proofs.Places.{line_more}
use Rattle.nutjournal.proofs.journal.Journal.log_crowd.Goals as goal

pub returns-in-Some-clause-log : goal.returns-in-Some-clause-log
returns-in-Some-clause-log g c = line_more _ _ _ _ c.add.ensures
