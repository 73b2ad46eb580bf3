use Rattle.nutjournal.proofs.Places.{line_more}
use Rattle.nutjournal.proofs.journal.log_refusal.Goals as goal

pub returns-in-Some : goal.returns-in-Some
returns-in-Some c = line_more _ _ _ _ c.add.ensures
