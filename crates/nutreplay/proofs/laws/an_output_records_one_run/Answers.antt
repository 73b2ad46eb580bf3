use Rattle.nutreplay.proofs.OneRun.{output_records}
use Rattle.nutreplay.proofs.laws.an_output_records_one_run.Goals as goal

pub returns : goal.returns
returns c = output_records c.what_was_sent_and_is_owed_is_the_answers.ensures
