use Rattle.nutreplay.proofs.Replayed.{replays_to_its_run}
use Rattle.nutreplay.proofs.laws.a_record_replays_to_its_run.Goals as goal

pub returns : goal.returns
returns c = replays_to_its_run c.an_output_records_one_run.ensures
