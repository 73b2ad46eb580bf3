use Rattle.nutcore.proofs.TrackedRuns.{run_acts, run_tracks}
use Rattle.nutcore.proofs.laws.each_run_tracks_its_orders.Goals as goal

pub returns-clause-acts : goal.returns-clause-acts
returns-clause-acts c = run_acts

pub returns-clause-from_new : goal.returns-clause-from_new
returns-clause-from_new c = run_tracks
