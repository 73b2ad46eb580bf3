use Rattle.nutreplay.proofs.ReadBack as law
use Rattle.nutreplay.proofs.laws.what_is_written_is_read_back.Goals as goal

pub returns : goal.returns
returns c = law.what_is_written_is_read_back
