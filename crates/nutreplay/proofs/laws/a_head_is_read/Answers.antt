use Rattle.nutreplay.proofs.ReadBack as law
use Rattle.nutreplay.proofs.laws.a_head_is_read.Goals as goal

pub returns : goal.returns
returns c = law.a_head_is_read
