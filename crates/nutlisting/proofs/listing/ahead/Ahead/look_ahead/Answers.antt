use Rattle.std.proofs.Common.{arith}
use Rattle.nutlisting.proofs.AheadLemmas.{collected}
use Rattle.nutlisting.proofs.listing.ahead.Ahead.look_ahead.Goals as goal

pub returns-clause-next : goal.returns-clause-next
returns-clause-next c = collected 32 _ _ (omega arith) c.collect_after.ensures.entries
