use Rattle.nutio.proofs.PublicLaws as law
use Rattle.nutio.proofs.laws.reads_are_joined.Goals as goal

pub returns-clause-nothing : goal.returns-clause-nothing
returns-clause-nothing g c = law.nothing_is_received g.R.Source.remaining g.R.Source.failures

pub returns-clause-received : goal.returns-clause-received
returns-clause-received g c = law.received_joins g.R.Source.remaining g.R.Source.failures

pub returns-clause-failed : goal.returns-clause-failed
returns-clause-failed g c = law.read_failed_joins g.R.Source.remaining g.R.Source.failures
