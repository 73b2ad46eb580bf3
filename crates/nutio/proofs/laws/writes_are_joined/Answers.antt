use Rattle.nutio.proofs.PublicLaws as law
use Rattle.nutio.proofs.laws.writes_are_joined.Goals as goal

pub returns-clause-nothing : goal.returns-clause-nothing
returns-clause-nothing g c = law.nothing_is_written g.W.Sink.contents g.W.Sink.failures

pub returns-clause-written : goal.returns-clause-written
returns-clause-written g c = law.written_joins g.W.Sink.contents g.W.Sink.failures

pub returns-clause-failed : goal.returns-clause-failed
returns-clause-failed g c = law.write_failed_joins g.W.Sink.contents g.W.Sink.failures
