use Rattle.nuttracking.proofs.PublicLaws as law
use Rattle.nuttracking.proofs.laws.ids_are_read_back.Goals as goal

pub returns-clause-written : goal.returns-clause-written
returns-clause-written c = law.written_is_read

pub returns-clause-read : goal.returns-clause-read
returns-clause-read c = law.read_is_written
