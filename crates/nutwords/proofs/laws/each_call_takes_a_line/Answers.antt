use Rattle.nutwords.proofs.PublicLaws as law
use Rattle.nutwords.proofs.laws.each_call_takes_a_line.Goals as goal

pub returns-clause-cut : goal.returns-clause-cut
returns-clause-cut c = law.each_cut_is_found

pub returns-clause-overlong : goal.returns-clause-overlong
returns-clause-overlong c = law.rest_is_overlong
