use Rattle.nutwords.proofs.PublicLaws as law
use Rattle.nutwords.proofs.laws.listing_is_read_back.Goals as goal

pub returns-clause-one : goal.returns-clause-one
returns-clause-one c = law.one_reading
