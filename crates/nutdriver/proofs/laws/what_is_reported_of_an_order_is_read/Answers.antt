use Rattle.nutdriver.proofs.PublicLaws as law
use Rattle.nutdriver.proofs.laws.what_is_reported_of_an_order_is_read.Goals as goal

pub returns : goal.returns
returns c = law.what_is_reported_of_an_order_is_read
