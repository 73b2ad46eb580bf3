use Rattle.nutmap.proofs.Digits.{digits_count}
use Rattle.nutmap.proofs.laws.digits_are_fewest.Goals as goal

pub returns : goal.returns
returns c = digits_count
