use Rattle.nutrequest.proofs.PublicLaws.{the_first_line_is_found}
use Rattle.nutrequest.proofs.laws.lines_are_those_of_the_cut.Goals as goal

pub returns : goal.returns
returns c = the_first_line_is_found
