use Rattle.endtoend.proofs.Printing.{prints_variables}
use Rattle.endtoend.proofs.laws.upsc_prints_the_variables.Goals as goal

pub returns : goal.returns
returns c = prints_variables c.each_is_listed_once.ensures
