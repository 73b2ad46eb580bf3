use Rattle.endtoend.proofs.Printing.{prints_upses}
use Rattle.endtoend.proofs.laws.upsc_prints_the_upses.Goals as goal

pub returns : goal.returns
returns c = prints_upses c.each_is_listed_once.ensures
