use Rattle.nutdriver.proofs.ReportedNumbers.{numbers_lawful}
use Rattle.nutdriver.proofs.laws.reported_numbers_are_lawful.Goals as goal

pub returns : goal.returns
returns c = numbers_lawful c.read_lines_are_lawful.ensures
