use Rattle.nutdriver.proofs.LawfulLines.{read_lawful}
use Rattle.nutdriver.proofs.laws.read_lines_are_lawful.Goals as goal

pub returns : goal.returns
returns c = read_lawful
