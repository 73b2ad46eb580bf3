use Rattle.nutusers.proofs.LawfulUpses.{each_ups_lawful}
use Rattle.nutusers.proofs.laws.each_ups_that_is_read_is_lawful.Goals as goal

pub returns : goal.returns
returns c = each_ups_lawful
