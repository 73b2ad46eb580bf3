use Rattle.std.proofs.Common.{refl}
use Rattle.std.specs.Prelude.{codes}
use Rattle.nutanswer.specs.Answer.{ok}
use Rattle.nutanswer.proofs.Carried.{own, own_line}
use Rattle.nutanswer.proofs.answers.ok.Goals as goal

pub returns : goal.returns
returns c = own (codes "OK") ok c.args.change refl (own_line (codes "OK") refl refl)
