use Rattle.std.proofs.Common.{refl}
use Rattle.std.specs.Prelude.{codes}
use Rattle.nutanswer.proofs.Carried.{own_line}
use Rattle.nutanswer.proofs.answers.session.get_tracking.Goals as goal

pub plain-requires : goal.plain-requires
plain-requires c = own_line (codes "TRACKING ON") refl refl

pub plain-requires-else-asker : goal.plain-requires-else-asker
plain-requires-else-asker c = own_line (codes "TRACKING OFF") refl refl
