use Rattle.nutcore.proofs.AtOnce.{line_answered_at_once}
use Rattle.nutcore.proofs.laws.a_line_is_answered_at_once.Goals as goal

pub returns : goal.returns
returns c = line_answered_at_once
