use Rattle.nutloop.proofs.Fairness as law
use Rattle.nutloop.proofs.laws.everybody_has_a_turn.Goals as goal

pub returns : goal.returns
returns g c = law.everybody_has_a_turn g.S.Sockets.told g.R.Record.holds
