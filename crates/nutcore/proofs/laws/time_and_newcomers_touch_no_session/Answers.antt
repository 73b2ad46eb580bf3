use Rattle.nutcore.proofs.Endings.{tick_alone, opening_alone}
use Rattle.nutcore.proofs.laws.time_and_newcomers_touch_no_session.Goals as goal

pub returns-clause-tick : goal.returns-clause-tick
returns-clause-tick c = tick_alone

pub returns-clause-opening : goal.returns-clause-opening
returns-clause-opening c = opening_alone
