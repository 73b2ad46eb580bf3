use Rattle.nutloop.proofs.Turning as law
use Rattle.nutloop.proofs.laws.every_byte_is_moved_once.Goals as goal

pub returns : goal.returns
returns g c = law.every_byte_is_moved_once g.S.Sockets.told g.R.Record.holds
