use Rattle.nutcore.proofs.NotStuck.{little_has_room, ends_finished}
use Rattle.nutcore.proofs.laws.nobody_is_stuck.Goals as goal

pub returns-clause-room : goal.returns-clause-room
returns-clause-room c = little_has_room

pub returns-clause-finished : goal.returns-clause-finished
returns-clause-finished c = ends_finished
