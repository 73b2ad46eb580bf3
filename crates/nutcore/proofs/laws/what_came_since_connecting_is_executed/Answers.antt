use Rattle.nutcore.proofs.DriverRuns.{since_connecting, lost_lines_begin}
use Rattle.nutcore.proofs.laws.what_came_since_connecting_is_executed.Goals as goal

pub returns-clause-since : goal.returns-clause-since
returns-clause-since c = since_connecting c.every_server_is_sound.ensures.opening c.every_server_is_sound.ensures.run

pub returns-clause-to_loss : goal.returns-clause-to_loss
returns-clause-to_loss c = lost_lines_begin
