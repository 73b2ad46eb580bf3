use Rattle.nutloop.proofs.Work as law
use Rattle.nutloop.proofs.laws.the_work_of_turns_is_bounded.Goals as goal

pub returns : goal.returns
returns g c =
    law.the_work_of_turns_is_bounded g.S.Sockets.told g.R.Record.holds c.each_event_is_bounded.ensures
    c.every_server_is_sound.ensures.event c.everybody_has_a_turn.ensures
