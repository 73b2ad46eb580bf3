use Rattle.nutloop.proofs.SocketToSocket as law
use Rattle.nutloop.proofs.laws.what_a_socket_gave_is_answered.Goals as goal

pub returns : goal.returns
returns g c =
    law.what_a_socket_gave_is_answered g.S.Sockets.told g.R.Record.holds
    c.what_was_sent_and_is_owed_is_the_answers.ensures c.what_was_asked_is_executed_or_held.ensures
    c.each_answer_is_timely.ensures
    c.what_never_goes_back.ensures c.every_server_is_sound.ensures.opening
    c.every_server_is_sound.ensures.event c.every_server_is_sound.ensures.lawful
