use Rattle.nutloop.proofs.InTime as law
use Rattle.nutloop.proofs.laws.whoever_asks_learns_in_time.Goals as goal

pub returns : goal.returns
returns g c =
    law.whoever_asks_learns_in_time g.S.Sockets.told g.R.Record.holds
    c.a_line_is_answered_at_once.ensures c.what_was_sent_and_is_owed_is_the_answers.ensures
    c.every_server_is_sound.ensures.run c.every_server_is_sound.ensures.lawful
