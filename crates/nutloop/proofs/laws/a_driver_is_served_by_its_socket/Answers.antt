use Rattle.nutloop.proofs.SocketToSocket as law
use Rattle.nutloop.proofs.laws.a_driver_is_served_by_its_socket.Goals as goal

pub returns : goal.returns
returns g c = law.a_driver_is_served_by_its_socket g.S.Sockets.told g.R.Record.holds
    c.what_a_driver_reported_is_executed.ensures c.what_a_driver_was_sent_and_is_owed.ensures
