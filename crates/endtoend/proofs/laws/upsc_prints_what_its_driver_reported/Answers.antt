use Rattle.endtoend.proofs.Progress.{prints_report}
use Rattle.endtoend.proofs.laws.upsc_prints_what_its_driver_reported.Goals as goal

pub returns : goal.returns
returns c = prints_report c.each_run_tracks_its_orders.ensures.acts
    c.every_server_is_sound.ensures.run c.upsc_prints_how_far_an_order_has_come.ensures
