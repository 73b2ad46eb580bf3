use Rattle.std.proofs.Common.{None, [], rules}
use Rattle.std.specs.Prelude.{option_copied}
use Rattle.nutjournal.proofs.Calls.{next_ups}
use Rattle.nutjournal.proofs.journal.log_upses.Goals as goal

pub loop-place-preserved : goal.loop-place-preserved
loop-place-preserved c =
    λ end h. c.loop-place.invariant end
    (next_ups c.args.is_minute c.args.server.now.state.list c.args.tallies.now c.loop-place.place
    (record { lines = 0; logged = 0; more = []; worst = None }) c.reported.result (option_copied c.name.result)
    c.loop-place.log c.add_due.new.self end (search rules) (search rules) c.add_due.ensures
    (search rules) (search rules) h)
