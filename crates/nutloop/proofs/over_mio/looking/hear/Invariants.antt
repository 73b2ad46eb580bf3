use Rattle.std.proofs.Common.{◌≡◌}
use Rattle.std.specs.Prelude.{map}
use Rattle.nutloop.specs.OverMio.{ClientsHear, DriversHear}
use Rattle.nutloop.proofs.over_mio.looking.hear.Given as goal

abbrev pub invariant-loop-event : goal.invariant-loop-event
invariant-loop-event l =
    (l.entrance ≡ record l.fn.entrance { doors = l.entrance.doors })
    × ClientsHear (map (λ e. e.now) l.yielded) l.fn.clients.items l.clients.items
    × DriversHear (map (λ e. e.now) l.yielded) l.fn.drivers.items l.drivers.items
