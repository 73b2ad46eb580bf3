use Rattle.std.proofs.Common.{ℕ, ◌≡◌, ◌<◌, List, true, length, arith}
use Rattle.std.proofs.lemmas.Option.{slice_get_cases}
use Rattle.nutcore.specs.Server.{ServerState}
use Rattle.nutloop.specs.Pass.{driver_at}
use Rattle.nutloop.specs.declared.over_mio.drivers.Driver.{Driver}
use Rattle.nutloop.specs.declared.over_mio.pass.Way.{Way}
use Rattle.nutloop.proofs.over_mio.MioSockets.visit.Goals as goal

is_held : (s : ServerState) (way : Way) (drivers : List Driver) (n : ℕ) →
    driver_at s way drivers n ≡ true → n < length drivers
is_held s way drivers n h = grind (arith, slice_get_cases)

pub overflow_cast-u : goal.overflow_cast-u
overflow_cast-u c c' =
    let within = is_held c'.args.server.now.state c'.in-Driver.way c'.as_slice-drivers.result.now
    c'.in-Driver.place (rw c'.in-Driver.is at c'.in_ok-visit.ensures.ready) in
    omega (arith, within, c'.as_slice-drivers.ensures.fits)
