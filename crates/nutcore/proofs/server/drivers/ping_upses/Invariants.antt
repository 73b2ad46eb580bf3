use Rattle.std.proofs.Common.{◌≡◌, ◌++◌, length, take, drop, map}
use Rattle.nutcore.specs.Ups.{after_tick}
use Rattle.nutcore.proofs.server.drivers.ping_upses.Given as goal

-- the UPSs before the place have had their tick, and the others are as they were
abbrev pub invariant-loop-place : goal.invariant-loop-place
invariant-loop-place l = record {
  done : l.upses.items ≡ map (after_tick l.max_age l.moment) (take l.place l.fn.upses.items) ++
      drop l.place l.fn.upses.items;
  same : length l.upses.items ≡ length l.fn.upses.items;
}
