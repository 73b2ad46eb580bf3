use Rattle.std.proofs.Common.{◌≡◌, ◌+◌, ◌-◌, ◌≤◌, vec_len, vec_capacity}
use Rattle.std.specs.Prelude.{replicate}
use Rattle.nutcore.specs.Ups.{new_ups}
use Rattle.nutcore.proofs.server.Rooms.new.Given as goal

-- so many UPSs are made, and there is room for the others
abbrev pub invariant-loop : goal.invariant-loop
invariant-loop l = record {
  made : l.upses.items ≡ replicate l.counter new_ups;
  room : vec_len l.upses + (l.fn.count - l.counter) ≤ vec_capacity l.upses;
}
