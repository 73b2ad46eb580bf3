use Rattle.std.proofs.Common.{◌≡◌}
use Rattle.nutjournal.specs.LogBuffer.{SomeMore}
use Rattle.nutjournal.proofs.journal.Journal.log_drivers.Given as goal

-- only lines were added
abbrev pub invariant-loop-place : goal.invariant-loop-place
invariant-loop-place g l = record {
  same : l.self ≡ record l.fn.self { log = l.self.log; drivers = l.self.drivers };
  log : SomeMore l.fn.self.log l.self.log;
}
