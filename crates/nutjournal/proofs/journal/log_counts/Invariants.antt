use Rattle.std.proofs.Common.{◌≡◌, ◌++◌, drop, take}
use Rattle.nutjournal.specs.Calls.{after_counts}
use Rattle.nutjournal.specs.LogBuffer.{SomeMore}
use Rattle.nutjournal.proofs.journal.log_counts.Given as goal

-- what is new in the counts so far is logged
abbrev pub invariant-loop-place : goal.invariant-loop-place
invariant-loop-place l = record {
  log : SomeMore l.fn.log l.log;
  counts : l.weres
      ≡ after_counts l.minute (take l.place l.counts) (take l.place l.fn.weres) ++ drop l.place l.fn.weres;
}
