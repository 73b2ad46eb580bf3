use Rattle.nutjournal.specs.LogBuffer.{IsFlushed}
use Rattle.nutjournal.proofs.log_buffer.LogBuffer.flush.Given as goal

-- a beginning of what waited was taken
abbrev pub invariant-loop : goal.invariant-loop
invariant-loop l = IsFlushed l.fn.self l.self
