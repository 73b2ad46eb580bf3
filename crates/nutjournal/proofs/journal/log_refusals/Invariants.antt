use Rattle.nutjournal.specs.LogBuffer.{SomeMore}
use Rattle.nutjournal.proofs.journal.log_refusals.Given as goal

-- only lines were added
abbrev pub invariant-loop-refusal : goal.invariant-loop-refusal
invariant-loop-refusal l = SomeMore l.fn.log l.log
