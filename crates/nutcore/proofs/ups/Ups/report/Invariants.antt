use Rattle.std.proofs.Common.{◌+◌, ◌≤◌, ◌++◌, length}
use Rattle.nutcore.proofs.DriverLoops.{IsAtLine}
use Rattle.nutcore.proofs.ups.Ups.report.Given as goal

-- so many lines are done, and the rest of the piece is still to be used
abbrev pub invariant-loop-length : goal.invariant-loop-length
invariant-loop-length l = record {
  at : IsAtLine l.now.max_age l.now.seconds l.u l.done (l.fn.self.unfinished ++ l.fn.piece)
      l.fn.self l.fn.tracking l.fn.notes l.self l.tracking l.notes l.rest;
  left : l.done + length l.rest ≤ length l.fn.piece;
}

abbrev pub decreases-loop-length : goal.decreases-loop-length
decreases-loop-length l = length l.rest
