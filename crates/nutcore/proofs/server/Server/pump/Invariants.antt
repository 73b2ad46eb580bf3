use Rattle.std.proofs.Common.{◌≡◌, ◌+◌, ◌≤◌, length, take}
use Rattle.nutcore.specs.Server.{session}
use Rattle.nutcore.specs.Promises.{IsAt, KeepsCost}
use Rattle.nutcore.specs.Pump.{after_lines, held_of}
use Rattle.nutcore.specs.History.{lines_executed}
use Rattle.nutcore.specs.declared.note.TheConstants.{NOTE_LIMIT}
use Rattle.nutcore.specs.Notes.{notes_of_lines}
use Rattle.nutcore.proofs.server.Server.pump.Given as goal

-- so many lines are done, what they placed is counted, what is said of them is noted, and the
-- session still is at its place
abbrev pub invariant-loop-end : goal.invariant-loop-end
invariant-loop-end l = record {
  at : IsAt l.c l.place l.self.state.sessions;
  keeps : KeepsCost l.c l.fn.self l.self;
  done : l.self.state ≡ after_lines l.done l.fn.self.state l.c;
  noted : l.self.notes ≡ take NOTE_LIMIT (notes_of_lines (lines_executed l.done l.fn.self.state l.c));
  rest : l.done + length (held_of (session l.c l.self.state)) ≤ length (held_of (session l.c l.fn.self.state));
}

abbrev pub decreases-loop-end : goal.decreases-loop-end
decreases-loop-end l = length (held_of (session l.c l.self.state))
