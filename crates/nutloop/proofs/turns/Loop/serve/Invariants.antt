use Rattle.std.proofs.Common.{List, true}
use Rattle.nutcore.specs.declared.note.Note.{Note}
use Rattle.nutloop.specs.Serving.{IsShown, ShownTurns}
use Rattle.nutloop.proofs.turns.Loop.serve.Given as goal

abbrev pub invariant-loop : goal.invariant-loop
invariant-loop g l =
    goal.W-IsAlwaysCallable g l.watch
    × ((notes : List Note) × ShownTurns g.S.Sockets.told g.R.Record.holds (IsShown g.W.FnMut) true
    l.initial.self l.initial.watch l.counter notes l.soon l.self l.watch)
