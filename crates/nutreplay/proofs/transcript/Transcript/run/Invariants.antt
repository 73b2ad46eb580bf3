use Rattle.std.proofs.Common.{◌≡◌, ◌+◌, length}
use Rattle.nutwords.specs.Text.{lines_of}
use Rattle.nutreplay.specs.Script.{actions_from, actions_of, bad_line_from, first_bad_line}
use Rattle.nutreplay.specs.Transcript.{TranscriptState, AreDone}
use Rattle.nutreplay.proofs.transcript.Transcript.run.Given as goal

-- what the lines that are left do, after what is done, is what the script does; the first bad line
-- is among those left
abbrev pub invariant-loop-line : goal.invariant-loop-line
invariant-loop-line l = record {
  ends : (t : TranscriptState) →
      AreDone (actions_from l.initial.self.server.list (l.number + 1) l.line-iterator) l.self t →
      AreDone (actions_of l.initial.self.server.list l.script) l.initial.self t;
  bad : bad_line_from l.initial.self.server.list (l.number + 1) l.line-iterator ≡
      first_bad_line l.initial.self.server.list l.script;
  short : l.number + length l.line-iterator ≡ length (lines_of l.script);
  can : (goal.iterator-loop-line).can_next l.line-iterator;
  finite : (goal.iterator-loop-line).is_finite l.line-iterator;
}
