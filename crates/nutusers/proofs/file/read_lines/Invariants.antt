use Rattle.nutwords.specs.Text.{lines_of}
use Rattle.nutusers.specs.File.{IsByLines, format_of}
use Rattle.nutusers.proofs.Progress.{HasRead}
use Rattle.nutusers.proofs.file.read_lines.Given as goal

-- the lines read are accepted, and what is read is what they mean
abbrev pub invariant-loop-line : goal.invariant-loop-line
invariant-loop-line g l = record {
  read : (meaning : _) → IsByLines g.T.FromLines.with_line l.fn.none meaning →
      HasRead (format_of g.T.FromLines.refusal meaning) meaning (lines_of l.bytes) l.line-iterator l.number l.read;
  can : (goal.iterator-loop-line g).can_next l.line-iterator;
  finite : (goal.iterator-loop-line g).is_finite l.line-iterator;
}
