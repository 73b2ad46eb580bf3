use Rattle.std.proofs.Common.{length}
use Rattle.std.specs.Option.{option_copied}
use Rattle.std.specs.List.{concat}
use Rattle.nutlisting.specs.Ahead.{IsAhead}
use Rattle.nutlisting.specs.Items.{listing_of}
use Rattle.nutlisting.specs.Items.{text_of}
use Rattle.nutlisting.specs.Stages.{lines_past}
use Rattle.nutlisting.proofs.Writing.{AreMade}
use Rattle.nutlisting.proofs.laws.make_lines.Given as goal

-- the lines up to the place are made
abbrev pub invariant-loop-after : goal.invariant-loop-after
invariant-loop-after l = record {
  so_far : AreMade (text_of (listing_of l.content)) (concat (lines_past l.content (l.stage, option_copied l.last)));
  ahead : IsAhead l.content (l.stage, option_copied l.last) l.ahead;
}

-- how many lines are left
abbrev pub decreases-loop-after : goal.decreases-loop-after
decreases-loop-after l = length (lines_past l.content (l.stage, option_copied l.last))
