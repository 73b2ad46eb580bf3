use Rattle.std.proofs.Common.{refl}
use Rattle.std.specs.Option.{option_copied}
use Rattle.std.specs.List.{concat}
use Rattle.nutlisting.specs.Items.{listing_of}
use Rattle.nutlisting.specs.Items.{text_of, lines_of}
use Rattle.nutlisting.specs.Stages.{lines_past}
use Rattle.nutlisting.proofs.Writing.{lines_are_text, none_made, line_made, all_made}
use Rattle.nutlisting.proofs.laws.make_lines.Goals as goal

pub loop-after-init : goal.loop-after-init
loop-after-init c = record {
  so_far = none_made (text_of (listing_of c.args.content.now))
      (concat (lines_of (listing_of c.args.content.now))) (lines_are_text (listing_of c.args.content.now));
  ahead = rw c.new-ahead.ensures refl;
}

pub loop-after-preserved : goal.loop-after-preserved
loop-after-preserved c = record {
  so_far = line_made (text_of (listing_of c.args.content.now)) c.next.new.line.items
      (lines_past c.args.content.now (c.loop-after.stage, option_copied c.loop-after.last))
      (lines_past c.args.content.now (c.in-Some.after.0, option_copied c.in-Some.after.1))
      c.in-Some.ensures.next.first c.in-Some.ensures.next.whole_line c.loop-after.invariant.so_far;
  ahead = c.in-Some.ensures.ahead;
}

pub returns : goal.returns
returns c = all_made (text_of (listing_of c.args.content.now))
    (lines_past c.args.content.now (c.loop-after.stage, option_copied c.loop-after.last))
    c.in_default.ensures.next c.loop-after.invariant.so_far
