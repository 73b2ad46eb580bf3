-- Lines are counted text by text.
use Rattle.std.proofs.Common.{◌≡◌, false, List, ℕ, ap, ◌∙◌}
use Rattle.nutlisting.specs.Counts.{leaves_open, is_open, lines}
use Rattle.nutlisting.specs.Lines.{IsWholeLine}
use Rattle.nutlisting.specs.Laws.{LinesAddUp}
use Rattle.nutlisting.proofs.Counting.{leaves_open-append, lines-append, lines-line, lines_few, whole-line}
use Rattle.nutlisting.proofs.LineFacts.{is_line}

one_line : (text : List ℕ) → IsWholeLine text → (lines text ≡ 1) × (is_open text ≡ false)
one_line text h = let line = is_line text h in
    (ap lines line.ends ∙ lines-line line.body line.whole, ap is_open line.ends ∙ whole-line false line.body)

pub lines_add_up : LinesAddUp
lines_add_up = record {
  counted = lines-append;
  unfinished = λ a b ended. leaves_open-append false a b ∙ ap (λ o. leaves_open o b) ended;
  one = one_line;
  few = lines_few;
}
