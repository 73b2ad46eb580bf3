use Rattle.std.proofs.Common.{sym}
use Rattle.std.proofs.lemmas.Bool.{ne_eqb}
use Rattle.nutusers.proofs.ClosingBracket.{name_in_brackets-ends}
use Rattle.nutusers.proofs.config_line.name_in_brackets.Goals as goal
use Rattle.nutusers.proofs.config_line.name_in_brackets.Goals.{else-first-eq91-via-then-first-eq91+else-last-eq93}
use Rattle.nutusers.proofs.config_line.name_in_brackets.Goals.{else-first-eq91-via-else-first-eq91}

pub returns-then-last-eq93-clause-value : goal.returns-then-last-eq93-clause-value
returns-then-last-eq93-clause-value c =
    sym (rw (c.if-first-eq91.true, c.if-last-eq93.true) at
    (name_in_brackets-ends _ _ _ _ _ c.in_ok-first.ensures.cases.0 c.in_ok-last.ensures.cases.0))

pub returns-else-first-eq91-clause-value : goal.returns-else-first-eq91-clause-value
returns-else-first-eq91-clause-value c =
    let ends = name_in_brackets-ends _ _ _ _ _ c.in_ok-first.ensures.cases.0 c.in_ok-last.ensures.cases.0 in
    elim c.else-first-eq91.branch [
      | else-first-eq91-via-then-first-eq91+else-last-eq93 w ↦ sym
          (rw (w.if-first-eq91.true, ne_eqb _ _ w.if-last-eq93.false) at ends)
      | else-first-eq91-via-else-first-eq91 w ↦ sym (rw (ne_eqb _ _ w.if-first-eq91.false) at ends)
    ]
