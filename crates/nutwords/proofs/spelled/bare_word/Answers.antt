use Rattle.std.proofs.Common.{◌-◌, length, drop, arith, length-drop}
use Rattle.nutwords.proofs.Lines.{take-all}
use Rattle.nutwords.proofs.Splitting.{TakesWord-bare}
use Rattle.nutwords.proofs.spelled.bare_word.Goals as goal

pub returns-clause-takes : goal.returns-clause-takes
returns-clause-takes c =
    let line = c.args.line.now in
    let end = c.word_end-end.result in
    rw (
      take-all (length line - end) (drop end line) (omega (arith, length-drop end line)),
      c.word_of.ensures,
      c.word_end-end.ensures.value,
    ) (TakesWord-bare line c.requires.reads)
