use Rattle.std.proofs.Common.{◌-◌, ◌+◌, length, drop, arith, length-drop}
use Rattle.nutwords.proofs.Lines.{take-all}
use Rattle.nutwords.proofs.Splitting.{TakesWord-quoted}
use Rattle.nutwords.proofs.spelled.quoted_word.Goals as goal

pub returns-clause-takes : goal.returns-clause-takes
returns-clause-takes c =
    let line = c.args.inside.now in
    let end = c.closing_quote-end.result in
    rw (
      take-all (length line - (end + 1)) (drop (end + 1) line)
          (omega (arith, length-drop (end + 1) line)),
      c.word_of.ensures,
      c.closing_quote-end.ensures.value,
    ) (TakesWord-quoted line c.requires.reads)
