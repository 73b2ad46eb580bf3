use Rattle.nutwords.proofs.Splitting.{word_end-quoted}
use Rattle.nutwords.proofs.spelled.closing_quote.Goals as goal

pub returns-clause-within : goal.returns-clause-within
returns-clause-within c = rw c.word_end.ensures.value (word_end-quoted c.args.inside.now c.requires)
