use Rattle.std.proofs.Common.{sym, ◌∙◌}
use Rattle.nutwords.proofs.Splitting.{unescaped-same}
use Rattle.nutwords.proofs.spelled.SpelledWord.as_plain.Goals as goal

pub returns-else-self-clause-bytes : goal.returns-else-self-clause-bytes
returns-else-self-clause-bytes c =
    rw (sym c.self.view_is) (sym (unescaped-same c.self.inside.text.now (sym c.self.invariant.0 ∙ c.if-self.false)))
