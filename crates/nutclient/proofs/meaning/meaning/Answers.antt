use Rattle.std.proofs.Common.{◌≤◌, length, subst, sym}
use Rattle.nutclient.proofs.Meanings.{short}
use Rattle.nutclient.proofs.meaning.meaning.Goals as goal

pub returns-clause-short : goal.returns-clause-short
returns-clause-short c = subst (λ text. length text ≤ 100) (sym c.meaning_in.ensures) (short c.args.word.now)
