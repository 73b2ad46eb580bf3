use Rattle.std.proofs.Common.{◌≡◌, sym, ◌∙◌, rules}
use Rattle.nutwords.specs.Spelling.{is_word}
use Rattle.nutwords.specs.Spelled.{spelled}
use Rattle.nutwords.proofs.Splitting.{unescaped-same}
use Rattle.nutwords.proofs.spelled.SpelledWord.is_word.Goals as goal

pub returns-else-self : goal.returns-else-self
returns-else-self c =
    let plain : c.self.inside.text.now ≡ spelled c.args.self.now =
    rw (sym c.self.view_is) (sym (unescaped-same c.self.inside.text.now
    (sym c.self.invariant.0 ∙ c.if-self.false))) in
    let same : c.eq_ignore_ascii_case.result ≡ is_word c.self.inside.text.now c.args.keyword.now = search rules in
    rw (← plain) same
