use Rattle.std.proofs.Common.{◌≡◌, sym, ◌∙◌}
use Rattle.nutwords.specs.Spelled.{spelled}
use Rattle.nutwords.proofs.Splitting.{unescaped-same}
use Rattle.nutwords.proofs.spelled.SpelledWord.read.Goals as goal

pub returns-else-self : goal.returns-else-self
returns-else-self g c =
    let plain : c.self.inside.text.now ≡ spelled c.args.self.now =
    rw (sym c.self.view_is) (sym (unescaped-same c.self.inside.text.now
    (sym c.self.invariant.0 ∙ c.if-self.false))) in
    rw (← plain) c.read-else-self.ensures
