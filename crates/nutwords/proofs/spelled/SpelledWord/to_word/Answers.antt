use Rattle.std.proofs.Common.{arith, false, length}
use Rattle.nutwords.specs.Split.{unescaped}
use Rattle.nutwords.specs.declared.limits.TheConstants.{LINE_ROOM}
use Rattle.nutwords.proofs.Escapes.{unescaped-length, some_within}
use Rattle.nutwords.proofs.spelled.SpelledWord.to_word.Goals as goal

pub unwrap-requires : goal.unwrap-requires
unwrap-requires c =
    let text = c.self.inside.text.now in
    some_within _ LINE_ROOM (length (unescaped text false)) c.unescaped.result c.unescaped.ensures
    (omega (arith, unescaped-length text false, c.self.invariant.1))
