use Rattle.std.proofs.Common.{◌≡◌, false, drop}
use Rattle.nutwords.specs.Spelling.{is_word}
use Rattle.nutwords.specs.Split.{unescaped}
use Rattle.nutwords.proofs.spelled.spells_word.Given as goal

-- what is left of both decides
abbrev pub invariant-loop-b : goal.invariant-loop-b
invariant-loop-b l = is_word (unescaped (drop l.b-index l.text) l.pending) l.left ≡
    is_word (unescaped l.text false) l.keyword
