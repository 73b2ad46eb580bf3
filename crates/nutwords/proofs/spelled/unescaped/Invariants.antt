use Rattle.std.proofs.Common.{◌≡◌, ◌++◌, false, drop}
use Rattle.nutwords.specs.Split.{unescaped}
use Rattle.nutwords.proofs.spelled.unescaped.Given as goal

-- the word so far, and what is left stands for, are the whole word
abbrev pub invariant-loop-b : goal.invariant-loop-b
invariant-loop-b g l = l.word.items ++ unescaped (drop l.b-index l.text) l.pending ≡ unescaped l.text false
