use Rattle.std.proofs.Common.{◌≡◌}
use Rattle.nutdriver.specs.Flags.{flags_of}
use Rattle.nutdriver.proofs.FlagLemmas.{with_flags_of}
use Rattle.nutdriver.proofs.line.arguments.flags_of.Given as goal

abbrev pub invariant-loop-word : goal.invariant-loop-word
invariant-loop-word l = record {
  gathered : with_flags_of l.flags l.word-iterator ≡ flags_of l.fn.words;
  can : (goal.iterator-loop-word).can_next l.word-iterator;
  finite : (goal.iterator-loop-word).is_finite l.word-iterator;
}
