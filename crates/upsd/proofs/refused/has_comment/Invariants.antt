use Rattle.std.proofs.Common.{◌≡◌}
use Rattle.upsd.specs.Refused.{has_comment}
use Rattle.upsd.proofs.refused.has_comment.Given as goal

abbrev pub invariant-loop-word : goal.invariant-loop-word
invariant-loop-word l = record {
  left : has_comment l.word-iterator ≡ has_comment l.fn.words;
  can : (goal.iterator-loop-word).can_next l.word-iterator;
  finite : (goal.iterator-loop-word).is_finite l.word-iterator;
}
