use Rattle.std.proofs.Common.{◌≡◌, ◌+◌, ◌≤◌, ◌∷◌, ◌++◌, drop, length}
use Rattle.std.specs.Prelude.{sum_by}
use Rattle.std.specs.List.{flat_map}
use Rattle.nutrequest.specs.declared.line.TheConstants.{VERB_LIMIT, WORDS_LIMIT}
use Rattle.nutrequest.proofs.line.line.Given as goal

-- the line so far and the words left, each after a blank, are the line, and have room
abbrev pub invariant-loop-word : goal.invariant-loop-word
invariant-loop-word l = record {
  text : l.line.items ++ flat_map (λ word. 32 ∷ word.now) (drop l.word-index l.words) ≡
      l.fn.verb ++ flat_map (λ word. 32 ∷ word.now) l.fn.words;
  room : length l.line.items + sum_by (λ word. 1 + length word.now) (drop l.word-index l.words) ≤
      VERB_LIMIT + WORDS_LIMIT;
}
