use Rattle.std.proofs.Common.{◌≡◌, drop, map}
use Rattle.nutrequest.specs.Reply.{behind}
use Rattle.nutrequest.proofs.read.behind.Given as goal

-- the words left after a front of these are those after the rest of it
abbrev pub invariant-loop-word : goal.invariant-loop-word
invariant-loop-word l =
    behind (map (λ word. word.now) (drop l.word-index l.front)) l.words ≡
    behind (map (λ word. word.now) l.fn.front) l.fn.words
