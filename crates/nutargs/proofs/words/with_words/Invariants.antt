use Rattle.std.proofs.Common.{◌≡◌, drop, map}
use Rattle.clap.specs.Words.{app_of}
use Rattle.nutargs.specs.Words.{rule_of_word, with_words}
use Rattle.nutargs.proofs.words.with_words.Given as goal

-- with the words left it is the command with all
abbrev pub invariant-loop-word : goal.invariant-loop-word
invariant-loop-word l = with_words (app_of l.command) (map rule_of_word (drop l.word-index l.words))
    ≡ with_words (app_of l.initial.command) (map rule_of_word l.words)
