use Rattle.std.proofs.Common.{◌≡◌, drop, map}
use Rattle.nutclient.specs.Meaning.{meaning_in}
use Rattle.nutclient.proofs.meaning.meaning_in.Given as goal

-- no row up to here is the word's
abbrev pub invariant-loop-known : goal.invariant-loop-known
invariant-loop-known l =
    meaning_in (map (λ row. (row.0.now, row.1.now)) l.fn.rows) l.word
    ≡ meaning_in (map (λ row. (row.0.now, row.1.now)) (drop l.known-index l.rows)) l.word
