use Rattle.std.proofs.Common.{◌≡◌, ◌++◌, map, take, drop}
use Rattle.nutjournal.specs.Tally.{after_second}
use Rattle.nutjournal.proofs.tallies.begin_second.Given as goal

-- those so far have begun it
abbrev pub invariant-loop-tally : goal.invariant-loop-tally
invariant-loop-tally l =
    l.tallies ≡ map (λ y. after_second y l.is_minute) (take l.tally-index l.fn.tallies) ++
    drop l.tally-index l.fn.tallies
