use Rattle.std.proofs.Common.{◌≡◌, drop}
use Rattle.nutjournal.specs.Waiting.{is_one_behind}
use Rattle.nutjournal.proofs.journal.Journal.is_behind.Given as goal

-- none of those before is behind
abbrev pub invariant-loop-place : goal.invariant-loop-place
invariant-loop-place l =
    is_one_behind l.doings.counts l.self.counts ≡
    is_one_behind (drop l.place l.doings.counts) (drop l.place l.self.counts)
