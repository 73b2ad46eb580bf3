use Rattle.std.proofs.Common.{◌≡◌, ◌++◌, drop}
use Rattle.nutreplay.specs.Transcript.{sent_to}
use Rattle.nutreplay.proofs.transcript.sent.sent_to.Given as goal

-- what is gathered, followed by what is left of it, is all
abbrev pub invariant-loop-t : goal.invariant-loop-t
invariant-loop-t l = l.sent.items ++ sent_to l.peer (drop l.t-index l.taken) ≡ sent_to l.peer l.taken
