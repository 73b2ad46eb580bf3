use Rattle.std.proofs.Common.{◌≤◌, ◌-◌, length, take}
use Rattle.nutio.specs.Ends.{Written}
use Rattle.nutio.proofs.writing.send.Given as goal

-- a front was taken, and the rest is left
abbrev pub invariant-loop-sent : goal.invariant-loop-sent
invariant-loop-sent g l = record {
  within : l.sent ≤
      length l.text;
  took : Written g.W.Sink.contents g.W.Sink.failures l.fn.writer (take l.sent l.text) l.writer;
}

abbrev pub decreases-loop-sent : goal.decreases-loop-sent
decreases-loop-sent g l = length l.text - l.sent
