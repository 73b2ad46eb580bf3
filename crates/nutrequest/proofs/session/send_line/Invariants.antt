use Rattle.std.proofs.Common.{◌≤◌, ◌-◌, length, take}
use Rattle.nutio.specs.Ends.{Written}
use Rattle.nutrequest.proofs.session.send_line.Given as goal

-- a front was taken, and the rest is left
abbrev pub invariant-loop-sent : goal.invariant-loop-sent
invariant-loop-sent g l = record {
  within : l.sent ≤
      length l.line;
  took : Written g.W.Sink.contents g.W.Sink.failures l.fn.writer (take l.sent l.line) l.writer;
}

abbrev pub decreases-loop-sent : goal.decreases-loop-sent
decreases-loop-sent g l = length l.line - l.sent
