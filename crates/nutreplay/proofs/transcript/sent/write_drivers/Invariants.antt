use Rattle.std.proofs.Common.{◌≡◌, ◌++◌, drop}
use Rattle.nutreplay.specs.Transcript.{drivers_part}
use Rattle.nutreplay.proofs.transcript.sent.write_drivers.Given as goal

-- what is written, followed by the UPSs that are left, is all
abbrev pub invariant-loop-place : goal.invariant-loop-place
invariant-loop-place l = l.text.items ++ drivers_part l.taken l.place (drop l.place l.list) ≡
    l.initial.text.items ++ drivers_part l.taken 0 l.list
