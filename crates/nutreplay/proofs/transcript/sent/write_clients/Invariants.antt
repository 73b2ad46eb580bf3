use Rattle.std.proofs.Common.{◌≡◌, ◌++◌, take}
use Rattle.std.specs.List.{flat_map}
use Rattle.nutreplay.specs.Transcript.{client_part}
use Rattle.nutreplay.proofs.transcript.sent.write_clients.Given as goal

-- the clients so far are written
abbrev pub invariant-loop-c : goal.invariant-loop-c
invariant-loop-c l = l.text.items ≡ l.initial.text.items ++ flat_map (client_part l.taken) (take l.c-index l.clients)
