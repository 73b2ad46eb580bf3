use Rattle.std.proofs.Common.{◌≡◌, ◌≤◌, map, take, length}
use Rattle.nutanswer.specs.View.{addresses_at}
use Rattle.nutcore.specs.Reply.{seen_client}
use Rattle.nutcore.proofs.server.pump.list_clients.Given as goal

-- those of the sessions so far are listed, no more of them than sessions
abbrev pub invariant-loop-session : goal.invariant-loop-session
invariant-loop-session l = record {
  listed : l.clients ≡ addresses_at l.u (map seen_client (take l.session-index l.sessions.items));
  few : length l.clients ≤ l.session-index;
}
