use Rattle.std.proofs.Common.{◌≡◌, take}
use Rattle.std.specs.Prelude.{count_by}
use Rattle.nutcore.proofs.LoginCount.{is_in}
use Rattle.nutcore.proofs.server.view.ServerPeersPeers.login_count.Given as goal

-- so many of the sessions so far are logged in
abbrev pub invariant-loop-session : goal.invariant-loop-session
invariant-loop-session l = l.count ≡ count_by (is_in l.u) (take l.session-index l.self.sessions.now.items)
