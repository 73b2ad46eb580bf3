use Rattle.std.proofs.Common.{Some, arith}
use Rattle.nutloop.proofs.Answering.{ids_due, known_then}
use Rattle.nutloop.proofs.over_mio.MioSocketsSockets.known.Goals as goal

pub returns-clause-told : goal.returns-clause-told
unfolding ids_due
returns-clause-told g c =
    elim c.match-self.branch [
      | goal.in-Some+in_default-next w ↦ known_then c.args.server.now.state c.args.self.now c.match-self.self
          c.next_turn.new.self c.next_turn.result (Some w.next.new.self) w.self-is
          (omega (arith, w.in_default-next.ensures)) c.next_turn.ensures.same c.next_turn.ensures.gives
      | goal.in_default w ↦ known_then c.args.server.now.state c.args.self.now c.match-self.self
          c.next_turn.new.self c.next_turn.result c.args.self.now.ids w.self-is
          (omega arith) c.next_turn.ensures.same c.next_turn.ensures.gives
    ]
