use Rattle.std.proofs.Common.{sym, ◌∙◌, ◌≡◌, take}
use Rattle.nutreplay.proofs.Taking.{driver_taken_none, driver_taken_some, driver_taken_too_few}
use Rattle.nutreplay.proofs.transcript.driver_bytes_taken.Goals as goal
use Rattle.nutreplay.proofs.transcript.driver_bytes_taken.Goals.{in-Ok+then-n-bytes+in_ok-extend_from_slice}
use Rattle.nutreplay.proofs.transcript.driver_bytes_taken.Goals.{in-Ok+else-n-bytes, in_default}

pub returns-clause-bytes : goal.returns-clause-bytes
returns-clause-bytes c = elim c.match-driver_offer.branch [
  | in-Ok+then-n-bytes+in_ok-extend_from_slice w ↦
      let items : w.extend_from_slice.new.self.items ≡ take c.args.n w.in-Ok.bytes.now =
      rw c.new-taken.ensures.items at w.in_ok-extend_from_slice.ensures.items in
      rw w.taken-is (items ∙ sym (driver_taken_some c.args.u c.args.n c.args.server.now.state
      w.in-Ok.bytes.now w.in-Ok.ensures.bytes w.in-Ok.ensures.unconnected w.if-n-bytes.true))
  | in-Ok+else-n-bytes w ↦ rw w.taken-is
      (c.new-taken.ensures.items ∙ sym
      (driver_taken_too_few c.args.u c.args.n c.args.server.now.state w.in-Ok.bytes.now
      w.in-Ok.ensures.bytes w.if-n-bytes.false))
  | in_default w ↦ rw w.taken-is
      (c.new-taken.ensures.items ∙ sym
      (driver_taken_none c.args.u c.args.n c.args.server.now.state w.in_default.ensures.bytes.1))
]
