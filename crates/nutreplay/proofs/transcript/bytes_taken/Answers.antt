use Rattle.std.proofs.Common.{sym, ◌∙◌, ◌≡◌, take}
use Rattle.nutreplay.proofs.Taking.{taken_none, taken_some, taken_too_few}
use Rattle.nutreplay.proofs.transcript.bytes_taken.Goals as goal
use Rattle.nutreplay.proofs.transcript.bytes_taken.Goals.{in-Ok+then-n-bytes+in_ok-extend_from_slice}
use Rattle.nutreplay.proofs.transcript.bytes_taken.Goals.{in-Ok+else-n-bytes, in_default}

pub returns-clause-bytes : goal.returns-clause-bytes
returns-clause-bytes c = elim c.match-offer.branch [
  | in-Ok+then-n-bytes+in_ok-extend_from_slice w ↦
      let items : w.extend_from_slice.new.self.items ≡ take c.args.n w.in-Ok.bytes.now =
      rw c.new-taken.ensures.items at w.in_ok-extend_from_slice.ensures.items in
      rw w.taken-is (items ∙ sym (taken_some _ _ _ _ w.in-Ok.ensures.bytes.0
      w.in-Ok.ensures.bytes.1 w.if-n-bytes.true))
  | in-Ok+else-n-bytes w ↦ rw w.taken-is
      (c.new-taken.ensures.items ∙ sym
      (taken_too_few _ _ _ _ w.in-Ok.ensures.bytes.0 w.in-Ok.ensures.bytes.1 w.if-n-bytes.false))
  | in_default w ↦ rw w.taken-is (c.new-taken.ensures.items ∙ sym (taken_none _ _ _ w.in_default.ensures.bytes.1))
]
