use Rattle.endtoend.proofs.FrameReading.{frame_read}
use Rattle.endtoend.proofs.laws.a_frame_is_read_as_its_items.Goals as goal

pub returns : goal.returns
returns c = frame_read
