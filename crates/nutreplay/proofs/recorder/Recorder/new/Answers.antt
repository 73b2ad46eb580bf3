use Rattle.std.proofs.Common.{[]}
use Rattle.nutreplay.proofs.Recording.{head_waits}
use Rattle.nutreplay.proofs.recorder.Recorder.new.Goals as goal

pub returns : goal.returns
returns g c = λ max_age known read. record {
  is_list = record { by_name = c.len.ensures.by_name; few = c.len.ensures.few; lawful = c.len.ensures.lawful };
  script = [];
  known = known;
  is = head_waits c.args.list max_age _ read;
}
