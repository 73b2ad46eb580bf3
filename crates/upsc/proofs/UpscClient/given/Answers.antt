use Rattle.std.proofs.Common.{◌≡◌, Bool, Option}
use Rattle.clap.specs.Words.{Text}
use Rattle.nutclient.specs.Job.{JobParts}
use Rattle.upsc.specs.Words.{asked}
use Rattle.upsc.proofs.UpscClient.given.Goals as goal

same : (l L clients attached : Bool) {id id' name name' server server' : Option Text} {job : Option JobParts}
    → job ≡ asked l L clients attached id name server → id ≡ id' → name ≡ name' → server ≡ server'
    → job ≡ asked l L clients attached id' name' server'
same l L clients attached e a b c = cc

pub returns : goal.returns
returns c = (
  c.get_flag.result,
  c.get_flag-2.result,
  c.get_flag-3.result,
  c.get_flag-4.result,
  (c.get_flag.ensures.none, c.get_flag.ensures.value, c.get_flag.ensures.other),
  (c.get_flag-2.ensures.none, c.get_flag-2.ensures.value, c.get_flag-2.ensures.other),
  (c.get_flag-3.ensures.none, c.get_flag-3.ensures.value, c.get_flag-3.ensures.other),
  (c.get_flag-4.ensures.none, c.get_flag-4.ensures.value, c.get_flag-4.ensures.other),
  same c.get_flag.result c.get_flag-2.result c.get_flag-3.result c.get_flag-4.result c.asked.ensures
      c.get_str-id.ensures c.get_str-name.ensures c.get_str.ensures,
)
