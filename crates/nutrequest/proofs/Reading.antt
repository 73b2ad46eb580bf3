-- A read that gave no line.
use Rattle.std.proofs.Common.{◌≡◌, ℕ, ◌<◌, List, [], ◌++◌, length, Option, None, Err, append-nil}
use Rattle.nutwords.specs.SplitLine.{split_line}
use Rattle.nutio.specs.Ends.{Received}
use Rattle.nutrequest.specs.Inbox.{FillGives, LineGives}
use Rattle.nutrequest.specs.declared.faults.ClientFault.{ClientFault}
use Rattle.nutrequest.specs.declared.faults.ClientFault.TheVariants as faults
use Rattle.nutio.proofs.PublicLaws.{received_joins, read_failed_joins}
use Rattle.nutrequest.proofs.Cutting.{first_open}
use Rattle.nutwords.specs.declared.limits.TheConstants.{LINE_ROOM}

pub line_fails : {R : Type 0} (remaining : R → Option (List ℕ)) (failures : R → ℕ)
    (reader mid after : R) (old kept came new : List ℕ) (fault : ClientFault)
    → Received remaining failures reader came mid → kept ≡ old ++ came → split_line kept ≡
    None → length kept < LINE_ROOM
    → FillGives remaining failures kept mid (Err fault) new after →
    LineGives remaining failures old reader (Err fault) new after
line_fails remaining failures reader mid after old kept came new faults.EarlyEnd h same none few f = (
  came ++ [],
  received_joins remaining failures reader mid after came [] h f.0,
  f.1,
  rw append-nil (first_open (old ++ came) kept same none few),
)
line_fails remaining failures reader mid after old kept came new faults.Read h same none few f = (
  came ++ [],
  read_failed_joins remaining failures reader mid after came [] h f,
  rw append-nil (first_open (old ++ came) kept same none few),
)
line_fails remaining failures reader mid after old kept came new faults.Connect h same none few f = absurd f
line_fails remaining failures reader mid after old kept came new faults.Write h same none few f = absurd f
line_fails remaining failures reader mid after old kept came new (faults.ErrWord w) h same none few f = absurd f
line_fails remaining failures reader mid after old kept came new faults.BadReply h same none few f = absurd f
line_fails remaining failures reader mid after old kept came new faults.BadTarget h same none few f = absurd f
line_fails remaining failures reader mid after old kept came new faults.Memory h same none few f = absurd f
