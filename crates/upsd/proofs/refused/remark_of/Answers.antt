use Rattle.upsd.specs.Refused.{IsRemark}
use Rattle.upsd.proofs.refused.remark_of.Goals as goal

pub returns : goal.returns
returns c = record {
  text = c.trim_ascii-text.result.now;
  trimmed = rw c.line_at-line.ensures at c.trim_ascii-text.ensures.value;
  shown = cc;
  flaw = cc;
}
