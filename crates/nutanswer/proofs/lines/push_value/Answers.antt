use Rattle.std.proofs.Common.{arith, ap, length, length-append}
use Rattle.nutwords.specs.Spelling.{quoted}
use Rattle.nutwords.proofs.PublicLaws.{quoted_is_short}
use Rattle.nutanswer.proofs.lines.push_value.Goals as goal

pub quote_into-requires-clause-fits : goal.quote_into-requires-clause-fits
quote_into-requires-clause-fits c =
    omega (arith, quoted_is_short c.args.value.now, c.requires.value, c.push.ensures.len, c.requires.front)

pub returns-clause-short : goal.returns-clause-short
returns-clause-short c = omega (
  arith,
  ap length c.quote_into.ensures.appends,
  length-append c.push.new.self.items (quoted c.args.value.now),
  quoted_is_short c.args.value.now,
  c.requires.value,
  c.push.ensures.len,
  c.requires.front,
)
