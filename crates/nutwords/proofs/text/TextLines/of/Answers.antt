use Rattle.std.proofs.Common.{arith}
use Rattle.nutwords.proofs.TextLemmas.{length-lines_of}
use Rattle.nutwords.proofs.text.TextLines.of.Goals as goal

pub returns-clause-few : goal.returns-clause-few
returns-clause-few c = omega (arith, length-lines_of c.args.bytes.now, c.if-prove.false)
