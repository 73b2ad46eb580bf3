use Rattle.std.proofs.Common.{arith}
use Rattle.nutmap.proofs.Digits.{digits_between}
use Rattle.nutmap.proofs.laws.most_nodes_by_size.Goals as goal

pub returns-clause-empty : goal.returns-clause-empty
returns-clause-empty c = rw (digits_between 0 1 (omega arith) (omega arith)) (omega arith)

pub returns-clause-of_99 : goal.returns-clause-of_99
returns-clause-of_99 c = rw (digits_between 6 100 (omega arith) (omega arith)) (omega arith)

pub returns-clause-of_100 : goal.returns-clause-of_100
returns-clause-of_100 c = rw (digits_between 6 101 (omega arith) (omega arith)) (omega arith)

pub returns-clause-of_4096 : goal.returns-clause-of_4096
returns-clause-of_4096 c = rw (digits_between 12 4097 (omega arith) (omega arith)) (omega arith)

pub returns-clause-of_32768 : goal.returns-clause-of_32768
returns-clause-of_32768 c = rw (digits_between 15 32769 (omega arith) (omega arith)) (omega arith)
