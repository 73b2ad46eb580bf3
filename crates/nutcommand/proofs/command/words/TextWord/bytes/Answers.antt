use Rattle.std.proofs.Common.{rules, tests, arith}
use Rattle.std.proofs.lemmas.Bool.Decides.{nat_tests}
use Rattle.std.proofs.lemmas.Iterator.{YieldsList-from_slice}
use Rattle.std.proofs.lemmas.Iterator.Search.{all_from_yields_List}
use Rattle.nutcommand.proofs.command.words.TextWord.bytes.Goals as goal

pub returns-clause-value : goal.returns-clause-value
returns-clause-value g c =
    let all = all_from_yields_List g.K.TextKind.allows _ _ c.all-allowed.result
    c.all-allowed.ensures.ran (YieldsList-from_slice c.in-Some.bytes.now cc) (λ x b q k. search (rules, tests)) in
    grind (arith, nat_tests)
