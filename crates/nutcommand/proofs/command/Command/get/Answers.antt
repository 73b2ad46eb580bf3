use Rattle.std.proofs.Common.{arith}
use Rattle.std.proofs.lemmas.Grind.{common_steps}
use Rattle.nutcommand.specs.declared.command.Command.TheVariants.{GetType, GetDesc}
use Rattle.nutcommand.specs.Command.{ups_and_name}
use Rattle.nutcommand.proofs.LawfulWords.{made_of}
use Rattle.nutcommand.proofs.command.Command.get.Goals as goal

pub returns-then-is_word-2 : goal.returns-then-is_word-2
returns-then-is_word-2 c =
    let made = made_of (λ a. GetType a.0 a.1) (ups_and_name c.next.new.self)
    c.ups_and_name-then-is_word-2.result c.ups_and_name-then-is_word-2.ensures in
    grind (arith, common_steps, made)

pub returns-then-is_word-3 : goal.returns-then-is_word-3
returns-then-is_word-3 c =
    let made = made_of (λ a. GetDesc a.0 a.1) (ups_and_name c.next.new.self)
    c.ups_and_name-then-is_word-3.result c.ups_and_name-then-is_word-3.ensures in
    grind (arith, common_steps, made)
