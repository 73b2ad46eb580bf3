use Rattle.std.proofs.Common.{arith}
use Rattle.std.proofs.lemmas.Grind.{common_steps}
use Rattle.nutcommand.specs.declared.command.Command.TheVariants.{ListEnum, ListRange}
use Rattle.nutcommand.specs.Command.{ups_and_name}
use Rattle.nutcommand.proofs.LawfulWords.{made_of}
use Rattle.nutcommand.proofs.command.Command.list.Goals as goal

pub returns-then-is_word-5 : goal.returns-then-is_word-5
returns-then-is_word-5 c =
    let made = made_of (λ a. ListEnum a.0 a.1) (ups_and_name c.next.new.self) c.ups_and_name.result
    c.ups_and_name.ensures in
    grind (arith, common_steps, made)

pub returns-then-is_word-6 : goal.returns-then-is_word-6
returns-then-is_word-6 c =
    let made = made_of (λ a. ListRange a.0 a.1) (ups_and_name c.next.new.self)
    c.ups_and_name-then-is_word-6.result c.ups_and_name-then-is_word-6.ensures in
    grind (arith, common_steps, made)
