use Rattle.std.proofs.Common.{◌≡◌, ◌++◌, ◌∙◌, ap, arith}
use Rattle.std.specs.Fmt.{decimal}
use Rattle.std.specs.List.{list_all}
use Rattle.std.proofs.lemmas.Grind.{common_steps}
use Rattle.nutwords.specs.Bytes.{is_lawful}
use Rattle.nutlisting.proofs.Lawful.{both_lawful, decimal_lawful}
use Rattle.nutlisting.proofs.lines.types.push_text_if.Goals as goal

pub returns-then-is-clause-lawful : goal.returns-then-is-clause-lawful
returns-then-is-clause-lawful c h =
    let text : c.try_extend_from_slice.new.self.items ≡ c.push_word.new.line.items ++
    decimal c.args.most = grind (arith, common_steps) in
    ap (list_all is_lawful) text ∙
    both_lawful c.push_word.new.line.items (decimal c.args.most)
    (search (c.push_word.ensures.lawful, h)) (decimal_lawful c.args.most (omega arith))
