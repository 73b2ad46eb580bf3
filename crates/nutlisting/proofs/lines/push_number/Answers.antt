use Rattle.std.proofs.Common.{◌≡◌, ℕ, true, List, sym, ap, subst, ◌∙◌, to_z-of_z, SFits, w32}
use Rattle.std.specs.List.{list_all}
use Rattle.std.specs.Fmt.{signed_decimal}
use Rattle.nutwords.specs.Bytes.{is_lawful}
use Rattle.nutlisting.proofs.Lawful.{signed_lawful}
use Rattle.nutlisting.proofs.lines.push_number.Goals as goal

pub returns-clause-lawful : goal.returns-clause-lawful
returns-clause-lawful c =
    let fits : SFits w32 c.args.number = c.ranges.number in
    let text : c.as_bytes.result.now ≡ signed_decimal c.args.number = c.as_bytes.ensures.value ∙
    (c.format.ensures.text ∙ ap signed_decimal (to_z-of_z fits)) in
    c.push_quoted.ensures.lawful (subst (λ (z : List ℕ). list_all is_lawful z ≡ true)
    (sym text) (signed_lawful c.args.number fits))
