use Rattle.std.proofs.Common.{◌≡◌, ◌∷◌, [], ◌++◌, ap, ◌∙◌, arith}
use Rattle.std.proofs.lemmas.List.Elements.{All-nil, All-cons}
use Rattle.nutusers.specs.UpsList.{Ups, IsLawfulUps}
use Rattle.nutusers.proofs.NamesApart.{rising_one}
use Rattle.nutusers.proofs.ups_list.UpsList.one.Goals as goal

pub invariant_of-result : goal.invariant_of-result
invariant_of-result c =
    let one : c.push.new.self.items ≡ c.new.result ∷ [] = c.in_ok-push.ensures.items ∙
    ap (λ items. items ++ c.new.result ∷ []) c.new-upses.ensures.items in
    let lawful : IsLawfulUps c.new.result =
    rw c.new.ensures (record { name = c.as_bytes.ensures.lawful; description = tt }) in
    rw one (record {
      by_name = rising_one (λ (ups : Ups). ups.name) c.new.result;
      few = omega arith;
      lawful = All-cons IsLawfulUps c.new.result [] lawful (All-nil IsLawfulUps);
    })
