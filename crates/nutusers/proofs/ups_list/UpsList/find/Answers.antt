use Rattle.std.proofs.Common.{◌≡◌, ◌∙◌, Some, rules, tests, arith, ap, sym}
use Rattle.std.specs.Str.{bytes_eq}
use Rattle.std.proofs.lemmas.Grind.{common_steps}
use Rattle.std.proofs.lemmas.Iterator.{YieldsList-from_slice}
use Rattle.std.proofs.lemmas.Iterator.Search.{position_from_yields_List}
use Rattle.nutusers.specs.UpsList.{Ups, place_of}
use Rattle.nutusers.proofs.UpsLemmas.{named_at}
use Rattle.nutusers.proofs.ups_list.UpsList.find.Goals as goal

pub returns-in_err-place : goal.returns-in_err-place
returns-in_err-place c =
    let is = position_from_yields_List (λ (ups : Ups). bytes_eq ups.name c.args.name.now) _ _
    c.position.result c.position.ensures.ran (YieldsList-from_slice c.self.inside.upses.items cc)
    (λ x b q k. search (rules, tests)) in
    grind (arith, common_steps, is)

pub returns : goal.returns
returns c =
    let is = position_from_yields_List (λ (ups : Ups). bytes_eq ups.name c.args.name.now) _ _
    c.position.result c.position.ensures.ran (YieldsList-from_slice c.self.inside.upses.items cc)
    (λ x b q k. search (rules, tests)) in
    let found : Some c.in_ok-place.place ≡ place_of c.args.name.now c.self.inside.upses.items =
    sym c.in_ok-place.was ∙ is in (
      ap (place_of c.args.name.now) (sym c.self.view_is) ∙ sym found,
      ap (λ (ups : Ups). ups.name) c.ups.view_is ∙
          named_at c.self.inside.upses.items c.args.name.now c.in_ok-place.place
          c.index-ups.result.now found c.index-ups.ensures,
    )
