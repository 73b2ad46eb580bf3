use Rattle.std.proofs.Common.{◌≡◌, ap, Bor, List, None, Option, refl, Some, unwrap_or, ℕ}
use Rattle.std.specs.Option.{option_map}
use Rattle.std.proofs.lemmas.Iterator.Consumers.{YieldsList-from_first, nth_from_yields_List}
use Rattle.upsd.proofs.refused.line_at.Goals as goal

now_of : (r : Option (Bor (List ℕ))) (d x : Bor (List ℕ)) → x ≡ unwrap_or r d
    → x.now ≡ unwrap_or (option_map (λ y. y.now) r) d.now
now_of None d x e = ap (λ y. y.now) e
now_of (Some y) d x e = ap (λ y. y.now) e

pub returns : goal.returns
returns c =
    let there = nth_from_yields_List c.nth.result c.nth.new.self c.saturating_sub.result c.nth.ensures.ran
    (YieldsList-from_first (λ x. x.now) (λ lines. lines) c.of.result refl) in
    let given = now_of c.nth.result _ c.unwrap_or.result c.unwrap_or.ensures in
    cc
