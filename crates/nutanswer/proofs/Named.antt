-- A UPS that is named has the name, and stands at its place in the list and among those seen.
use Rattle.std.proofs.Common.{◌≡◌, ℕ, Option, Some, None, refl, subst}
use Rattle.std.specs.Prelude.{slice_get}
use Rattle.std.specs.Option.{option_map, option_and_then}
use Rattle.nutusers.specs.UpsList.{place_of}
use Rattle.nutanswer.specs.View.{UpsSeen}
use Rattle.nutanswer.specs.Checks.{known, ups_at}
use Rattle.nutanswer.specs.Laws.{IsSeen, ANamedUpsIsSeen}

pub named_is_seen : ANamedUpsIsSeen
named_is_seen s None u h = cc h
named_is_seen s (Some name) u h = placed (place_of name s.list) refl h
  where
    stands : (place : ℕ) (x : Option UpsSeen) → place_of name s.list ≡ Some place →
        slice_get s.upses place ≡ x → option_map (known name place) x ≡ Some u → IsSeen s (Some name) u
    stands place None l f h = cc h
    stands place (Some x) l f h = let e : known name place x ≡ u = cc h in
        subst (IsSeen s (Some name)) e (record { name_is = refl; in_list = l; stands = f })

    placed : (place : Option ℕ) → place_of name s.list ≡ place →
        option_and_then (ups_at s name) place ≡ Some u → IsSeen s (Some name) u
    placed None l h = cc h
    placed (Some place) l h = stands place (slice_get s.upses place) l refl h
