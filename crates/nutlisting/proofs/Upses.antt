-- The UPSs of a list, one after another.
use Rattle.std.proofs.Common.{◌≡◌, ℕ, ◌+◌, ◌<◌, List, [], ◌∷◌, drop, length}
use Rattle.std.proofs.Common.{get_or, ap, ◌∙◌}
use Rattle.std.specs.Prelude.{Option, Some, None, codes, map, slice_get}
use Rattle.std.specs.Option.{option_map, option_and_then}
use Rattle.std.proofs.lemmas.List.{drop_more}
use Rattle.std.proofs.lemmas.Option.{slice_get-get_or}
use Rattle.nutwords.specs.Frame.{line_of}
use Rattle.nutwords.specs.Spelling.{quoted}
use Rattle.nutusers.specs.UpsList.{Ups}
use Rattle.nutlisting.specs.Shown.{text_or_unavailable}
use Rattle.nutlisting.specs.Items.{ups_item}
use Rattle.nutlisting.specs.Lines.{IsWholeLine}
use Rattle.nutlisting.specs.Stages.{IsFirst}
use Rattle.nutlisting.proofs.Firsts.{first_of}

named_by : (held : Option Ups) (ups : Ups) (name : List ℕ) (desc : Option (List ℕ)) → held ≡ Some ups
    → Some name ≡ option_map (λ u. u.name) held → desc ≡ option_and_then (λ u. u.desc) held
    → line_of (codes "UPS" ∷ name ∷ quoted (text_or_unavailable desc) ∷ []) ≡ line_of (ups_item ups)
named_by held ups name desc is n d =
    let same : name ≡ ups.name = cc (ap (option_map (λ (u : Ups). u.name)) is) in
    cc (same, d, is)

-- the line of the UPS at a place, by what is shown of it
pub ups_first : (upses : List Ups) (place : ℕ) (name : List ℕ) (desc : Option (List ℕ))
    (line : List ℕ) → place < length upses
    → Some name ≡ option_map (λ u. u.name) (slice_get upses place) → desc ≡
    option_and_then (λ u. u.desc) (slice_get upses place)
    → line ≡ line_of (codes "UPS" ∷ name ∷ quoted (text_or_unavailable desc) ∷ []) → IsWholeLine line
    → IsFirst (map ups_item (drop place upses)) line (map ups_item (drop (place + 1) upses))
ups_first upses place name desc line within n d l w =
    let none : Ups = record { name = []; desc = None; socket = None } in
    let ups : Ups = get_or upses place none in
    first_of ups_item (drop place upses) (drop (place + 1) upses) ups line (drop_more upses place none within)
    (l ∙ named_by (slice_get upses place) ups name desc (slice_get-get_or upses place none within) n d) w
