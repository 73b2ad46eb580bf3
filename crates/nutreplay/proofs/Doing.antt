-- The parts of the drivers, written one after another.
use Rattle.std.proofs.Common.{drop, append-nil, append_assoc, ◌≡◌, ◌≤◌, ◌+◌}
use Rattle.std.proofs.Common.{◌∙◌, List, [], ◌∷◌, ◌++◌, Option, Some, None, Bool}
use Rattle.std.proofs.Common.{true, false, refl, sym, ap, subst, ℕ, length}
use Rattle.std.specs.Prelude.{slice_get}
use Rattle.std.specs.Option.{option_map}
use Rattle.std.proofs.Math.ListN.{drop_of_length-le}
use Rattle.std.proofs.lemmas.List.{drop_more}
use Rattle.std.proofs.lemmas.Option.{slice_get_within, get_or_from_slice_get}
use Rattle.nutusers.specs.UpsList.{Ups}
use Rattle.nutreplay.specs.Transcript.{driver_part, drivers_part}
use Rattle.nutreplay.specs.declared.transcript.sent.Taken.{Taken}

drop_at : (list : List Ups) (place : ℕ) (ups : Ups) → slice_get list place ≡ Some ups →
    drop place list ≡ ups ∷ drop (place + 1) list
drop_at list place ups at = drop_more list place ups (slice_get_within list place ups at) ∙
    ap (λ (u : Ups). u ∷ drop (place + 1) list) (get_or_from_slice_get list place ups ups at)

more_of : (taken : List Taken) (list : List Ups) (place : ℕ) (name old mid new : List ℕ)
    (o : Option Ups) → slice_get list place ≡ o → option_map (λ ups. ups.name) o ≡
    Some name → mid ++ drivers_part taken place (drop place list) ≡ old ++
    drivers_part taken 0 list → new ≡ mid ++ driver_part taken place name
    → new ++ drivers_part taken (place + 1) (drop (place + 1) list) ≡ old ++ drivers_part taken 0 list
more_of taken list place name old mid new None at named a b = cc named
more_of taken list place name old mid new (Some ups) at named a b =
    let same : ups.name ≡ name = cc named in
    let rest : List ℕ = drivers_part taken (place + 1) (drop (place + 1) list) in
    ap (λ (xs : List ℕ). xs ++ rest) (b ∙ ap (λ (n : List ℕ). mid ++ driver_part taken place n) (sym same))
    ∙ append_assoc mid (driver_part taken place ups.name) rest
    ∙ ap (λ (upses : List Ups). mid ++ drivers_part taken place upses) (sym (drop_at list place ups at))
    ∙ a

-- the part of one more UPS of the list is written
pub more_drivers : (taken : List Taken) (list : List Ups) (place : ℕ)
    (name old mid new : List ℕ) → option_map (λ ups. ups.name) (slice_get list place) ≡
    Some name → mid ++ drivers_part taken place (drop place list) ≡ old ++
    drivers_part taken 0 list → new ≡ mid ++ driver_part taken place name
    → new ++ drivers_part taken (place + 1) (drop (place + 1) list) ≡ old ++ drivers_part taken 0 list
more_drivers taken list place name old mid new named a b =
    more_of taken list place name old mid new (slice_get list place) refl named a b

-- those of all UPSs are written
pub all_drivers : (taken : List Taken) (list : List Ups) (place : ℕ) (old new : List ℕ) →
    length list ≤ place → new ++ drivers_part taken place (drop place list) ≡ old ++
    drivers_part taken 0 list → new ≡ old ++ drivers_part taken 0 list
all_drivers taken list place old new end a = sym (append-nil new) ∙
    ap (λ (upses : List Ups). new ++ drivers_part taken place upses) (sym (drop_of_length-le list end)) ∙ a
