-- Before the second that is due the clock changes nothing but the moment.
use Rattle.std.proofs.Common.{◌≡◌, ◌∙◌, ℕ, zero, suc, ◌+◌, ◌<◌, ◌≤◌}
use Rattle.std.proofs.Common.{List, [], ◌∷◌, Option, Some, None, refl, sym}
use Rattle.std.proofs.Common.{ap, ap₂, subst, arith, map, max, take, slice_get}
use Rattle.std.specs.Prelude.{min, ◌-◌, ◌^◌}
use Rattle.std.specs.List.{cons_option}
use Rattle.std.proofs.lemmas.Bool.Decides.{nat_tests}
use Rattle.nutcore.proofs.Common.{UpsId, UpsState, ServerState}
use Rattle.nutcore.specs.declared.event.Event.TheVariants.{Tick}
use Rattle.nutcore.specs.declared.note.DataState.{DataState}
use Rattle.nutcore.specs.declared.note.DataState.TheVariants.{Lost, Awaited, Good, Stale}
use Rattle.nutcore.specs.declared.note.Note.{Note}
use Rattle.nutusers.specs.UpsList.{id_at}
use Rattle.nutcore.specs.Ups.{after_tick}
use Rattle.nutcore.specs.DriverEvents.{ticked}
use Rattle.nutcore.specs.Notes.{all_notes, data_note, data_state_of, tick_notes}
use Rattle.nutcore.specs.Due.{NothingDueIsSleptOver, due_among, due_of}

-- before the first second that is due no other is
first_of : (n a b : ℕ) → n < min a b → n < a
first_of n a b h = omega arith

others_of : (n a b : ℕ) → n < min a b → n < b
others_of n a b h = omega arith

after_moment : (n m k d : ℕ) → m < n → n < max (min (m + 1) k) d → n < d
after_moment n m k d later before = omega arith

-- the least of some and of one more
least_and_one : (a b c d : ℕ) → b ≡ min c d → min a b ≡ min (min a c) d
least_and_one a b c d e = omega arith

least_at_most : (a b : ℕ) → b ≤ 2 ^ 64 - 1 → min a b ≤ 2 ^ 64 - 1
least_at_most a b most = omega arith

pub at_most : (max_age moment : ℕ) (xs : List UpsState) → due_among max_age moment xs ≤ 2 ^ 64 - 1
at_most max_age moment [] = omega arith
at_most max_age moment (x ∷ xs) =
    least_at_most (due_of max_age moment x) (due_among max_age moment xs) (at_most max_age moment xs)

pub due_so_far : (max_age moment p : ℕ) (xs : List UpsState) (x : UpsState) → slice_get xs p ≡ Some x
    → due_among max_age moment (take (suc p) xs) ≡
    min (due_among max_age moment (take p xs)) (due_of max_age moment x)
due_so_far max_age moment p [] x e = absurd (cc)
due_so_far max_age moment zero (y ∷ ys) x e =
    let same : y ≡ x = cc in
    turned (due_of max_age moment y) _ ∙ ap (λ (z : UpsState). min (2 ^ 64 - 1) (due_of max_age moment z)) same
  where
    turned : (a b : ℕ) → min a b ≡ min b a
    turned a b = omega arith
due_so_far max_age moment (suc p) (y ∷ ys) x e =
    least_and_one (due_of max_age moment y) (due_among max_age moment (take (suc p) ys))
    (due_among max_age moment (take p ys)) (due_of max_age moment x)
    (due_so_far max_age moment p ys x e)

-- a UPS before its second: it isn't pinged, and its data are as they were
unpinged : (max_age moment early : ℕ) (x : UpsState) → 3 ≤ max_age → moment < early →
    early < due_of max_age moment x
    → after_tick max_age early x ≡ x
unpinged max_age moment early x some later before = grind (arith, nat_tests)

same_state : (max_age moment early : ℕ) (x : UpsState) → moment < early → early < due_of max_age moment x
    → data_state_of max_age early x ≡ data_state_of max_age moment x
same_state max_age moment early x later before = grind (arith, nat_tests)

of_itself : (u : UpsId) (state : DataState) → data_note u state state ≡ None
of_itself u Lost = refl
of_itself u Awaited = refl
of_itself u Good = refl
of_itself u Stale = refl

unnoted : (u : UpsId) (was is : DataState) → is ≡ was → data_note u was is ≡ None
unnoted u was is same = subst (λ (d : DataState). data_note u was d ≡ None) (sym same) (of_itself u was)

module _ (max_age moment early : ℕ) (some : 3 ≤ max_age) (later : moment < early) where
  all_unpinged : (xs : List UpsState) → early < due_among max_age moment xs →
      map (after_tick max_age early) xs ≡ xs
  all_unpinged [] before = refl
  all_unpinged (x ∷ xs) before = ap₂ (λ (y : UpsState) (ys : List UpsState). y ∷ ys)
      (unpinged max_age moment early x some later
      (first_of early (due_of max_age moment x) (due_among max_age moment xs) before))
      (all_unpinged xs (others_of early (due_of max_age moment x) (due_among max_age moment xs) before))

  all_unnoted : (place : ℕ) (xs : List UpsState) → early < due_among max_age moment xs →
      tick_notes max_age moment early place xs ≡ []
  all_unnoted place [] before = refl
  all_unnoted place (x ∷ xs) before = ap₂ (λ (o : Option Note) (notes : List Note). cons_option o notes)
      (unnoted (id_at place) (data_state_of max_age moment x) (data_state_of max_age early x)
      (same_state max_age moment early x later
      (first_of early (due_of max_age moment x) (due_among max_age moment xs) before)))
      (all_unnoted (suc place) xs (others_of early (due_of max_age moment x) (due_among max_age moment xs) before))

  noted_later : (late place : ℕ) (xs : List UpsState) → early < due_among max_age moment xs
      → tick_notes max_age early late place xs ≡ tick_notes max_age moment late place xs
  noted_later late place [] before = refl
  noted_later late place (x ∷ xs) before =
      ap₂ (λ (d : DataState) (notes : List Note). cons_option
      (data_note (id_at place) d (data_state_of max_age late x)) notes)
      (same_state max_age moment early x later
      (first_of early (due_of max_age moment x) (due_among max_age moment xs) before))
      (noted_later late (suc place) xs (others_of early (due_of max_age moment x) (due_among max_age moment xs) before))

pub nothing_is_due : NothingDueIsSleptOver
unfolding ticked
nothing_is_due s early late sound later before until =
    let due : early < due_among s.max_age s.moment s.upses = after_moment early s.moment _ _ later before in
    let now : max early s.moment ≡ early = omega arith in
    let then : max late early ≡ max late s.moment = omega arith in
    let at : ℕ → ServerState = λ m. record s { moment = m; upses = map (after_tick s.max_age m) s.upses } in
    let slept : ticked early s ≡ record s { moment = early } =
    ap at now ∙ ap (λ (xs : List UpsState). let left : ServerState = record s { moment = early; upses = xs } in left)
    (all_unpinged s.max_age s.moment early sound.max_age.0 later s.upses due) in
    record {
      moment = slept;
      notes = ap (λ (m : ℕ). tick_notes s.max_age s.moment m 0 s.upses) now
          ∙ all_unnoted s.max_age s.moment early sound.max_age.0 later 0 s.upses due;
      later = ap (λ (z : ServerState). ticked late z) slept ∙ ap at then;
      later_notes = ap (λ (z : ServerState). all_notes z (Tick late) None) slept
          ∙ ap (λ (m : ℕ). tick_notes s.max_age early m 0 s.upses) then
          ∙ noted_later s.max_age s.moment early sound.max_age.0 later (max late s.moment) 0 s.upses due;
    }
