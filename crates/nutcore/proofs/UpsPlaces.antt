-- The UPS at a place, and what a change of one UPS leaves of it and of the others.
use Rattle.std.proofs.Common.{◌≡◌, ◌≢◌, ◌<◌, ◌∙◌, ℕ, zero, suc, true, false}
use Rattle.std.proofs.Common.{eqb, List, [], ◌∷◌, Option, Some, None, refl, sym, ap, subst}
use Rattle.std.proofs.Common.{length, set, get_or, arith, inl, inr}
use Rattle.nutcore.proofs.Common.{slice_get, option_map, option_map_or, eqb-true, eqb-false}
use Rattle.nutcore.proofs.Common.{same_Some, slice_get_read, UpsId, UpsState, ServerState, ups_at}
use Rattle.nutcore.proofs.Common.{changed_at, with_ups_changed}
use Rattle.nutcore.specs.Promises.{OfUps}
use Rattle.std.proofs.lemmas.Bool.{cases_Bool}

-- a UPS stands there, of which this holds
pub record Stands (p : ℕ) (xs : List UpsState) (P : UpsState → Type 0) : Type 0 where
  pub ups : UpsState
  pub there : slice_get xs p ≡ Some ups
  pub is : P ups

pub within : (p : ℕ) (xs : List UpsState) → p < length xs → Stands p xs (λ x. Unit {0})
within p [] few = absurd (omega arith)
within zero (x ∷ xs) few = record { ups = x; there = refl; is = tt }
within (suc p) (x ∷ xs) few = let w = within p xs (omega (arith, few)) in
    record { ups = w.ups; there = w.there; is = tt }

pub there_is : (xs : List UpsState) (i : ℕ) (x : UpsState) → i < length xs → x ≡
    get_or xs i x → slice_get xs i ≡ Some x
there_is xs i x lt at = slice_get_read xs (length xs) i x refl lt at

-- what is read off it
pub read_off : {A : Type 0} (f : UpsState → A) (d : A) (u : UpsId) (s : ServerState)
    (x : UpsState) → ups_at u.place s ≡ Some x → option_map_or f (ups_at u.place s) d ≡ f x
read_off f d u s x there = ap (λ (o : Option UpsState). option_map_or f o d) there

-- what holds of the UPS that stands there
pub of_ups : (s : ServerState) (u : UpsId) (x : UpsState) (P : UpsState → Type 0) →
    ups_at u.place s ≡ Some x → P x → OfUps u s P
of_ups s u x P there p y at = subst P (same_Some x y (sym there ∙ at)) p

pub same_ups : (u v : UpsId) → u.place ≡ v.place → u ≡ v
same_ups u v e = ap (λ (p : ℕ). let w : UpsId = record { place = p } in w) e

-- changes that agree on what stands there are one, and one after another is one
changed_agree : (f g : UpsState → UpsState) (i : ℕ) (xs : List UpsState) →
    ((x : UpsState) → slice_get xs i ≡ Some x → f x ≡ g x) → changed_at f i xs ≡ changed_at g i xs
changed_agree f g i [] agree = refl
changed_agree f g zero (x ∷ xs) agree = ap (λ (y : UpsState). y ∷ xs) (agree x refl)
changed_agree f g (suc i) (x ∷ xs) agree = ap (λ (ys : List UpsState). x ∷ ys) (changed_agree f g i xs agree)

unchanged : (i : ℕ) (xs : List UpsState) → changed_at (λ x. x) i xs ≡ xs
unchanged i [] = refl
unchanged zero (x ∷ xs) = refl
unchanged (suc i) (x ∷ xs) = ap (λ (ys : List UpsState). x ∷ ys) (unchanged i xs)

pub changed_none : (f : UpsState → UpsState) (i : ℕ) (xs : List UpsState) → slice_get xs i ≡
    None → changed_at f i xs ≡ xs
changed_none f i xs none = changed_agree f (λ x. x) i xs (λ x there. cc) ∙ unchanged i xs

-- a UPS in place of the one that stands there
pub set_changed : (f : UpsState → UpsState) (i : ℕ) (xs : List UpsState) (x y : UpsState) →
    slice_get xs i ≡ Some x → y ≡ f x → set xs i y ≡ changed_at f i xs
set_changed f i [] x y there e = cc
set_changed f zero (z ∷ xs) x y there e = ap (λ (w : UpsState). w ∷ xs) (e ∙ ap f (sym (same_Some z x there)))
set_changed f (suc i) (z ∷ xs) x y there e = ap (λ (zs : List UpsState). z ∷ zs) (set_changed f i xs x y there e)

-- what stands there then, and elsewhere
pub changed_there : (f : UpsState → UpsState) (p : ℕ) (xs : List UpsState) →
    slice_get (changed_at f p xs) p ≡ option_map f (slice_get xs p)
changed_there f p [] = refl
changed_there f zero (x ∷ xs) = refl
changed_there f (suc p) (x ∷ xs) = changed_there f p xs

pub at_changed : (f : UpsState → UpsState) (p : ℕ) (xs : List UpsState) (x : UpsState) →
    slice_get xs p ≡ Some x → slice_get (changed_at f p xs) p ≡ Some (f x)
at_changed f p xs x e = changed_there f p xs ∙ ap (option_map f) e

pub other_ups : (f : UpsState → UpsState) (p q : ℕ) (xs : List UpsState) → q ≢ p →
    slice_get (changed_at f p xs) q ≡ slice_get xs q
other_ups f p q [] differ = refl
other_ups f zero zero (x ∷ xs) differ = absurd (differ refl)
other_ups f (suc p) (suc q) (x ∷ xs) differ = other_ups f p q xs (λ (e : q ≡ p). differ (ap suc e))
other_ups f p q (x ∷ xs) differ = refl

pub of_place : (f : UpsState → UpsState) (u v : UpsId) (xs : List UpsState) (x : UpsState)
    (P : UpsState → Type 0) → slice_get xs u.place ≡ Some x
    → (eqb v.place u.place ≡ true → v ≡ u → P (f x)) →
    (eqb v.place u.place ≡ false → P x) → Stands u.place (changed_at f v.place xs) P
of_place f u v xs x P there here other = elim (cases_Bool (eqb v.place u.place)) [
  | inl k ↦ (let same : v.place ≡ u.place = eqb-true v.place u.place k in
      record {
        ups = f x;
        there = ap (λ (p : ℕ). slice_get (changed_at f p xs) u.place) same ∙
            at_changed f u.place xs x there;
        is = here k (same_ups v u same);
      })
  | inr k ↦ record {
    ups = x;
    there =
        other_ups f v.place u.place xs (λ (e : u.place ≡ v.place). eqb-false v.place u.place k (sym e)) ∙ there;
    is = other k;
  }
]

-- the same of the server
abbrev with_upses : ServerState → List UpsState → ServerState
with_upses s xs = record s { upses = xs }

pub server_agree : (s : ServerState) (u : UpsId) (f g : UpsState → UpsState) →
    OfUps u s (λ x. f x ≡ g x) → with_ups_changed f u s ≡ with_ups_changed g u s
server_agree s u f g agree = ap (with_upses s) (changed_agree f g u.place s.upses agree)

pub server_unchanged : (u : UpsId) (s : ServerState) → with_ups_changed (λ x. x) u s ≡ s
server_unchanged u s = ap (with_upses s) (unchanged u.place s.upses)

pub server_same : (s : ServerState) (u : UpsId) (f : UpsState → UpsState) →
    OfUps u s (λ x. f x ≡ x) → s ≡ with_ups_changed f u s
server_same s u f same = sym (server_agree s u f (λ x. x) same ∙ server_unchanged u s)

pub server_set : (s : ServerState) (u : UpsId) (f : UpsState → UpsState) (x y : UpsState) →
    ups_at u.place s ≡ Some x → y ≡ f x →
    (let code : ServerState = record s { upses = set s.upses u.place y } in code ≡ with_ups_changed f u s)
server_set s u f x y there e = ap (with_upses s) (set_changed f u.place s.upses x y there e)

pub left_at : (s t : ServerState) (u : UpsId) (x y : UpsState) → ups_at u.place s ≡ Some x →
    t ≡ with_ups_changed (λ z. y) u s → ups_at u.place t ≡ Some y
left_at s t u x y there leaves = ap (ups_at u.place) leaves ∙ at_changed (λ z. y) u.place s.upses x there
