-- What is looked up ahead.
use Rattle.std.proofs.Common.{◌≡◌, ℕ, zero, suc, ◌+◌, ◌<◌, List, [], ◌∷◌}
use Rattle.std.proofs.Common.{length, map, take, drop, min, Option, Some, None, refl, sym, ap}
use Rattle.std.proofs.Common.{subst, ◌∙◌, arith, get_or}
use Rattle.std.specs.Prelude.{MatchOption, is_some, true}
use Rattle.std.specs.Option.{option_map}
use Rattle.std.proofs.lemmas.List.{drop_more, drop-map, take_min, length-take, length-map}
use Rattle.nutmap.specs.Entries.{entries_after, first_entry}
use Rattle.nutdriver.specs.Tree.{byte_order}
use Rattle.nutdriver.specs.Variable.{VariableState}
use Rattle.nutlisting.specs.Ahead.{AreFirst, AreNext, front, IsEnd, IsTaken}
use Rattle.nutlisting.proofs.Firsts.{Walks, walks_on}

-- the one at a place, and those after it
pub from_place : {A B : Type 0} (f : A → B) (xs : List A) (k : ℕ) (d : A) → k < length xs →
    drop k (map f xs) ≡ f (get_or xs k d) ∷ drop (k + 1) (map f xs)
from_place f xs k d h =
    drop-map f k xs ∙ ap (map f) (drop_more xs k d h) ∙
    ap (λ zs. f (get_or xs k d) ∷ zs) (sym (drop-map f (k + 1) xs))

module _ {R E : Type 0} (f : R → E) (xs : List (Option R)) (k : ℕ) (d x : Option R)
    (within : k < length xs) (here : x ≡ get_or xs k d) where
  -- the one at a place is in front of what is left there
  pub front_here : option_map f x ≡ front (drop k (map (option_map f) xs))
  front_here = ap (option_map f) here ∙ sym (ap front (from_place (option_map f) xs k d within))

  left_here : option_map f x ∷ drop (k + 1) (map (option_map f) xs) ≡ drop k (map (option_map f) xs)
  left_here = ap (λ z. option_map f z ∷ drop (k + 1) (map (option_map f) xs)) here ∙
      sym (from_place (option_map f) xs k d within)

-- and those after it are left where it is taken
pub rest_here : {R E : Type 0} (f : R → E) (xs : List (Option R)) (k : ℕ) (d x : Option R) →
    k < length xs → x ≡ get_or xs k d → is_some x ≡ true →
    MatchOption x (drop (k + 1) (map (option_map f) xs) ≡ drop k (map (option_map f) xs))
    (λ e. drop k (map (option_map f) xs) ≡ Some (f e) ∷ drop (k + 1) (map (option_map f) xs))
rest_here f xs k d None within here some = absurd (cc)
rest_here f xs k d (Some e) within here some = sym (left_here f xs k d (Some e) within here)

module _ {E : Type 0} where
  -- what one walk looked up
  pub collected : (n : ℕ) (es : List E) (ahead : List (Option E)) → 0 < n → ahead ≡
      map Some (take n es) → AreNext es ahead
  collected n es ahead some h = record {
    first = h ∙ ap (λ (xs : List E). map {A = E} {B = Option E} (λ x. Some x) xs)
        (sym (ap (λ k. take k es) size ∙ take_min n es));
    some = λ none. nothing n es some (sym h ∙ none);
  }
    where
      size : length ahead ≡ min n (length es)
      size = ap length h ∙ length-map (take n es) (λ (x : E). Some x) ∙ length-take n es

      nothing : (n : ℕ) (es : List E) → 0 < n → map Some (take n es) ≡ [] → es ≡ []
      nothing n [] some h = refl
      nothing zero (e ∷ es) some h = absurd (omega (arith, some))
      nothing (suc n) (e ∷ es) some h = absurd (cc)

  -- the first of the entries, where one stands ahead
  pub first_ahead : (es : List E) (e : E) (ahead : List (Option E)) →
      AreFirst es (Some e ∷ ahead) → (others : List E) × (es ≡ e ∷ others) × AreFirst others ahead
  first_ahead [] e ahead h = absurd (cc)
  first_ahead (x ∷ es) e ahead h = (es, cc, cc)

  -- none stands ahead only where there is none
  pub none_ahead : (es : List E) (ahead : List (Option E)) → AreNext es ahead → front ahead ≡
      None → (es ≡ []) × (ahead ≡ [])
  none_ahead es [] h f = (h.some refl, refl)
  none_ahead [] (a ∷ ahead) h f = absurd (cc)
  none_ahead (e ∷ es) (a ∷ ahead) h f = absurd (cc (h.first, f))

-- What is taken is the variable after the name.
pub taken : {R : Type 0} (f : R → List ℕ × VariableState)
    (variables : List (List ℕ × VariableState)) (last : Option (List ℕ))
    (ahead rest : List (Option (List ℕ × VariableState))) (r : Option R)
    → Walks byte_order variables last →
    AreNext (entries_after byte_order variables last) ahead → option_map f r ≡ front ahead
    → MatchOption r (rest ≡ ahead) (λ e. ahead ≡ Some (f e) ∷ rest)
    → MatchOption r (IsEnd variables last rest) (λ e. IsTaken variables last (f e) rest)
taken f variables last ahead rest None walks next found left =
    let none = none_ahead (entries_after byte_order variables last) ahead next (sym found) in
    record { none = none.0; empty = left ∙ none.1 }
taken f variables last ahead rest (Some e) walks next found left =
    let parts = first_ahead (entries_after byte_order variables last) (f e) rest (rw left at next.first) in
    let on : entries_after byte_order variables last ≡ f e ∷
    entries_after byte_order variables (Some (f e).0) =
    walks_on byte_order variables last (f e) walks (ap first_entry parts.1) in
    record {
      walks = on;
      first = subst (λ (es : List (List ℕ × VariableState)). AreFirst es rest)
          (ap (drop 1) (sym parts.1 ∙ on)) parts.2;
    }
