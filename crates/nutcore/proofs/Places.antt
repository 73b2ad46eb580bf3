-- Where sessions stand, after a change.
use Rattle.std.proofs.Common.{◌≡◌, ℕ, zero, suc, ◌+◌, ◌<◌, ◌≤◌, false, List}
use Rattle.std.proofs.Common.{[], ◌∷◌, ◌++◌, Some, None, Result, Ok, Err, refl, sym}
use Rattle.std.proofs.Common.{◌∙◌, ap, subst, eqb, arith, length, get_or, set, take, drop}
use Rattle.std.proofs.Common.{inl, inr}
use Rattle.std.specs.Prelude.{MatchResult}
use Rattle.std.specs.Result.{result_or}
use Rattle.std.specs.List.Sorted.{IsSearchInRange, IsBinarySearchResult, IsNonDecreasingBy}
use Rattle.std.specs.Ordering.{nat_cmp, ordering_index}
use Rattle.std.proofs.lemmas.Cmp.{ranked}
use Rattle.std.proofs.lemmas.Bool.{cond_both, cases_Bool, cases_lt, eqb-true, eq-eqb}
use Rattle.std.proofs.lemmas.List.Sums.{position_or_len_is}
use Rattle.std.proofs.lemmas.Bool.Decides.{nat_tests}
use Rattle.std.proofs.lemmas.Grind.{common_steps}
use Rattle.nutcore.specs.Session.{SessionState, find, put, without, new_session}
use Rattle.nutcore.specs.Sound.{IdsRise}
use Rattle.nutcore.specs.Promises.{place, IsAt}
use Rattle.nutcore.proofs.Found.{cases_Option}
use Rattle.nutcore.specs.declared.event.Fault.TheVariants.{NoSuchClient}

pub find_at : (c : ℕ) (xs : List SessionState) (d : SessionState) → place c xs < length xs →
    find c xs ≡ Some (get_or xs (place c xs) d)
find_at c [] d lt = absurd (omega arith)
find_at c (x ∷ xs) d lt = grind (arith, nat_tests, common_steps, find_at c xs d)

pub find_none : (c : ℕ) (xs : List SessionState) → length xs ≤ place c xs → find c xs ≡ None
find_none c [] le = refl
find_none c (x ∷ xs) le = grind (arith, nat_tests, common_steps, find_none c xs)

pub put_at : (y : SessionState) (xs : List SessionState) → place y.id xs < length xs →
    put y xs ≡ set xs (place y.id xs) y
put_at y [] lt = absurd (omega arith)
put_at y (x ∷ xs) lt = grind (arith, nat_tests, common_steps, put_at y xs)

pub place_put : (c : ℕ) (y : SessionState) (xs : List SessionState) → place c (put y xs) ≡ place c xs
place_put c y [] = refl
place_put c y (x ∷ xs) = grind (arith, nat_tests, common_steps, place_put c y xs)

pub length-put : (y : SessionState) (xs : List SessionState) → length (put y xs) ≡ length xs
length-put y [] = refl
length-put y (x ∷ xs) = grind (arith, nat_tests, common_steps, length-put y xs)

pub at_put : (c i : ℕ) (y : SessionState) (xs : List SessionState) → IsAt c i xs → IsAt c i (put y xs)
at_put c i y xs h = record { first = place_put c y xs ∙ h.first; within = omega (arith, length-put y xs, h.within) }

pub rise_put : (l n : ℕ) (y : SessionState) (xs : List SessionState) → IdsRise l n xs → IdsRise l n (put y xs)
rise_put l n y [] h = h
rise_put l n y (x ∷ xs) h =
    cond_both (eqb x.id y.id) (y ∷ xs) (x ∷ put y xs) (IdsRise l n)
    (λ same. subst (λ (i : ℕ). (l ≤ i) × IdsRise (i + 1) n xs) (eqb-true _ _ same) h)
    (λ other. (h.0, rise_put (x.id + 1) n y xs h.1))

rise_from : (k l n : ℕ) (xs : List SessionState) → k ≤ l → IdsRise l n xs → IdsRise k n xs
rise_from k l n [] low h = omega (arith, low, h)
rise_from k l n (x ∷ xs) low h = (omega (arith, low, h.0), h.1)

rise_reach : (l n : ℕ) (xs : List SessionState) → IdsRise l n xs → l ≤ n
rise_reach l n [] h = h
rise_reach l n (x ∷ xs) h = let rest = rise_reach (x.id + 1) n xs h.1 in omega (arith, h.0, rest)

pub rise_push : (l n : ℕ) (y : SessionState) (xs : List SessionState) → y.id ≡ n →
    IdsRise l n xs → IdsRise l (n + 1) (xs ++ y ∷ [])
rise_push l n y [] e h = (
  let low : l ≤ y.id = omega (arith, e, h) in low,
  let last : y.id + 1 ≤
      n + 1 = omega (arith, e) in last,
)
rise_push l n y (x ∷ xs) e h = (h.0, rise_push (x.id + 1) n y xs e h.1)

-- what is found lies where the ids do
pub rise_lawful : (l n c : ℕ) (xs : List SessionState) → IdsRise l n xs →
    (x : SessionState) → find c xs ≡ Some x → (l ≤ c) × (c < n)
rise_lawful l n c [] h x e = cc e
rise_lawful l n c (z ∷ xs) h x e = elim (cases_Bool (eqb z.id c)) [
  | inl same ↦ (let k = eqb-true z.id c same in let reach = rise_reach (z.id + 1) n xs h.1 in
      (let low : l ≤ c = omega (arith, h.0, k) in low, let high : c < n = omega (arith, k, reach) in high))
  | inr other ↦ (let inside = rise_lawful (z.id + 1) n c xs h.1 x (rw other at e) in
      (let low : l ≤ c = omega (arith, h.0, inside.0) in low, inside.1))
]

-- so an id elsewhere is none's
pub rise_none : (l n c : ℕ) (xs : List SessionState) → IdsRise l n xs →
    (l ≤ c → c < n → ⊥) → find c xs ≡ None
rise_none l n c xs h elsewhere = elim (cases_Option (find c xs))
    [ inl e ↦ e | inr (x, e) ↦ (let inside = rise_lawful l n c xs h x e in absurd (elsewhere inside.0 inside.1)) ]

pub rise_without : (l n c : ℕ) (xs : List SessionState) → IdsRise l n xs → IdsRise l n (without c xs)
rise_without l n c [] h = h
rise_without l n c (x ∷ xs) h =
    let rest = rise_without (x.id + 1) n c xs h.1 in
    cond_both (eqb x.id c) (without c xs) (x ∷ without c xs) (IdsRise l n)
    (λ same. rise_from l (x.id + 1) n (without c xs) (omega (arith, h.0)) rest) (λ other. (h.0, rest))

-- a session that isn't there is left out by nothing
pub without_none : (c : ℕ) (xs : List SessionState) → find c xs ≡ None → without c xs ≡ xs
without_none c [] e = refl
without_none c (x ∷ xs) e = grind (arith, nat_tests, without_none c xs)

pub without_at : (l n c : ℕ) (xs : List SessionState) → IdsRise l n xs → place c xs <
    length xs → without c xs ≡ take (place c xs) xs ++ drop (place c xs + 1) xs
without_at l n c [] h lt = absurd (omega arith)
without_at l n c (x ∷ xs) h lt = elim (cases_Bool (eqb x.id c)) [
  | inl e ↦ (let same = eqb-true x.id c e in let rest : without c xs ≡ xs =
      without_none c xs (rise_none (x.id + 1) n c xs h.1 (λ low high. omega (arith, same, low))) in
      grind (arith, nat_tests, common_steps))
  | inr e ↦ (let more : place c xs < length xs = grind (arith, nat_tests, common_steps) in
      let rest = without_at (x.id + 1) n c xs h.1 more in grind (arith, nat_tests, common_steps))
]

-- ids rise along the places
ids_above : (l n : ℕ) (xs : List SessionState) (d : SessionState) (i : ℕ) → IdsRise l n xs →
    i < length xs → l ≤ (get_or xs i d).id
ids_above l n [] d i h lt = absurd (omega arith)
ids_above l n (x ∷ xs) d zero h lt = h.0
ids_above l n (x ∷ xs) d (suc i) h lt = let rest =
    ids_above (x.id + 1) n xs d i h.1 (omega (arith, lt)) in omega (arith, h.0, rest)

ids_in_order : (l n : ℕ) (xs : List SessionState) (d : SessionState) (i j : ℕ) →
    IdsRise l n xs → i < j → j < length xs → (get_or xs i d).id < (get_or xs j d).id
ids_in_order l n [] d i j h lt within = absurd (omega arith)
ids_in_order l n (x ∷ xs) d i zero h lt within = absurd (omega arith)
ids_in_order l n (x ∷ xs) d zero (suc j) h lt within = let rest =
    ids_above (x.id + 1) n xs d j h.1 (omega (arith, within)) in omega (arith, rest)
ids_in_order l n (x ∷ xs) d (suc i) (suc j) h lt within =
    ids_in_order (x.id + 1) n xs d i j h.1 (omega (arith, lt)) (omega (arith, within))

-- what a binary search by the ids answers: where the session of this id stands, or that there is
-- none
module _ (l n c : ℕ) (xs : List SessionState) (rise : IdsRise l n xs) where
  answers_rise : IsNonDecreasingBy (λ (y : SessionState). ordering_index (nat_cmp y.id c)) xs
  answers_rise i j d le within =
      let no_less : (get_or xs i d).id ≤ (get_or xs j d).id =
      grind (arith, ids_in_order l n xs d i j rise, λ (same : i ≡ j). ap (λ (k : ℕ). (get_or xs k d).id) same) in
      grind (arith, nat_tests)

  pub searched : (r : Result ℕ ℕ) → IsSearchInRange r (length xs) →
      IsBinarySearchResult (λ (y : SessionState). nat_cmp y.id c) xs r →
      MatchResult r (λ i. IsAt c i xs) (λ i. find c xs ≡ None)
  searched (Ok i) within at =
      let d = new_session 0 [] in
      let here : (get_or xs i d).id ≡ c = ranked _ c _ (sym (at d)) in
      record {
        first = position_or_len_is (λ (y : SessionState). eqb y.id c) xs i d
            (omega (arith, within)) (λ k below. let less =
            ids_in_order l n xs d k i rise below within in grind (arith, nat_tests)) (λ h. eq-eqb _ _ here);
        within = within;
      }
  searched (Err i) within parted =
      let d = new_session 0 [] in
      let differs : (k : ℕ) → k < length xs → eqb (get_or xs k d).id c ≡ false = λ k lt. elim (cases_lt k i) [
        | inl below ↦ (let less : (get_or xs k d).id < c =
            ranked _ c _ (sym ((parted answers_rise).0 k d (omega arith) below)) in grind (arith, nat_tests))
        | inr above ↦ (let more : c < (get_or xs k d).id =
            ranked _ c _ (sym ((parted answers_rise).1 k d above lt)) in grind (arith, nat_tests))
      ] in
      find_none c xs (let e : place c xs ≡ length xs =
      position_or_len_is (λ (y : SessionState). eqb y.id c) xs (length xs) d (omega arith) differs
      (λ (h : length xs < length xs). absurd (omega arith)) in omega (arith, e))

-- and as the server answers it
pub place_found : (c : ℕ) (xs : List SessionState) (r : Result ℕ ℕ) →
    MatchResult r (λ i. IsAt c i xs) (λ i. find c xs ≡ None) →
    MatchResult (result_or r (Err NoSuchClient)) (λ i. IsAt c i xs)
    (λ fault. (fault ≡ NoSuchClient) × (find c xs ≡ None))
place_found c xs r h = grind arith

pub found_at : (c i : ℕ) (xs : List SessionState) (x : SessionState) → IsAt c i xs → x ≡
    get_or xs i x → find c xs ≡ Some x
found_at c i xs x h at =
    let lt : place c xs < length xs = omega (arith, h.first, h.within) in
    find_at c xs x lt ∙ ap (λ j. Some (get_or xs j x)) h.first ∙ ap (λ (y : SessionState). Some y) (sym at)

pub put_is : (c i : ℕ) (xs : List SessionState) (y : SessionState) → IsAt c i xs → y.id ≡
    c → set xs i y ≡ put y xs
put_is c i xs y h e =
    let first : place y.id xs ≡ i = ap (λ d. place d xs) e ∙ h.first in
    let lt : place y.id xs < length xs = omega (arith, first, h.within) in
    sym (put_at y xs lt ∙ ap (λ j. set xs j y) first)
