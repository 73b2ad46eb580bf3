-- Finding sessions after a change.
use Rattle.std.proofs.Common.{◌≡◌, ◌≢◌, ◌⊎◌, ℕ, List, [], ◌∷◌, ◌++◌}
use Rattle.std.proofs.Common.{Option, Some, None, refl, arith, eqb, map, inl, inr}
use Rattle.std.proofs.lemmas.Bool.{cond_both, cases_Bool, eqb-true}
use Rattle.std.proofs.lemmas.Bool.Decides.{nat_tests}
use Rattle.nutcore.specs.Session.{SessionState, find, put, without}

-- nothing, or something
pub cases_Option : {A : Type 0} (o : Option A) → (o ≡ None) ⊎ ((x : A) × (o ≡ Some x))
cases_Option None = inl refl
cases_Option (Some x) = inr (x, refl)

-- what is found has the id
pub find_id : (c : ℕ) (xs : List SessionState) (x : SessionState) → find c xs ≡ Some x → x.id ≡ c
find_id c [] x e = cc
find_id c (y ∷ xs) x e = grind (arith, nat_tests, find_id c xs x)

pub find_put : (y : SessionState) (xs : List SessionState) (x : SessionState) → find y.id xs ≡
    Some x → find y.id (put y xs) ≡ Some y
find_put y [] x e = cc
find_put y (z ∷ xs) x e = grind (arith, nat_tests, find_put y xs x)

pub find_put_other : (c : ℕ) (y : SessionState) (xs : List SessionState) → c ≢ y.id →
    find c (put y xs) ≡ find c xs
find_put_other c y [] differ = refl
find_put_other c y (z ∷ xs) differ = grind (arith, nat_tests, find_put_other c y xs differ)

pub find_without : (c : ℕ) (xs : List SessionState) → find c (without c xs) ≡ None
find_without c [] = refl
find_without c (z ∷ xs) = grind (arith, nat_tests, find_without c xs)

pub find_without_other : (c d : ℕ) (xs : List SessionState) → c ≢ d → find c (without d xs) ≡ find c xs
find_without_other c d [] differ = refl
find_without_other c d (z ∷ xs) differ = grind (arith, nat_tests, find_without_other c d xs differ)

-- what holds of what is found, and of a new session where there is none and it has the id, holds
-- once it is pushed
pub of_pushed : (P : Option SessionState → Type 0) (c : ℕ) (y : SessionState)
    (xs : List SessionState) → P (find c xs) →
    (y.id ≡ c → find c xs ≡ None → P (Some y)) → P (find c (xs ++ y ∷ []))
of_pushed P c y [] same new = cond_both (eqb y.id c) (Some y) None P (λ e. new (eqb-true y.id c e) refl) (λ e. same)
of_pushed P c y (x ∷ xs) same new =
    elim (cases_Bool (eqb x.id c)) [
      | inl e ↦ rw e (rw e at same)
      | inr e ↦ rw e
          (of_pushed P c y xs (rw e at same) (λ its none. new its (rw e none)))
    ]

-- a session put twice
pub put_put : (y z : SessionState) (xs : List SessionState) → z.id ≡ y.id → put z (put y xs) ≡ put z xs
put_put y z [] e = refl
put_put y z (x ∷ xs) e = grind (arith, nat_tests, put_put y z xs e)

-- the session that stands there is put
pub put_found : (x : SessionState) (xs : List SessionState) → find x.id xs ≡ Some x → put x xs ≡ xs
put_found x [] e = refl
put_found x (z ∷ xs) e = grind (arith, nat_tests, put_found x xs)

-- what is seen of each, where one is put that is seen as the one before
pub mapped_put : {A : Type 0} (f : SessionState → A) (x y : SessionState) (xs : List SessionState)
    → find y.id xs ≡ Some x → f y ≡ f x → map f (put y xs) ≡ map f xs
mapped_put f x y [] found same = refl
mapped_put f x y (z ∷ xs) found same = grind (arith, nat_tests, mapped_put f x y xs)
