-- How the first line is cut off the lines of a whole text.
use Rattle.std.proofs.Common.{◌≡◌, ℕ, zero, suc, ◌<◌, ◌≤◌, cond, true, false, eqb}
use Rattle.std.proofs.Common.{List, [], ◌∷◌, length, take, drop, get_or, refl, ap, ◌∙◌}
use Rattle.std.proofs.Common.{arith}
use Rattle.nutwords.specs.Text.{in_first_line, lines_of}

-- a byte that isn't LF stands in the first line
lines_of-other : (x : ℕ) (xs : List ℕ) → eqb x 10 ≡ false → lines_of (x ∷ xs) ≡
    in_first_line x (lines_of xs)
lines_of-other x xs h = rw h refl

-- no LF among the bytes
pub lines_of-none : (x : ℕ) (xs : List ℕ) →
    ((j : ℕ) → j < suc (length xs) → eqb (get_or (x ∷ xs) j 0) 10 ≡ true → ⊥) →
    lines_of (x ∷ xs) ≡ (x ∷ xs) ∷ []
lines_of-none x [] here =
    elim (eqb x 10) as (λ v. eqb x 10 ≡ v → lines_of (x ∷ []) ≡ (x ∷ []) ∷ []) [
      | true ↦ λ e. absurd (here 0 (omega arith) e)
      | false ↦ λ e. lines_of-other x [] e
    ] refl
lines_of-none x (y ∷ ys) here =
    elim (eqb x 10) as (λ v. eqb x 10 ≡ v → lines_of (x ∷ y ∷ ys) ≡ (x ∷ y ∷ ys) ∷ []) [
      | true ↦ λ e. absurd (here 0 (omega arith) e)
      | false ↦ λ e. lines_of-other x (y ∷ ys) e ∙
          ap (in_first_line x) (lines_of-none y ys (λ j below f. here (suc j) (omega arith) f))
    ] refl

-- the same of bytes that aren't known to be one and others
pub lines_of-one : (xs : List ℕ) → 0 < length xs →
    ((j : ℕ) → j < length xs → eqb (get_or xs j 0) 10 ≡ true → ⊥) → lines_of xs ≡ xs ∷ []
lines_of-one [] some here = absurd (omega arith)
lines_of-one (x ∷ xs) some here = lines_of-none x xs here

-- the first LF stands at k
pub lines_of-at : (xs : List ℕ) (k : ℕ) → k < length xs →
    ((j : ℕ) → j < k → eqb (get_or xs j 0) 10 ≡ true → ⊥) → eqb (get_or xs k 0) 10 ≡
    true → lines_of xs ≡ take k xs ∷ lines_of (drop (suc k) xs)
lines_of-at [] k lt here at = absurd (omega arith)
lines_of-at (x ∷ xs) zero lt here at = rw at refl
lines_of-at (x ∷ xs) (suc k) lt here at =
    elim (eqb x 10) as (λ v. eqb x 10 ≡ v → lines_of (x ∷ xs) ≡ (x ∷ take k xs) ∷
    lines_of (drop (suc k) xs)) [
      | true ↦ λ e. absurd (here 0 (omega arith) e)
      | false ↦ λ e. lines_of-other x xs e ∙
          ap (in_first_line x) (lines_of-at xs k (omega arith) (λ j below f. here (suc j) (omega arith) f) at)
    ] refl

-- there are no more lines than bytes
pub length-lines_of : (bytes : List ℕ) → length (lines_of bytes) ≤ length bytes
length-lines_of [] = omega arith
length-lines_of (b ∷ bytes) =
    elim (eqb b 10) as (λ v. length
    (cond v ([] ∷ lines_of bytes) (in_first_line b (lines_of bytes))) ≤ suc (length bytes)) [
      | true ↦ omega (arith, length-lines_of bytes)
      | false ↦ one_more (lines_of bytes) (length-lines_of bytes)
    ]
  where
    one_more : (lines : List (List ℕ)) → length lines ≤ length bytes →
        length (in_first_line b lines) ≤ suc (length bytes)
    one_more [] h = omega arith
    one_more (line ∷ lines) h = omega (arith, h)
