-- Where a word needs a backslash.
use Rattle.std.proofs.Common.{◌≡◌, ℕ, zero, suc, ◌+◌, ◌*◌, ◌<◌, ◌≤◌, Bool}
use Rattle.std.proofs.Common.{true, false, cond, eqb, List, [], ◌∷◌, ◌++◌, length, take}
use Rattle.std.proofs.Common.{drop, get_or, refl, ap, arith, length-append}
use Rattle.std.specs.Prelude.{◌||◌}
use Rattle.nutwords.specs.Spelling.{with_backslashes, quoted}

-- no byte needs one
pub with_backslashes-none : (word : List ℕ) →
    ((j : ℕ) → j < length word → (eqb (get_or word j 0) 34 || eqb (get_or word j 0) 92) ≡
    true → ⊥) → with_backslashes word ≡ word
with_backslashes-none [] here = refl
with_backslashes-none (b ∷ word) here =
    elim (eqb b 34 || eqb b 92) as (λ v. (eqb b 34 || eqb b 92) ≡ v →
    cond v (92 ∷ b ∷ []) (b ∷ []) ++ with_backslashes word ≡ b ∷ word) [
      | true ↦ λ e. absurd (here 0 (omega arith) e)
      | false ↦ λ e. ap (λ t. b ∷ t) (with_backslashes-none word (λ j lt f. here (suc j) (omega arith) f))
    ] refl

-- the first byte that needs one stands at k
pub with_backslashes-at : (word : List ℕ) (k : ℕ) → k < length word →
    ((j : ℕ) → j < k → (eqb (get_or word j 0) 34 || eqb (get_or word j 0) 92) ≡ true →
    ⊥) → (eqb (get_or word k 0) 34 || eqb (get_or word k 0) 92) ≡ true →
    with_backslashes word ≡ take k word ++ 92 ∷ get_or word k 0 ∷ with_backslashes (drop (suc k) word)
with_backslashes-at [] k lt here at = absurd (omega arith)
with_backslashes-at (b ∷ word) zero lt here at = rw at refl
with_backslashes-at (b ∷ word) (suc k) lt here at =
    elim (eqb b 34 || eqb b 92) as (λ v. (eqb b 34 || eqb b 92) ≡ v →
    cond v (92 ∷ b ∷ []) (b ∷ []) ++ with_backslashes word ≡ b ∷
    (take k word ++ 92 ∷ get_or word k 0 ∷ with_backslashes (drop (suc k) word))) [
      | true ↦ λ e. absurd (here 0 (omega arith) e)
      | false ↦ λ e. ap (λ t. b ∷ t)
          (with_backslashes-at word k (omega arith) (λ j below f. here (suc j) (omega arith) f) at)
    ] refl

backslashes_by : (v : Bool) (b : ℕ) (word : List ℕ) → length (with_backslashes word) ≤
    2 * length word → length (cond v (92 ∷ b ∷ []) (b ∷ []) ++ with_backslashes word) ≤
    2 * length (b ∷ word)
backslashes_by true b word le = omega (arith, le)
backslashes_by false b word le = omega (arith, le)

-- a backslash before each byte at most
backslashes_short : (word : List ℕ) → length (with_backslashes word) ≤ 2 * length word
backslashes_short [] = omega arith
backslashes_short (b ∷ word) = backslashes_by (eqb b 34 || eqb b 92) b word (backslashes_short word)

pub quoted_short : (word : List ℕ) → length (quoted word) ≤ 2 * length word + 2
quoted_short word = omega (arith, backslashes_short word, length-append (with_backslashes word) (34 ∷ []))
