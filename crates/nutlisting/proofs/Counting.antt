-- How many lines a text has.
use Rattle.std.proofs.Common.{◌≡◌, ℕ, ◌+◌, ◌<◌, Bool, true, false, cond, List, []}
use Rattle.std.proofs.Common.{◌∷◌, ◌++◌, ◌≤◌, length, take, drop, refl, arith, zero}
use Rattle.std.proofs.Common.{suc}
use Rattle.std.specs.Prelude.{not, count_by}
use Rattle.std.proofs.lemmas.Bool.{and_parts}
use Rattle.std.proofs.lemmas.Bool.Decides.{nat_tests}
use Rattle.std.proofs.lemmas.List.Sums.{sum_by-append, sum_by-cons}
use Rattle.nutlisting.specs.Counts.{is_lf, has_no_lf, leaves_open, is_open, lines, count_more}

pub leaves_open-append : (o : Bool) (a b : List ℕ) → leaves_open o (a ++ b) ≡ leaves_open (leaves_open o a) b
leaves_open-append o [] b = refl
leaves_open-append o (x ∷ a) b = leaves_open-append (not (is_lf x)) a b

pub lines-append : (a b : List ℕ) → is_open a ≡ false → lines (a ++ b) ≡ lines a + lines b
lines-append a b h = grind (arith, leaves_open-append false a b, sum_by-append (λ x. cond (is_lf x) 1 0) a b)

pub open-no_lf : (text : List ℕ) → has_no_lf text ≡ true → leaves_open true text ≡ true
open-no_lf [] h = refl
open-no_lf (b ∷ text) h = grind (arith, open-no_lf text)

pub count-no_lf : (text : List ℕ) → has_no_lf text ≡ true → count_by is_lf text ≡ 0
count-no_lf [] h = refl
count-no_lf (b ∷ text) h = grind (arith, sum_by-cons (λ x. cond (is_lf x) 1 0) b text, count-no_lf text)

-- a piece of a line is one line
pub lines-piece : (text : List ℕ) → 0 < length text → has_no_lf text ≡ true → lines text ≡ 1
lines-piece [] l h = absurd (omega arith)
lines-piece (b ∷ text) l h = grind (arith, open-no_lf text, count-no_lf (b ∷ text) h)

-- a line is one line, and nothing is open after it
pub whole-line : (o : Bool) (text : List ℕ) → leaves_open o (text ++ 10 ∷ []) ≡ false
whole-line o text = leaves_open-append o text (10 ∷ [])

pub lines-line : (text : List ℕ) → has_no_lf text ≡ true → lines (text ++ 10 ∷ []) ≡ 1
lines-line text h = grind (
  arith,
  sum_by-append (λ x. cond (is_lf x) 1 0) text (10 ∷ []),
  whole-line false text,
  count-no_lf text h,
)

pub count_more-add : (made m n : ℕ) → count_more (count_more made m) n ≡ count_more made (m + n)
count_more-add made m n = omega arith

pub no_lf-take : (n : ℕ) (text : List ℕ) → has_no_lf text ≡ true → has_no_lf (take n text) ≡ true
no_lf-take zero text h = refl
no_lf-take (suc n) [] h = refl
no_lf-take (suc n) (b ∷ text) h = grind (arith, no_lf-take n text)

pub no_lf-drop : (n : ℕ) (text : List ℕ) → has_no_lf text ≡ true → has_no_lf (drop n text) ≡ true
no_lf-drop zero text h = h
no_lf-drop (suc n) [] h = refl
no_lf-drop (suc n) (b ∷ text) h = no_lf-drop n text (and_parts (not (is_lf b)) (has_no_lf text) h).1

-- a text has no more lines than bytes
few_within : (o : Bool) (text : List ℕ) → count_by is_lf text +
    cond (leaves_open o text) 1 0 ≤ length text + cond o 1 0
few_within o [] = omega arith
few_within o (b ∷ text) = grind
    (arith, nat_tests, sum_by-cons (λ x. cond (is_lf x) 1 0) b text, few_within (not (is_lf b)) text)

pub lines_few : (text : List ℕ) → lines text ≤ length text
lines_few text = omega (arith, few_within false text)
