-- Numbers from their digits.
use Rattle.std.proofs.Common.{◌≡◌, ℕ, ◌+◌, ◌-◌, ◌*◌, ◌<◌, ◌≤◌}
use Rattle.std.proofs.Common.{◌∙◌, List, [], ◌∷◌, Some, None, Bool, true, false, sym}
use Rattle.std.proofs.Common.{ap, refl, arith, length, drop, get_or}
use Rattle.std.specs.Prelude.{◌&&◌, if◌then◌else◌}
use Rattle.std.proofs.lemmas.Grind.{common_steps}
use Rattle.std.proofs.lemmas.Bool.Decides.{nat_tests}
use Rattle.std.specs.List.{list_all}
use Rattle.std.proofs.lemmas.List.{drop_more}
use Rattle.std.proofs.lemmas.List.Folds.{list_all_at}
use Rattle.std.specs.Char.{digit_value}
use Rattle.std.specs.Str.Parse.{digits_value, digits_value_after}
use Rattle.nutwords.specs.Natural.{is_digit, is_natural, has_no_leading_zero, up_to}
use Rattle.std.proofs.lemmas.Bool.{and_from, and_parts}

-- more digits make no smaller number
digits_value_after-least : (n : ℕ) (ds : List ℕ) → n ≤ digits_value_after 10 n ds
digits_value_after-least n [] = omega arith
digits_value_after-least n (d ∷ ds) =
    let h : n * 10 + digit_value d ≤ digits_value_after 10 (n * 10 + digit_value d) ds =
    digits_value_after-least (n * 10 + digit_value d) ds in
    omega (arith, h)

digit_value-digit : (d : ℕ) → is_digit d ≡ true → digit_value d ≡ d - 48
digit_value-digit d h = grind (arith, nat_tests, common_steps, h)

pub all_digits : (ds : List ℕ) → is_natural ds ≡ true → list_all is_digit ds ≡ true
all_digits ds h = (and_parts (list_all is_digit ds) (has_no_leading_zero ds) h).0

pub digit_at : (ds : List ℕ) (i : ℕ) → list_all is_digit ds ≡ true → i < length ds →
    is_digit (get_or ds i 0) ≡ true
digit_at ds i h k = grind (arith, common_steps, list_all_at, h, k)

-- a number past the most stays past it
pub up_to-missed : (most m n : ℕ) → m ≤ n → None ≡ up_to most m → None ≡ up_to most n
up_to-missed most m n h e = grind (arith, nat_tests, common_steps, e, h)

up_to-value : (most n v : ℕ) → Some v ≡ up_to most n → v ≡ n
up_to-value most n v e = grind (arith, nat_tests, common_steps, e)

-- the number up to a digit is no greater than the whole
pub past_digit : (v : ℕ) (ds : List ℕ) (i : ℕ) → list_all is_digit ds ≡ true → i <
    length ds → digits_value_after 10 v (drop i ds) ≡ digits_value 10 ds → v * 10 +
    (get_or ds i 0 - 48) ≤ digits_value 10 ds
past_digit v ds i all within e =
    let d : ℕ = get_or ds i 0 in
    let split : drop i ds ≡ d ∷ drop (i + 1) ds = drop_more ds i 0 within in
    let least : v * 10 + digit_value d ≤
    digits_value_after 10 (v * 10 + digit_value d) (drop (i + 1) ds) =
    digits_value_after-least (v * 10 + digit_value d) (drop (i + 1) ds) in
    let same : digits_value_after 10 v (drop i ds) ≡
    digits_value_after 10 (v * 10 + digit_value d) (drop (i + 1) ds) = ap (λ xs. digits_value_after 10 v xs) split in
    let digit : digit_value d ≡ d - 48 = digit_value-digit d (digit_at ds i all within) in
    omega (arith, least, same, e, digit)

-- one digit more
pub with_next : (most v next : ℕ) (ds : List ℕ) (i : ℕ) → list_all is_digit ds ≡ true →
    i < length ds → Some next ≡ up_to most (v * 10 + (get_or ds i 0 - 48)) →
    digits_value_after 10 v (drop i ds) ≡ digits_value 10 ds →
    digits_value_after 10 next (drop (i + 1) ds) ≡ digits_value 10 ds
with_next most v next ds i all within n e =
    let d : ℕ = get_or ds i 0 in
    let split : drop i ds ≡ d ∷ drop (i + 1) ds = drop_more ds i 0 within in
    let digit : digit_value d ≡ d - 48 = digit_value-digit d (digit_at ds i all within) in
    let is : next ≡ v * 10 + digit_value d = rw digit (up_to-value most _ _ n) in
    ap (λ m. digits_value_after 10 m (drop (i + 1) ds)) is ∙ sym (ap (λ xs. digits_value_after 10 v xs) split) ∙ e

pub no_natural : (most n : ℕ) (is : Bool) → None ≡ up_to most n → None ≡ (if is then up_to most n else None)
no_natural most n true e = e
no_natural most n false e = refl

pub natural_of : (ds : List ℕ) → list_all is_digit ds ≡ true → 48 < get_or ds 0 0 → is_natural ds ≡ true
natural_of [] all first = absurd (omega (arith, first))
natural_of (d ∷ ds) all first = and_from (list_all is_digit (d ∷ ds)) _ all (grind (arith, nat_tests))
