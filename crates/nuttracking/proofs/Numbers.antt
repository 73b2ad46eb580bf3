-- The number that the digits of a text say.
use Rattle.std.proofs.Common.{◌≡◌, ℕ, suc, zero, ◌+◌, ◌*◌, ◌/◌, ◌%◌}
use Rattle.std.proofs.Common.{◌^◌, ◌<◌, ◌&&◌, List, [], ◌∷◌, ◌++◌, take, drop}
use Rattle.std.proofs.Common.{Bool, true, false, true≢false, cond, arith, refl, sym, ap}
use Rattle.std.proofs.Common.{◌∙◌}
use Rattle.std.proofs.lemmas.Bool.Decides.{nat_tests}
use Rattle.std.proofs.lemmas.List.{take-append-drop, drop-drop}
use Rattle.std.proofs.lemmas.List.Elements.{filter-append}
use Rattle.std.proofs.lemmas.List.Folds.{list_all-append}
use Rattle.std.specs.Char.{digit_char, digit_value, is_ascii_hexdigit, to_ascii_lowercase}
use Rattle.std.specs.List.{filter, list_all, join_with_byte}
use Rattle.std.specs.Str.{str_to_ascii_lowercase}
use Rattle.std.specs.Str.Parse.{digits_value, digits_value_after}
use Rattle.nuttracking.specs.Id.{hyphen, groups, last_digits, id_text, digits_number}
use Rattle.nuttracking.proofs.Digits.{digits_back, digits_small}
use Rattle.std.proofs.lemmas.Bool.{and_parts}

-- ---- in lower case

same_test : (c : ℕ) → is_ascii_hexdigit (to_ascii_lowercase c) ≡ is_ascii_hexdigit c
same_test c = grind (arith, nat_tests)

same_value : (c : ℕ) → digit_value (to_ascii_lowercase c) ≡ digit_value c
same_value c = grind (arith, nat_tests)

one_byte : (b : Bool) (n c d : ℕ) (xs ys : List ℕ) → digit_value c ≡ digit_value d
    → ((m : ℕ) → digits_value_after 16 m xs ≡ digits_value_after 16 m ys)
    → digits_value_after 16 n (cond b (c ∷ xs) xs) ≡ digits_value_after 16 n (cond b (d ∷ ys) ys)
one_byte true n c d xs ys e rest = ap (λ (v : ℕ). digits_value_after 16 (n * 16 + v) xs) e ∙
    rest (n * 16 + digit_value d)
one_byte false n c d xs ys e rest = rest n

value_after_lowered : (n : ℕ) (s : List ℕ) →
    digits_value_after 16 n (filter is_ascii_hexdigit (str_to_ascii_lowercase s)) ≡
    digits_value_after 16 n (filter is_ascii_hexdigit s)
value_after_lowered n [] = refl
value_after_lowered n (c ∷ s) =
    rw (same_test c) (one_byte (is_ascii_hexdigit c) n (to_ascii_lowercase c) c
    (filter is_ascii_hexdigit (str_to_ascii_lowercase s)) (filter is_ascii_hexdigit s)
    (same_value c) (λ m. value_after_lowered m s))

pub number_lowered : (s : List ℕ) → digits_number (str_to_ascii_lowercase s) ≡ digits_number s
unfolding digits_number
number_lowered s = value_after_lowered 0 s

-- ---- of an id's text

digits_pass : (k n : ℕ) → list_all is_ascii_hexdigit (last_digits k n) ≡ true
unfolding last_digits
digits_pass zero n = refl
digits_pass (suc k) n =
    let last : is_ascii_hexdigit (digit_char (n % 16)) ≡ true = grind (arith, nat_tests) in
    list_all-append is_ascii_hexdigit (last_digits k (n / 16)) (digit_char (n % 16) ∷ []) ∙
    rw (digits_pass k (n / 16), last) refl

all_stay : (p : ℕ → Bool) (xs : List ℕ) → list_all p xs ≡ true → filter p xs ≡ xs
all_stay p [] all = refl
all_stay p (x ∷ xs) all =
    let parts = and_parts (p x) (list_all p xs) all in
    rw parts.0 (ap (λ (l : List ℕ). x ∷ l) (all_stay p xs parts.1))

halves_pass : (p : ℕ → Bool) (n : ℕ) (xs : List ℕ) → list_all p xs ≡ true →
    (list_all p (take n xs) ≡ true) × (list_all p (drop n xs) ≡ true)
halves_pass p n xs all = and_parts (list_all p (take n xs)) (list_all p (drop n xs))
    (sym (list_all-append p (take n xs) (drop n xs)) ∙ ap (list_all p) (take-append-drop n xs) ∙ all)

-- a group, a hyphen, and what is left of the digits after them
one_group : (n : ℕ) (digits rest : List ℕ) → list_all is_ascii_hexdigit digits ≡ true →
    filter is_ascii_hexdigit rest ≡ drop n digits
    → filter is_ascii_hexdigit (take n digits ++ (hyphen ∷ rest)) ≡ digits
one_group n digits rest all e =
    filter-append is_ascii_hexdigit (take n digits) (hyphen ∷ rest)
    ∙ ap (λ (l : List ℕ). l ++ filter is_ascii_hexdigit rest)
    (all_stay is_ascii_hexdigit (take n digits) (halves_pass is_ascii_hexdigit n digits all).0)
    ∙ ap (λ (l : List ℕ). take n digits ++ l) e ∙ take-append-drop n digits

groups_stay : (digits : List ℕ) → list_all is_ascii_hexdigit digits ≡ true →
    filter is_ascii_hexdigit (join_with_byte hyphen (groups digits)) ≡ digits
groups_stay digits all =
    let pass : (n : ℕ) → list_all is_ascii_hexdigit (drop n digits) ≡ true =
    λ n. (halves_pass is_ascii_hexdigit n digits all).1 in
    let last : filter is_ascii_hexdigit (drop 20 digits) ≡ drop 4 (drop 16 digits) =
    all_stay is_ascii_hexdigit (drop 20 digits) (pass 20) ∙ sym (drop-drop 4 16 digits) in
    let fourth = one_group 4 (drop 16 digits) (drop 20 digits) (pass 16) last in
    let third = one_group 4 (drop 12 digits) _ (pass 12) (fourth ∙ sym (drop-drop 4 12 digits)) in
    let second = one_group 4 (drop 8 digits) _ (pass 8) (third ∙ sym (drop-drop 4 8 digits)) in
    one_group 8 digits _ all second

text_digits : (n : ℕ) → digits_number (id_text n) ≡ digits_value 16 (last_digits 32 n)
unfolding digits_number id_text
text_digits n = ap (digits_value 16) (groups_stay (last_digits 32 n) (digits_pass 32 n))

pub text_number : (n : ℕ) → n < 16 ^ 32 → digits_number (id_text n) ≡ n
text_number n h = text_digits n ∙ digits_back 32 n h

pub text_small : (n : ℕ) → digits_number (id_text n) < 16 ^ 32
text_small n = rw (text_digits n) (digits_small 32 n)
