-- The digits of a number and of its bytes.
use Rattle.std.proofs.Common.{◌≡◌, ℕ, zero, suc, ◌+◌, ◌*◌, ◌/◌, ◌%◌}
use Rattle.std.proofs.Common.{◌^◌, ◌<◌, List, [], ◌∷◌, ◌++◌, length, reverse}
use Rattle.std.proofs.Common.{arith, refl, sym, ap, ◌∙◌, append_assoc}
use Rattle.std.proofs.Math.Nat.{div-div-eq-div-mul, mul_comm, pow-suc}
use Rattle.std.proofs.lemmas.Bool.Decides.{nat_tests}
use Rattle.std.proofs.lemmas.Grind.{reverse_onto}
use Rattle.std.proofs.lemmas.Int.Digits.{digits_value_push}
use Rattle.std.proofs.lemmas.Nat.{div-mul-add, mod-mul-add, div_below}
use Rattle.std.specs.Char.{digit_char, digit_value}
use Rattle.std.specs.Int.{w128, byte_at, bytes_high_first, to_be_bytes, from_be_bytes}
use Rattle.std.specs.List.{AllByRecursion}
use Rattle.std.specs.Str.Parse.{digits_value}
use Rattle.nuttracking.specs.Id.{last_digits}
use Rattle.uuid.specs.Text.{lower, simple_text, by_index, hex_digit, nibble}

-- the two digits of each byte
abbrev pub digits_of_bytes : List ℕ → List ℕ
digits_of_bytes [] = []
digits_of_bytes (b ∷ bs) = digit_char (b / 16 % 16) ∷ digit_char (b % 16) ∷ digits_of_bytes bs

digits_of_more : (xs : List ℕ) (b : ℕ) → digits_of_bytes (xs ++ b ∷ []) ≡
    digits_of_bytes xs ++ (digit_char (b / 16 % 16) ∷ digit_char (b % 16) ∷ [])
digits_of_more [] b = refl
digits_of_more (x ∷ xs) b = ap (λ (l : List ℕ). digit_char (x / 16 % 16) ∷
    digit_char (x % 16) ∷ l) (digits_of_more xs b)

-- a byte above the lowest is a byte of the number without its lowest
byte_above : (i n : ℕ) → byte_at (suc i) n ≡ byte_at i (n / 256)
byte_above zero n = refl
byte_above (suc i) n =
    let whole : n / 256 ^ suc (suc i) ≡ n / 256 / 256 ^ suc i =
    ap (λ (p : ℕ). n / p) (pow-suc 256 (suc i) ∙ mul_comm (256 ^ suc i) 256) ∙
    sym (div-div-eq-div-mul n 256 (256 ^ suc i)) in
    ap (λ (m : ℕ). m % 256) whole

bytes_more : (k n : ℕ) → bytes_high_first (suc k) n ≡ bytes_high_first k (n / 256) ++ n % 256 ∷ []
bytes_more zero n = refl
bytes_more (suc k) n = rw (byte_above k n) (ap (λ (l : List ℕ). byte_at k (n / 256) ∷ l) (bytes_more k n))

two_more : (m n : ℕ) → last_digits (suc (suc m)) n ≡ last_digits m (n / 256) ++
    (digit_char (n % 256 / 16 % 16) ∷ digit_char (n % 256 % 16) ∷ [])
unfolding last_digits
two_more m n =
    let whole : n / 16 / 16 ≡ n / 256 = omega arith in
    let high : n / 16 % 16 ≡ n % 256 / 16 % 16 = omega arith in
    let low : n % 16 ≡ n % 256 % 16 = omega arith in
    rw (whole, high, low) (append_assoc (last_digits m (n / 256))
    (digit_char (n % 256 / 16 % 16) ∷ []) (digit_char (n % 256 % 16) ∷ []))

abbrev double : ℕ → ℕ
double zero = zero
double (suc k) = suc (suc (double k))

-- the digits of a number are those of its bytes
digits_by_bytes : (k n : ℕ) → last_digits (double k) n ≡ digits_of_bytes (bytes_high_first k n)
unfolding last_digits
digits_by_bytes zero n = refl
digits_by_bytes (suc k) n =
    two_more (double k) n
    ∙ ap (λ (l : List ℕ). l ++ (digit_char (n % 256 / 16 % 16) ∷
    digit_char (n % 256 % 16) ∷ [])) (digits_by_bytes k (n / 256))
    ∙ sym (digits_of_more (bytes_high_first k (n / 256)) (n % 256)) ∙ ap digits_of_bytes (sym (bytes_more k n))

pub digit_spelled : (d : ℕ) → hex_digit lower d ≡ digit_char d
digit_spelled d = grind (arith, nat_tests)

-- and uuid's simple form is these digits
pub simple_is_digits : (n : ℕ) → simple_text lower (to_be_bytes w128 n) ≡ last_digits 32 n
unfolding by_index
simple_is_digits n =
    let spelled : by_index 32 (λ k. hex_digit lower (nibble (to_be_bytes w128 n) k)) ≡
    by_index 32 (λ k. digit_char (nibble (to_be_bytes w128 n) k)) =
    λ i. by_index 32 (λ k. digit_spelled (nibble (to_be_bytes w128 n) k) i) in
    spelled ∙ sym (digits_by_bytes 16 n)

-- the number of bytes, the lowest first
abbrev number_up : List ℕ → ℕ
number_up [] = 0
number_up (b ∷ above) = number_up above * 256 + b

bytes_back : (up : List ℕ) → AllByRecursion (λ b. b < 256) up →
    bytes_high_first (length up) (number_up up) ≡ reverse up
bytes_back [] small = refl
bytes_back (b ∷ above) small =
    let n = number_up above in
    let byte : b < 256 = small.0 in
    let up : (n * 256 + b) / 256 ≡ n = div-mul-add n 256 b byte in
    let low : (n * 256 + b) % 256 ≡ b = mod-mul-add n 256 b byte in
    bytes_more (length above) (n * 256 + b) ∙
    rw (up, low) (ap (λ (l : List ℕ). l ++ b ∷ []) (bytes_back above small.1)) ∙ sym (reverse_onto above b [])

-- sixteen bytes are those of their number
pub bytes_of_number : (f : ℕ → ℕ) → ((i : ℕ) → i < 16 → f i < 256) →
    to_be_bytes w128 (from_be_bytes w128 (by_index 16 f)) ≡ by_index 16 f
unfolding by_index
bytes_of_number f small =
    let up : List ℕ = f 15 ∷ f 14 ∷ f 13 ∷ f 12 ∷ f 11 ∷ f 10 ∷ f 9 ∷ f 8 ∷
    f 7 ∷ f 6 ∷ f 5 ∷ f 4 ∷ f 3 ∷ f 2 ∷ f 1 ∷ f 0 ∷ [] in
    let bytes : AllByRecursion (λ b. b < 256) up = (
      small 15 (omega arith),
      (
        small 14 (omega arith),
        (
          small 13 (omega arith),
          (
            small 12 (omega arith),
            (
              small 11 (omega arith),
              (
                small 10 (omega arith),
                (
                  small 9 (omega arith),
                  (
                    small 8 (omega arith),
                    (
                      small 7 (omega arith),
                      (
                        small 6 (omega arith),
                        (
                          small 5 (omega arith),
                          (
                            small 4 (omega arith),
                            (
                              small 3 (omega arith),
                              (
                                small 2 (omega arith),
                                (small 1 (omega arith), (small 0 (omega arith), tt)),
                              ),
                            ),
                          ),
                        ),
                      ),
                    ),
                  ),
                ),
              ),
            ),
          ),
        ),
      ),
    ) in
    let number : from_be_bytes w128 (by_index 16 f) ≡ number_up up = omega arith in
    ap (bytes_high_first 16) number ∙ bytes_back up bytes

-- what some digits read as has no more
pub digits_small : (k n : ℕ) → digits_value 16 (last_digits k n) < 16 ^ k
unfolding last_digits
digits_small zero n = omega arith
digits_small (suc k) n =
    let pushed = digits_value_push 16 (last_digits k (n / 16)) (digit_char (n % 16)) in
    let digit : digit_value (digit_char (n % 16)) ≡ n % 16 = grind (arith, nat_tests) in
    rw (pow-suc 16 k) (omega (arith, pushed, digit, digits_small k (n / 16)))

-- the digits of a number read as it
pub digits_back : (k n : ℕ) → n < 16 ^ k → digits_value 16 (last_digits k n) ≡ n
unfolding last_digits
digits_back zero n h = omega arith
digits_back (suc k) n h =
    let more : n < 16 ^ k * 16 = rw (← pow-suc 16 k) h in
    let up : n / 16 < 16 ^ k = div_below n 16 (16 ^ k) (omega arith) more in
    let digit : digit_value (digit_char (n % 16)) ≡ n % 16 = grind (arith, nat_tests) in
    digits_value_push 16 (last_digits k (n / 16)) (digit_char (n % 16)) ∙
    rw (digits_back k (n / 16) up, digit) (omega arith)
