-- How many binary digits a number has.
use Rattle.std.proofs.Common.{◌≡◌, ℕ, zero, suc, ◌+◌, ◌^◌, ◌≤◌, ◌<◌, Bool}
use Rattle.std.proofs.Common.{true, false, cond, nat_lt, refl, arith}
use Rattle.std.proofs.Math.Nat.{pow-suc}
use Rattle.std.proofs.Math.Pow.{pow_mono}
use Rattle.std.proofs.lemmas.Nat.{pow_pos}
use Rattle.std.proofs.lemmas.Bool.{ltb-true, ltb-false}
use Rattle.nutmap.specs.Digits.{digits, IsDigitCount}

enough_cases : (n d : ℕ) (c : Bool) → nat_lt (suc n) (2 ^ d) ≡ c → n < 2 ^ d → suc n < 2 ^ cond c d (d + 1)
enough_cases n d true s h = ltb-true (suc n) (2 ^ d) s
enough_cases n d false s h =
    let reached : 2 ^ d ≤ suc n = ltb-false (suc n) (2 ^ d) s in
    let more : d + 1 ≡ suc d = omega arith in
    let pos = pow_pos d in
    rw (more, pow-suc 2 d) (omega (arith, reached, h, pos))

digits_enough : (n : ℕ) → n < 2 ^ digits n
unfolding digits
digits_enough zero = omega arith
digits_enough (suc n) = enough_cases n (digits n) (nat_lt (suc n) (2 ^ digits n)) refl (digits_enough n)

digits_some : (n : ℕ) → 1 ≤ digits n
unfolding digits
digits_some zero = omega arith
digits_some (suc n) = some_cases (nat_lt (suc n) (2 ^ digits n)) (digits n) (digits_some n)
  where
    some_cases : (c : Bool) (d : ℕ) → 1 ≤ d → 1 ≤ cond c d (d + 1)
    some_cases true d h = h
    some_cases false d h = omega arith

-- a power that is reached has a lower exponent than one that is not
lower_power : (d e m n : ℕ) → 2 ^ d ≤ m → m ≤ n → n < 2 ^ e → d < e
lower_power d e m n reached le unreached = power_cases (nat_lt d e) refl
  where
    power_cases : (c : Bool) → nat_lt d e ≡ c → d < e
    power_cases true s = ltb-true d e s
    power_cases false s =
        let mono = pow_mono {i = e} {j = d} (ltb-false d e s) in
        absurd (omega (arith, mono, reached, le, unreached))

fewest_cases : (n d e : ℕ) (c : Bool) → nat_lt (suc n) (2 ^ d) ≡ c → d ≤ e → suc n <
    2 ^ e → cond c d (d + 1) ≤ e
fewest_cases n d e true s h u = h
fewest_cases n d e false s h u = omega
    (arith, lower_power d e (suc n) (suc n) (ltb-false (suc n) (2 ^ d) s) (omega arith) u)

digits_fewest : (n e : ℕ) → 1 ≤ e → n < 2 ^ e → digits n ≤ e
unfolding digits
digits_fewest zero e some h = some
digits_fewest (suc n) e some h = fewest_cases n (digits n) e (nat_lt (suc n) (2 ^ digits n)) refl
    (digits_fewest n e some (omega (arith, h))) h

pub digits_count : (n : ℕ) → IsDigitCount n (digits n)
digits_count n = record { some = digits_some n; enough = digits_enough n; fewest = digits_fewest n }

-- a number that reaches the power has more digits
pub lt_digits : (k n : ℕ) → 2 ^ k ≤ n → k < digits n
lt_digits k n reached = lower_power k (digits n) n n reached (omega arith) (digits_enough n)

-- the digits of a number between two powers
pub digits_between : (k n : ℕ) → 2 ^ k ≤ n → n < 2 ^ suc k → digits n ≡ suc k
digits_between k n reached unreached =
    omega (arith, lt_digits k n reached, digits_fewest n (suc k) (omega arith) unreached)
