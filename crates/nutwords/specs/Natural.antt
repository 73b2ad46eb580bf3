-- Natural numbers in base ten. Each has one spelling, so `00`, `+1` and the empty text are none.
use Rattle.std.specs.Prelude.{ℕ, Bool, true, false, not, nat_le, ◌==◌, ◌&&◌, ◌||◌, List, [], ◌∷◌}
use Rattle.std.specs.Prelude.{Option, Some, None, if◌then◌else◌}
use Rattle.std.specs.List.{list_all}
use Rattle.std.specs.Str.Parse.{digits_value}

-- An ASCII digit.
abbrev pub is_digit : ℕ → Bool
is_digit b = nat_le 48 b && nat_le b 57

abbrev pub is_empty : {A : Type 0} → List A → Bool
is_empty [] = true
is_empty (x ∷ xs) = false

-- There is a first byte, and it is no 0 or is the only one.
abbrev pub has_no_leading_zero : List ℕ → Bool
has_no_leading_zero [] = false
has_no_leading_zero (b ∷ bytes) = not (b == 48) || is_empty bytes

-- Digits, one at least, of which the first is 0 only where it is the only one.
abbrev pub is_natural : List ℕ → Bool
is_natural digits = list_all is_digit digits && has_no_leading_zero digits

-- The number, where it is at most this.
abbrev pub up_to : ℕ → ℕ → Option ℕ
up_to most n = if nat_le n most then Some n else None

-- The number that the text writes in base ten, where it is at most this.
abbrev pub read_natural : ℕ → List ℕ → Option ℕ
read_natural most digits = if is_natural digits then up_to most (digits_value 10 digits) else None
