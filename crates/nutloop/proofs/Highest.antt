-- The first of the highest ones, found place by place.
use Rattle.std.proofs.Common.{◌≡◌, ℕ, Option, Some, None}
use Rattle.nutloop.specs.Highest.{IsFirstHighest}

-- The highest rank of the places before, and the first place that has it.
abbrev pub HasRank : (ℕ → ℕ) → Option ℕ → ℕ → Type 0
HasRank rank (Some first) highest = highest ≡ rank first
HasRank rank None highest = highest ≡ 0

abbrev pub IsHighestSoFar : (ℕ → ℕ) → ℕ → Option ℕ → ℕ → Type 0
IsHighestSoFar rank place first highest = IsFirstHighest rank place first × HasRank rank first highest
