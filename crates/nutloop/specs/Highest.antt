-- The first of the highest ones.
use Rattle.std.specs.Prelude.{◌≡◌, ◌<◌, ◌≤◌, ℕ, Option, Some, None}

-- The place of the first one whose rank none exceeds, of the places below a count; and none where
-- all have rank 0.
abbrev pub IsFirstHighest : (ℕ → ℕ) → ℕ → Option ℕ → Type 0
IsFirstHighest rank count (Some place) =
    (place < count) × (0 < rank place)
    × ((k : ℕ) → k < count → rank k ≤ rank place)
    × ((k : ℕ) → k < place → rank k < rank place)
IsFirstHighest rank count None = (k : ℕ) → k < count → rank k ≡ 0
