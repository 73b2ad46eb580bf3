-- The lines of files and scripts.
use Rattle.std.specs.Prelude.{ℕ, Bool, true, not, find, ◌==◌, List, [], ◌∷◌, Option, if◌then◌else◌}
use Rattle.std.specs.Option.{option_map_or}
use Rattle.nutwords.specs.Bytes.{is_blank}

-- A byte more in front of the first line.
abbrev pub in_first_line : ℕ → List (List ℕ) → List (List ℕ)
in_first_line b [] = (b ∷ []) ∷ []
in_first_line b (line ∷ lines) = (b ∷ line) ∷ lines

-- The lines of a whole text, each ended by LF, the last one with or without it.
abbrev pub lines_of : List ℕ → List (List ℕ)
lines_of [] = []
lines_of (b ∷ bytes) = if b == 10 then [] ∷ lines_of bytes else in_first_line b (lines_of bytes)

-- The first byte that isn't a blank.
abbrev pub first_mark : List ℕ → Option ℕ
first_mark line = find (λ b. not (is_blank b)) line

-- The line says nothing: it is empty or blank, or a comment, whose first byte that isn't a blank is
-- `#`.
abbrev pub is_silent : List ℕ → Bool
is_silent line = option_map_or (λ b. b == 35) (first_mark line) true
