-- All whole lines of some bytes, and the unfinished rest.
use Rattle.std.specs.Prelude.{◌≡◌, ℕ, Bool, List, [], ◌∷◌, ◌++◌, ◌<◌, ◌==◌, Some, length, drop}
use Rattle.std.specs.Prelude.{take_while, nat_le, nat_lt, if◌then◌else◌}
use Rattle.std.specs.List.{flat_map}
use Rattle.nutwords.specs.SplitLine.{split_line}
use Rattle.nutwords.specs.SplitLine.{with_lf}
use Rattle.nutwords.specs.Lines.{Tail, Unfinished, Overlong, IsCutInto}
use Rattle.nutwords.specs.declared.limits.TheConstants.{LINE_ROOM}

-- The bytes of these lines, each with its LF.
abbrev pub joined : List (List ℕ) → List ℕ
joined lines = flat_map with_lf lines

-- A byte more in front of the first line, where there is one.
abbrev pub in_first : ℕ → List (List ℕ) → List (List ℕ)
in_first b [] = []
in_first b (line ∷ lines) = (b ∷ line) ∷ lines

-- The lines that an LF ends.
unfoldable pub ended_lines : List ℕ → List (List ℕ)
ended_lines [] = []
ended_lines (b ∷ bytes) = if b == 10 then [] ∷ ended_lines bytes else in_first b (ended_lines bytes)

-- The line has at most 2,047 bytes.
abbrev pub is_short : List ℕ → Bool
is_short line = nat_lt (length line) LINE_ROOM

-- The whole lines of some bytes: those that an LF ends, up to one that is too long.
unfoldable pub whole_lines : List ℕ → List (List ℕ)
whole_lines bytes = take_while is_short (ended_lines bytes)

-- What is unfinished after them.
unfoldable pub unfinished_after : List ℕ → List ℕ
unfinished_after bytes = drop (length (joined (whole_lines bytes))) bytes

-- It can't become a line: there are 2,048 bytes without an LF.
abbrev pub is_too_long : List ℕ → Bool
is_too_long rest = nat_le LINE_ROOM (length rest)

-- What comes after the whole lines: what is unfinished, or what is too long.
abbrev pub tail_after : List ℕ → Tail
tail_after bytes =
    if is_too_long (unfinished_after bytes) then Overlong else Unfinished (unfinished_after bytes)

-- These are the lines and the tail into which each text is cut, and no others are.
abbrev pub WholeLinesAreTheCut : Type 0
WholeLinesAreTheCut = (bytes : List ℕ) → IsCutInto bytes (whole_lines bytes) (tail_after bytes)

-- The whole lines, each with its LF, and what is unfinished after them are all of the bytes.
abbrev pub WholeLinesAndTheRestAreAll : Type 0
WholeLinesAndTheRestAreAll =
    (bytes : List ℕ) → bytes ≡ joined (whole_lines bytes) ++ unfinished_after bytes

-- What is unfinished after the first whole line and others is what is unfinished after the others.
abbrev pub RestIsThatBehindTheFirst : Type 0
RestIsThatBehindTheFirst =
    (bytes line rest : List ℕ) → split_line bytes ≡ Some (line, rest) → length line < LINE_ROOM
    → unfinished_after bytes ≡ unfinished_after rest
