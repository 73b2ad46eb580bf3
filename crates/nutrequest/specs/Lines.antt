-- Some bytes as a list of lines.
use Rattle.std.specs.Prelude.{◌≡◌, ℕ, ◌<◌, List, [], ◌∷◌, ◌++◌, Some, length}
use Rattle.nutwords.specs.SplitLine.{split_line}
use Rattle.nutwords.specs.Lines.{Tail, Unfinished, Overlong}
use Rattle.nutwords.specs.WholeLines.{joined, whole_lines, unfinished_after, tail_after}
use Rattle.nutwords.specs.declared.limits.TheConstants.{LINE_ROOM}

-- A line without its LF and the bytes that follow it, or 2,048 bytes without LF.
pub data FoundLine : Type 0 where
  Line : (line rest : List ℕ) → FoundLine
  TooLong : FoundLine

-- Whole lines, each with the bytes after it. These bytes are after the last one, and so is a tail.
abbrev pub found : List (List ℕ) → Tail → List ℕ → List FoundLine
found [] (Unfinished line) rest = []
found [] Overlong rest = TooLong ∷ []
found (line ∷ more) tail rest = Line line (joined more ++ rest) ∷ found more tail rest

-- The whole lines into which nutwords cuts the bytes. After 2,048 bytes without LF no line is
-- looked for, and an unfinished last line is none.
abbrev pub lines : List ℕ → List FoundLine
lines bytes = found (whole_lines bytes) (tail_after bytes) (unfinished_after bytes)

-- The first line that nutwords cuts off is the first one, whatever follows the bytes.
abbrev pub TheFirstLineIsFound : Type 0
TheFirstLineIsFound = (bytes line rest more : List ℕ) → split_line bytes ≡ Some (line, rest)
    → length line < LINE_ROOM
    → lines (bytes ++ more) ≡ Line line (rest ++ more) ∷ lines (rest ++ more)
