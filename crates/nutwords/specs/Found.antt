-- Where the next line lies in a piece.
use Rattle.std.specs.Prelude.{◌≡◌, ℕ, ◌<◌, ◌≤◌, ◌+◌, List, [], ◌∷◌, ◌++◌, length, take, drop, Some}
use Rattle.std.specs.Prelude.{None}
use Rattle.arrayvec.specs.ArrayVec.{ArrayVec}
use Rattle.nutwords.specs.SplitLine.{split_line}
use Rattle.nutwords.specs.Cut.{Cuts}
use Rattle.nutwords.specs.Lines.{Tail, Unfinished, Overlong, IsCutInto}
use Rattle.nutwords.specs.declared.limits.TheConstants.{LINE_ROOM}
use Rattle.nutwords.specs.declared.cut.Cut.TheVariants.{Line}
use Rattle.nutwords.specs.declared.cut.Found.{Found}
use Rattle.nutwords.specs.declared.cut.Found.TheVariants.{InPiece, Joined, NeedsMore, TooLong}

-- What is held, followed by the piece, has this first line, of at most 2,047 bytes, and it takes so
-- many bytes of the piece, its LF included.
abbrev pub FindsLine : List ℕ → List ℕ → List ℕ → ℕ → Type 0
FindsLine held piece line used =
    (split_line (held ++ piece) ≡ Some (line, drop used piece)) × (0 < used) × (used ≤ length piece)
    × (length line < LINE_ROOM)

-- What a cutter that holds these bytes answers to this piece, and what it holds afterwards: the
-- line is at the front of the piece, and nothing is held; or the line is what is held now; or all
-- of the piece is held, and no line is whole; or there are 2,048 bytes without LF.
abbrev pub Finds : List ℕ → List ℕ → Found → List ℕ → Type 0
Finds held piece (InPiece n) after = FindsLine held piece (take n piece) (n + 1) × (after ≡ [])
Finds held piece (Joined used) after = FindsLine held piece after used
Finds held piece NeedsMore after =
    (split_line (held ++ piece) ≡ None) × (length (held ++ piece) < LINE_ROOM)
    × (after ≡ held ++ piece)
Finds held piece TooLong after =
    (split_line (take LINE_ROOM (held ++ piece)) ≡ None) × (LINE_ROOM ≤ length (held ++ piece))
    × (after ≡ [])

-- A line that is found is what is held and a beginning of the piece that has some bytes, up to its
-- LF.
abbrev pub EachCallTakesALine : Type 0
EachCallTakesALine =
    (held piece line : List ℕ) (used : ℕ) → FindsLine held piece line used
    → (held ++ piece ≡ line ++ 10 ∷ drop used piece) × (0 < used) × (used ≤ length piece)

-- The line that a cutter gives as bytes of its own is the one that is found.
abbrev pub EachCutIsFound : Type 0
EachCutIsFound =
    (held piece after : List ℕ) (line : ArrayVec ℕ) (used : ℕ) → split_line held ≡ None
    → Cuts held piece (Line line used) after → FindsLine held piece line.items used

-- It is the first line of what is held and the piece, and the further lines are those of the rest
-- of the piece.
abbrev pub FoundLineIsFirst : Type 0
FoundLineIsFirst =
    (held piece line : List ℕ) (used : ℕ) (lines : List (List ℕ)) (tail : Tail)
    → FindsLine held piece line used → IsCutInto (drop used piece) lines tail
    → IsCutInto (held ++ piece) (line ∷ lines) tail

-- Where more is needed, what is held afterwards is the unfinished line.
abbrev pub RestIsUnfinished : Type 0
RestIsUnfinished =
    (held piece after : List ℕ) → Finds held piece NeedsMore after
    → IsCutInto (held ++ piece) [] (Unfinished after)

-- Where it is too long, there is no line.
abbrev pub RestIsOverlong : Type 0
RestIsOverlong =
    (held piece after : List ℕ) → Finds held piece TooLong after
    → IsCutInto (held ++ piece) [] Overlong
