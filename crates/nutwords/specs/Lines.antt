-- A text as its lines, however it is cut into pieces.
use Rattle.std.specs.Prelude.{◌≡◌, ℕ, ◌<◌, ◌≤◌, ◌↔◌, List, [], ◌∷◌, ◌++◌, length, take, drop, Some}
use Rattle.std.specs.Prelude.{None}
use Rattle.std.specs.List.{concat, flat_map}
use Rattle.arrayvec.specs.ArrayVec.{ArrayVec}
use Rattle.nutwords.specs.SplitLine.{split_line}
use Rattle.nutwords.specs.Cut.{Cuts}
use Rattle.nutwords.specs.declared.limits.TheConstants.{LINE_ROOM}
use Rattle.nutwords.specs.declared.cut.Cut.TheVariants.{Line, More, TooLong}

-- What comes after the whole lines of a text: an unfinished line, or bytes that are too long to be
-- a line.
pub data Tail : Type 0 where
  Unfinished : List ℕ → Tail
  Overlong : Tail

-- The text is these lines, each of at most 2,047 bytes and ended by LF, and then this tail: at most
-- 2,047 bytes without an LF, or 2,048 bytes without one and whatever follows them.
pub data IsCutInto : List ℕ → List (List ℕ) → Tail → Type 0 where
  line : {text rest first : List ℕ} {lines : List (List ℕ)} {tail : Tail}
      → split_line text ≡ Some (first, rest) → length first < LINE_ROOM → IsCutInto rest lines tail
      → IsCutInto text (first ∷ lines) tail
  unfinished : {text : List ℕ} → split_line text ≡ None → length text < LINE_ROOM
      → IsCutInto text [] (Unfinished text)
  overlong : {text : List ℕ} → split_line (take LINE_ROOM text) ≡ None → LINE_ROOM ≤ length text
      → IsCutInto text [] Overlong

-- A cutter that holds these bytes is handed the pieces in turn, each until it is used up. It
-- answers these lines, and in the end it holds this unfinished line, or its last answer is that the
-- bytes are too long.
pub data CutsPieces : List ℕ → List (List ℕ) → List (List ℕ) → Tail → Type 0 where
  a_line : {held piece after : List ℕ} {pieces lines : List (List ℕ)} {tail : Tail}
      (first : ArrayVec ℕ) (used : ℕ) → Cuts held piece (Line first used) after
      → CutsPieces after (drop used piece ∷ pieces) lines tail
      → CutsPieces held (piece ∷ pieces) (first.items ∷ lines) tail
  no_line_yet : {held piece after : List ℕ} {pieces lines : List (List ℕ)} {tail : Tail}
      → Cuts held piece More after → CutsPieces after pieces lines tail
      → CutsPieces held (piece ∷ pieces) lines tail
  too_long : {held piece after : List ℕ} {pieces : List (List ℕ)} → Cuts held piece TooLong after
      → CutsPieces held (piece ∷ pieces) [] Overlong
  all_used : {held : List ℕ} → CutsPieces held [] [] (Unfinished held)

-- A cutter that is new answers exactly the lines of the whole text, however the text comes in
-- pieces.
abbrev pub PiecesGiveTheLines : Type 0
PiecesGiveTheLines =
    (pieces lines : List (List ℕ)) (tail : Tail)
    → CutsPieces [] pieces lines tail ↔ IsCutInto (concat pieces) lines tail

-- So two lists of pieces with the same text give the same.
abbrev pub CutsDoNotMatter : Type 0
CutsDoNotMatter =
    (pieces others lines : List (List ℕ)) (tail : Tail) → concat others ≡ concat pieces
    → CutsPieces [] pieces lines tail → CutsPieces [] others lines tail

-- Each text has lines and a tail.
abbrev pub EachTextIsCut : Type 0
EachTextIsCut =
    (text : List ℕ) → (lines : List (List ℕ)) × (tail : Tail) × IsCutInto text lines tail

-- And it has no others.
abbrev pub OneCutting : Type 0
OneCutting =
    (text : List ℕ) (lines others : List (List ℕ)) (tail end : Tail) → IsCutInto text lines tail
    → IsCutInto text others end → (others ≡ lines) × (end ≡ tail)

-- The lines, each with its LF, and the unfinished line are all of the text.
abbrev pub NoByteIsLost : Type 0
NoByteIsLost =
    (text rest : List ℕ) (lines : List (List ℕ)) → IsCutInto text lines (Unfinished rest)
    → text ≡ flat_map (λ whole. whole ++ 10 ∷ []) lines ++ rest

-- The lines of whole lines with more after them are these lines and those of what is after.
abbrev pub LinesAreJoined : Type 0
LinesAreJoined =
    (text more : List ℕ) (lines others : List (List ℕ)) (tail : Tail)
    → IsCutInto text lines (Unfinished []) → IsCutInto more others tail
    → IsCutInto (text ++ more) (lines ++ others) tail
