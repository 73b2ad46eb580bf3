-- A listing reads back as the words that it was written from.
use Rattle.std.specs.Prelude.{◌≡◌, ℕ, ◌<◌, ◌≤◌, List, [], ◌∷◌, ◌++◌, length, IsTrue, codes, map}
use Rattle.std.specs.List.{list_all, concat, AllZip}
use Rattle.nutwords.specs.Bytes.{is_lawful, is_bare}
use Rattle.nutwords.specs.Grammar.{Reads}
use Rattle.nutwords.specs.Spelling.{quoted}
use Rattle.nutwords.specs.Frame.{line_of, begin_line, frame_lines, frame}
use Rattle.nutwords.specs.SplitLine.{with_lf}
use Rattle.nutwords.specs.Lines.{IsCutInto, Unfinished}
use Rattle.nutwords.specs.declared.limits.TheConstants.{LINE_ROOM}

-- How a listing writes a word: as it is, where it is a bare word without a backslash, as a name and
-- a number are; or in quotes.
pub data IsWritten : List ℕ → List ℕ → Type 0 where
  as_it_is : {word : List ℕ} → 0 < length word → IsTrue (list_all is_bare word)
      → IsWritten word word
  in_quotes : {word : List ℕ} → IsTrue (list_all is_lawful word) → IsWritten (quoted word) word

-- The texts write these words, and with a space between them and LF they are a line of at most
-- 2,047 bytes and its LF.
pub record IsWrittenLine (texts words : List (List ℕ)) : Type 0 where
  pub written : AllZip IsWritten texts words
  pub fits : length (line_of texts) ≤ LINE_ROOM

-- The text is whole lines, and they read as these words, line by line.
abbrev pub ReadsAsLines : List ℕ → List (List (List ℕ)) → Type 0
ReadsAsLines text rows =
    (lines : List (List ℕ)) × IsCutInto text lines (Unfinished []) × AllZip Reads lines rows

-- The words of a listing of these items, asked for by these words.
abbrev pub listing_words : List (List ℕ) → List (List (List ℕ)) → List (List (List ℕ))
listing_words asked rows =
    (codes "BEGIN" ∷ codes "LIST" ∷ asked) ∷ (rows ++ (codes "END" ∷ codes "LIST" ∷ asked) ∷ [])

-- These lines, each with its LF, are the lines that a reader cuts off their text, and they read as
-- these words, line by line.
abbrev pub ReadsLineByLine : List (List ℕ) → List (List (List ℕ)) → Type 0
ReadsLineByLine wholes rows =
    (lines : List (List ℕ)) × (wholes ≡ map with_lf lines)
    × IsCutInto (concat wholes) lines (Unfinished []) × AllZip Reads lines rows

-- What a listing of these items needs to be read back: each word is written so, and each line fits.
abbrev pub IsWrittenListing : List ℕ → List (List ℕ) → List (List (List ℕ)) → List (List ℕ)
    → List (List (List ℕ)) → Type 0
IsWrittenListing kind names items asked rows =
    AllZip IsWritten (kind ∷ names) asked × (length (begin_line kind names) ≤ LINE_ROOM)
    × AllZip IsWrittenLine items rows

-- The lines of a listing are those that a reader cuts off its text, and they read as BEGIN and what
-- was asked for, the items' words in their order, END and what was asked for (RFC 9271: LIST).
abbrev pub LinesAreReadBack : Type 0
LinesAreReadBack =
    (kind : List ℕ) (names asked : List (List ℕ)) (items rows : List (List (List ℕ)))
    → IsWrittenListing kind names items asked rows
    → ReadsLineByLine (frame_lines kind names items) (listing_words asked rows)

-- So its text reads as those words.
abbrev pub ListingIsReadBack : Type 0
ListingIsReadBack =
    (kind : List ℕ) (names asked : List (List ℕ)) (items rows : List (List (List ℕ)))
    → AllZip IsWritten (kind ∷ names) asked → length (begin_line kind names) ≤ LINE_ROOM
    → AllZip IsWrittenLine items rows
    → ReadsAsLines (frame kind names items) (listing_words asked rows)

-- A text of whole lines reads as one list of words a line.
abbrev pub OneReading : Type 0
OneReading =
    (text : List ℕ) (rows others : List (List (List ℕ))) → ReadsAsLines text rows
    → ReadsAsLines text others → others ≡ rows
