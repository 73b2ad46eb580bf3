-- What is wrong with a line that does not read (this profile's own).
use Rattle.std.specs.Prelude.{◌≡◌, ℕ, ◌<◌, ◌+◌, List, [], ◌∷◌, ◌++◌, length, take, slice_index}
use Rattle.std.specs.Prelude.{IsTrue}
use Rattle.nutwords.specs.Bytes.{is_lawful, is_quotable, is_bare}
use Rattle.nutwords.specs.Grammar.{Units, IsBareWord, IsQuotedWord, Reads, ReadsToBoundary}
use Rattle.nutwords.specs.declared.faults.BadLine.{BadLine}
use Rattle.nutwords.specs.declared.faults.BadLine.TheVariants as bad_lines

-- A fault's number: 1 a byte that isn't lawful, 2 an open quote at the end, 3 a quote inside a bare
-- word, 4 a byte after a closing quote, 5 a lone backslash at the end.
abbrev pub number_of : BadLine → ℕ
number_of bad_lines.ControlByte = 1
number_of bad_lines.OpenQuote = 2
number_of bad_lines.QuoteInside = 3
number_of bad_lines.AfterQuote = 4
number_of bad_lines.LoneBackslash = 5

-- The bytes begin some line.
abbrev pub Begins : List ℕ → Type 0
Begins front = (rest : List ℕ) × (words : List (List ℕ)) × Reads (front ++ rest) words

-- The place is the least one such that the bytes up to and with it begin no line.
pub record IsFirstBad (line : List ℕ) (place : ℕ) : Type 0 where
  pub within : place < length line
  pub before : (p : ℕ) → p < place → Begins (take (p + 1) line)
  pub here : Begins (take (place + 1) line) → ⊥

-- The bytes are whole words, and then a part of one more word.
pub record EndsIn (IsPart : List ℕ → List ℕ → Type 0) (front : List ℕ) : Type 0 where
  pub before : List ℕ
  pub words : List (List ℕ)
  pub part : List ℕ
  pub word : List ℕ
  pub apart : ReadsToBoundary before words
  pub is_part : IsPart part word
  pub whole : front ≡ before ++ part

-- Inside a bare word: it has begun, and could end here.
abbrev pub EndsInBareWord : List ℕ → Type 0
EndsInBareWord = EndsIn IsBareWord

-- Right after a closing quote.
abbrev pub EndsInQuotedWord : List ℕ → Type 0
EndsInQuotedWord = EndsIn IsQuotedWord

-- After an opening quote that isn't closed yet.
abbrev pub EndsInOpenQuote : List ℕ → Type 0
EndsInOpenQuote =
    EndsIn (λ part word. (inside : List ℕ) × Units is_quotable inside word × (part ≡ 34 ∷ inside))

-- Right after a backslash that isn't itself escaped, in a bare word.
abbrev pub EndsInBareBackslash : List ℕ → Type 0
EndsInBareBackslash =
    EndsIn (λ part word. (units : List ℕ) × Units is_bare units word × (part ≡ units ++ 92 ∷ []))

-- The same in quotes.
abbrev pub EndsInQuotedBackslash : List ℕ → Type 0
EndsInQuotedBackslash =
    EndsIn (λ part word. (units : List ℕ) × Units is_quotable units word
    × (part ≡ 34 ∷ (units ++ 92 ∷ [])))

-- The fault of a byte that can't come after these bytes.
pub data IsByteFault (front : List ℕ) (b : ℕ) : BadLine → Type 0 where
  control : (IsTrue (is_lawful b) → ⊥) → IsByteFault front b bad_lines.ControlByte
  quote_inside : b ≡ 34 → EndsInBareWord front → IsByteFault front b bad_lines.QuoteInside
  after_quote : IsTrue (is_lawful b) → EndsInQuotedWord front →
      IsByteFault front b bad_lines.AfterQuote

-- The fault of a line of which each byte can be where it is, and that reads as no words.
pub data IsEndFault (line : List ℕ) : BadLine → Type 0 where
  bare_backslash : EndsInBareBackslash line → IsEndFault line bad_lines.LoneBackslash
  quoted_backslash : EndsInQuotedBackslash line → IsEndFault line bad_lines.LoneBackslash
  open_quote : EndsInOpenQuote line → IsEndFault line bad_lines.OpenQuote

-- The fault of a line: that of the leftmost byte that can't be where it is, else that of its end.
pub data IsFault (line : List ℕ) (fault : BadLine) : Type 0 where
  at_byte : (place : ℕ) → IsFirstBad line place
      → IsByteFault (take place line) (slice_index line place) fault → IsFault line fault
  at_end : Begins line → ((words : List (List ℕ)) → Reads line words → ⊥) → IsEndFault line fault
      → IsFault line fault
