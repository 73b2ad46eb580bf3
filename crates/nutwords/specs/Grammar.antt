-- The grammar of a line (RFC 9271): which words it reads as.
use Rattle.std.specs.Prelude.{◌≡◌, ℕ, ◌<◌, Bool, List, [], ◌∷◌, ◌++◌, length, IsTrue}
use Rattle.nutwords.specs.Bytes.{is_lawful, is_blank, is_quotable, is_bare}

-- The text spells the bytes of the word, one unit a byte: a byte that may stand for itself, or any
-- lawful byte after a backslash.
pub data Units (may_stand : ℕ → Bool) : List ℕ → List ℕ → Type 0 where
  none : Units may_stand [] []
  itself : {b : ℕ} {text word : List ℕ} → IsTrue (may_stand b) → Units may_stand text word
      → Units may_stand (b ∷ text) (b ∷ word)
  escaped : {b : ℕ} {text word : List ℕ} → IsTrue (is_lawful b) → Units may_stand text word
      → Units may_stand (92 ∷ b ∷ text) (b ∷ word)

-- The text is the word as a bare word: one unit or more, in which blanks don't stand for
-- themselves.
abbrev pub IsBareWord : List ℕ → List ℕ → Type 0
IsBareWord text word = Units is_bare text word × (0 < length word)

-- The text is the word in quotes: a quote, any number of units, a quote.
abbrev pub IsQuotedWord : List ℕ → List ℕ → Type 0
IsQuotedWord text word =
    (inside : List ℕ) × Units is_quotable inside word × (text ≡ 34 ∷ (inside ++ 34 ∷ []))

-- The text spells the word.
pub data Spells (text word : List ℕ) : Type 0 where
  bare : IsBareWord text word → Spells text word
  quoted : IsQuotedWord text word → Spells text word

-- What follows a word: the end of the line, or a blank.
abbrev pub WordEndsBefore : List ℕ → Type 0
WordEndsBefore [] = Unit {0}
WordEndsBefore (b ∷ line) = IsTrue (is_blank b)

-- The line reads as these words: only blanks are no words; blanks, then a word followed by the end
-- or by a blank and the rest, are that word and the words of the rest.
pub data Reads : List ℕ → List (List ℕ) → Type 0 where
  end : Reads [] []
  blank : {b : ℕ} {line : List ℕ} {words : List (List ℕ)} → IsTrue (is_blank b) → Reads line words
      → Reads (b ∷ line) words
  word : {line text rest word : List ℕ} {words : List (List ℕ)} → line ≡ text ++ rest
      → Spells text word → WordEndsBefore rest → Reads rest words → Reads line (word ∷ words)

-- The bytes read as these words, and whatever follows begins a new word: nothing, or a line and one
-- blank. (A last byte that is a blank wouldn't do: it may be escaped.)
pub data ReadsToBoundary : List ℕ → List (List ℕ) → Type 0 where
  nothing : ReadsToBoundary [] []
  before_blank : {front line : List ℕ} (b : ℕ) {words : List (List ℕ)} → Reads line words
      → IsTrue (is_blank b) → front ≡ line ++ b ∷ [] → ReadsToBoundary front words
