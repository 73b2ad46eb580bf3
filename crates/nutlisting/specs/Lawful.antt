-- Which texts have only lawful bytes, and how long they may be.
use Rattle.std.specs.Prelude.{◌≡◌, ◌+◌, ◌*◌, ◌<◌, ◌≤◌, ◌^◌, ◌≤ℤ◌, neg_ℤ, pos, ℕ, ℤ, Bool, false}
use Rattle.std.specs.Prelude.{List, [], ◌∷◌, Option, Some, length, All, IsTrue, IfSome}
use Rattle.std.specs.Fmt.{decimal, signed_decimal}
use Rattle.std.specs.List.{list_all, join_with_byte, AllByRecursion, AllZip}
use Rattle.nutwords.specs.Bytes.{is_lawful}
use Rattle.nutwords.specs.Frame.{line_of}
use Rattle.nutwords.specs.Reading.{is_name, is_ups_name, is_address, is_value}
use Rattle.nutwords.specs.Spelling.{quoted}
use Rattle.nutwords.specs.Cut.{has_lf}
use Rattle.nutwords.specs.declared.limits.TheConstants.{NAME_LIMIT, UPS_NAME_LIMIT, ADDRESS_LIMIT}
use Rattle.nutwords.specs.declared.limits.TheConstants.{VALUE_LIMIT, LINE_LIMIT}
use Rattle.nutdriver.specs.Sound.{IsSoundTree, IsSoundVariable}
use Rattle.nutdriver.specs.Tree.{TreeState, variable_at}
use Rattle.nutdriver.specs.Variable.{VariableState}
use Rattle.nutdriver.specs.declared.limits.TheConstants.{NUMBER_LIMIT}
use Rattle.nutusers.specs.Texts.{is_description}
use Rattle.nutlisting.specs.Lines.{IsWholeLine}
use Rattle.nutlisting.specs.Shown.{shown, description_of, text_or_unavailable}
use Rattle.nutlisting.specs.declared.lines.TheConstants.{SHOWN_LIMIT}

-- The text has at most so many bytes, and each is lawful.
pub record IsLawfulText (most : ℕ) (text : List ℕ) : Type 0 where
  pub short : length text ≤ most
  pub lawful : IsTrue (list_all is_lawful text)

-- The most bytes that words of so many bytes take, each with one after it.
abbrev pub room : List ℕ → ℕ
room [] = 0
room (most ∷ mosts) = most + 1 + room mosts

-- So are the words of answers and of orders: names, addresses and values, what clients see of a
-- value or a description, numbers, and what is written in quotes.
pub record TextsAreLawful : Type 0 where
  pub names : (text : List ℕ) → IsTrue (is_name text) → IsLawfulText NAME_LIMIT text
  pub ups_names : (text : List ℕ) → IsTrue (is_ups_name text) → IsLawfulText UPS_NAME_LIMIT text
  pub addresses : (text : List ℕ) → IsTrue (is_address text) → IsLawfulText ADDRESS_LIMIT text
  pub values : (text : List ℕ) → IsTrue (is_value text) → IsLawfulText VALUE_LIMIT text
  pub shown : (fsd : Bool) (name : List ℕ) (variable : VariableState)
      → IsTrue (is_value variable.value)
      → IsLawfulText SHOWN_LIMIT (shown fsd name variable)
  pub described : (desc : Option (List ℕ)) → IfSome desc (λ text. IsTrue (is_description text))
      → IsLawfulText VALUE_LIMIT (description_of desc)
  pub ups_described : (desc : Option (List ℕ)) → IfSome desc (λ text. IsTrue (is_description text))
      → IsLawfulText VALUE_LIMIT (text_or_unavailable desc)
  pub decimals : (n : ℕ) → n < 2 ^ 64 → IsTrue (list_all is_lawful (decimal n))
  pub numbers : (z : ℤ) → neg_ℤ (pos NUMBER_LIMIT) ≤ℤ z → z ≤ℤ pos NUMBER_LIMIT
      → IsLawfulText 11 (signed_decimal z)
  pub quoted : (most : ℕ) (text : List ℕ) → IsLawfulText most text
      → IsLawfulText (2 * most + 2) (quoted text)

-- A text of lawful bytes has no LF, nor have words with a blank between them. As a line these are a
-- whole one, where they are short enough.
pub record LawfulWordsAreALine : Type 0 where
  pub no_lf : (text : List ℕ) → IsTrue (list_all is_lawful text) → has_lf text ≡ false
  pub joined : (words : List (List ℕ))
      → AllByRecursion (λ word. IsTrue (list_all is_lawful word)) words
      → has_lf (join_with_byte 32 words) ≡ false
  pub whole : (mosts : List ℕ) (words : List (List ℕ)) → AllZip IsLawfulText mosts words
      → room mosts ≤ LINE_LIMIT
      → IsWholeLine (line_of words)

-- The entry of a sound tree: its name is lawful, and its variable sound.
abbrev pub IsSoundEntry : List ℕ × VariableState → Type 0
IsSoundEntry entry = IsTrue (is_name entry.0) × IsSoundVariable entry.1

-- So is each of its entries, and each variable that is found in it.
pub record SoundTreesHaveSoundEntries : Type 0 where
  pub entries : (tree : TreeState) → IsSoundTree tree → All IsSoundEntry tree.variables
  pub found : (tree : TreeState) (name : List ℕ) (variable : VariableState) → IsSoundTree tree
      → variable_at tree name ≡ Some variable → IsSoundVariable variable
