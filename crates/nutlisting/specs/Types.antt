-- The answer to GET TYPE (RFC 9271).
use Rattle.std.specs.Prelude.{Bool, true, false, not, ℕ, List, [], ◌∷◌, ◌++◌, codes}
use Rattle.std.specs.Fmt.{decimal}
use Rattle.nutwords.specs.Natural.{is_empty}
use Rattle.nutdriver.specs.Variable.{VariableState}

abbrev pub word_if : Bool → List ℕ → List (List ℕ)
word_if true word = word ∷ []
word_if false word = []

abbrev pub else_number : List (List ℕ) → List (List ℕ)
else_number [] = codes "NUMBER" ∷ []
else_number (word ∷ words) = word ∷ words

-- What a variable's values are (RFC 9271: GET TYPE): one of a list, a number in a range, a text of
-- so many bytes, or else a number.
abbrev pub kind_words : VariableState → List (List ℕ)
kind_words v =
    word_if (not (is_empty v.enum_values)) (codes "ENUM")
    ++ (word_if (not (is_empty v.ranges)) (codes "RANGE")
    ++ word_if v.flags.string (codes "STRING:" ++ decimal v.aux))

abbrev pub type_words : VariableState → List (List ℕ)
type_words v = word_if v.flags.rw (codes "RW") ++ else_number (kind_words v)
