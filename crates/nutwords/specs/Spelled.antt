-- The spelling of a word in a line.
use Rattle.std.specs.Prelude.{◌≡◌, ℕ, Bool, true, false, ◌==◌, List}
use Rattle.std.specs.List.{list_any}
use Rattle.nutwords.specs.Bytes.{is_quotable}
use Rattle.nutwords.specs.Grammar.{Units, IsBareWord}
use Rattle.nutwords.specs.Split.{unescaped}
use Rattle.nutwords.specs.declared.word.Word.{Word}
use Rattle.nutwords.specs.declared.word.Word.TheVariants.{Plain, Unescaped}

-- The word that is spelled so: a backslash is left out, and the byte after it is taken as it is
-- (NUT's parseconf).
abbrev pub spelled : List ℕ → List ℕ
spelled text = unescaped text false

-- A byte of the word comes after a backslash.
abbrev pub holds_escapes : List ℕ → Bool
holds_escapes text = list_any (λ b. b == 92) text

-- The word borrows its bytes from the line.
abbrev pub is_borrowed : Word → Bool
is_borrowed (Plain bytes) = true
is_borrowed (Unescaped bytes) = false

-- A spelling inside quotes, and a bare word, stand for the word that the grammar gives them.
abbrev pub QuotedIsSpelled : Type 0
QuotedIsSpelled = (text word : List ℕ) → Units is_quotable text word → spelled text ≡ word

abbrev pub BareIsSpelled : Type 0
BareIsSpelled = (text word : List ℕ) → IsBareWord text word → spelled text ≡ word

-- A word without a backslash is as it is spelled.
abbrev pub PlainStandsForItself : Type 0
PlainStandsForItself = (text : List ℕ) → holds_escapes text ≡ false → spelled text ≡ text
