-- The shape of an answer (RFC 9271): one line, or one listing from its line BEGIN to its line END.
use Rattle.std.specs.Prelude.{◌≡◌, ℕ, Bool, true, false, List, ◌++◌, All, codes, nat_eq}
use Rattle.std.specs.List.{concat, starts_with}
use Rattle.nutwords.specs.Cut.{has_lf}
use Rattle.nutwords.specs.SplitLine.{with_lf}

-- The line is the first of a listing; it is the last of one.
abbrev pub begins_listing : List ℕ → Bool
begins_listing line = starts_with nat_eq line (codes "BEGIN LIST ")

abbrev pub ends_listing : List ℕ → Bool
ends_listing line = starts_with nat_eq line (codes "END LIST ")

-- The text is lines up to the first that ends a listing, each with its LF.
pub data GoesToEnd : List ℕ → Type 0 where
  ends : (line : List ℕ) → has_lf line ≡ false → ends_listing line ≡ true
      → GoesToEnd (with_lf line)
  goes_on : (line text : List ℕ) → has_lf line ≡ false → ends_listing line ≡ false
      → GoesToEnd text → GoesToEnd (with_lf line ++ text)

-- The text has the shape of an answer: one line that begins no listing, or a line that begins one,
-- and the lines up to the first that ends one.
pub data IsAnswer : List ℕ → Type 0 where
  one_line : (line : List ℕ) → has_lf line ≡ false → begins_listing line ≡ false
      → IsAnswer (with_lf line)
  listing : (line text : List ℕ) → has_lf line ≡ false → begins_listing line ≡ true
      → GoesToEnd text → IsAnswer (with_lf line ++ text)

-- The first answers of a text of answers are the first of those answers, and what comes after them
-- is the others.
abbrev pub FirstAnswersAreTheFirst : Type 0
FirstAnswersAreTheFirst =
    (answers firsts : List (List ℕ)) (rest : List ℕ) → All IsAnswer answers → All IsAnswer firsts
    → concat firsts ++ rest ≡ concat answers
    → (others : List (List ℕ)) × (firsts ++ others ≡ answers) × (rest ≡ concat others)

-- So a text is the join of one list of answers at most.
abbrev pub AnswersAreCutInOneWay : Type 0
AnswersAreCutInOneWay =
    (answers others : List (List ℕ)) → All IsAnswer answers → All IsAnswer others
    → concat others ≡ concat answers → others ≡ answers
