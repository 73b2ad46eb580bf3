-- The lines of an answer.
use Rattle.std.specs.Prelude.{◌≡◌, ℕ, ◌≤◌, List, [], ◌∷◌, ◌++◌, length, IsTrue, ◌==◌, codes}
use Rattle.std.specs.Prelude.{if◌then◌else◌}
use Rattle.std.specs.List.{list_all, flat_map, AllByRecursion}
use Rattle.std.specs.Fmt.{decimal}
use Rattle.nutwords.specs.Bytes.{is_lawful}
use Rattle.nutwords.specs.declared.limits.TheConstants.{LINE_LIMIT}
use Rattle.nuttracking.specs.Id.{id_text}
use Rattle.nuttracking.specs.declared.order.Progress.{Progress}
use Rattle.nuttracking.specs.declared.order.Progress.TheVariants.{Pending, Done}

-- Words after others, with a blank before each.
abbrev pub spaced : List (List ℕ) → List ℕ
spaced [] = []
spaced (word ∷ words) = 32 ∷ (word ++ spaced words)

-- A line of an answer, without its LF: at most 2,047 bytes, each of them lawful.
pub record IsAnswerLine (line : List ℕ) : Type 0 where
  pub fits : length line ≤ LINE_LIMIT
  pub lawful : IsTrue (list_all is_lawful line)

-- The text is one such line with its LF.
pub record IsWholeLine (text : List ℕ) : Type 0 where
  pub line : List ℕ
  pub whole : text ≡ line ++ 10 ∷ []
  pub answer : IsAnswerLine line

-- The text is such lines, each with its LF.
pub record AreLines (text : List ℕ) : Type 0 where
  pub lines : List (List ℕ)
  pub each : AllByRecursion IsAnswerLine lines
  pub whole : text ≡ flat_map (λ line. line ++ 10 ∷ []) lines

-- How far it has come: it is done with 0 where it succeeded, else with how it failed.
abbrev pub progress_words : Progress → List (List ℕ)
progress_words Pending = codes "PENDING" ∷ []
progress_words (Done number) =
    if number == 0 then codes "SUCCESS" ∷ [] else codes "FAILED" ∷ decimal number ∷ []

-- An id as it is written is 36 lawful bytes.
pub record IdsAreLawful : Type 0 where
  pub long : (id : ℕ) → length (id_text id) ≡ 36
  pub lawful : (id : ℕ) → IsTrue (list_all is_lawful (id_text id))
