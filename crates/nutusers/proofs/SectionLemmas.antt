-- What the sections of some lines mean, a line at a time.
use Rattle.std.proofs.Common.{◌≡◌, ℕ, ◌-◌, List, [], ◌∷◌, ◌++◌, length, map}
use Rattle.std.proofs.Common.{reverse, Some, slice_set, refl, ap, ◌∙◌, arith, length-append}
use Rattle.std.specs.List.{slice_get}
use Rattle.std.proofs.Math.Seq.{set-append_seam}
use Rattle.nutusers.specs.ConfigLine.{ConfigLine, silent, malformed, section, setting, upsmon}
use Rattle.nutusers.specs.Sections.{sections, with_last_line, last_of}
use Rattle.nutusers.specs.SectionsStep.{with_last, sections_with}
use Rattle.nutusers.proofs.Progress.{reverse-cons}

-- the last of some elements and one more
last_at : {X : Type 0} (xs : List X) (x : X) → length (xs ++ x ∷ []) - 1 ≡ length xs
last_at xs x = omega (arith, length-append xs (x ∷ []))

last_of-append : {X : Type 0} (xs : List X) (x : X) → last_of (xs ++ x ∷ []) ≡ Some x
last_of-append {X = X} xs x = rw (last_at xs x) (seam xs)
  where
    seam : (ys : List X) → slice_get (ys ++ x ∷ []) (length ys) ≡ Some x
    seam [] = refl
    seam (y ∷ ys) = seam ys

slice_set-last : {X : Type 0} (xs : List X) (x y : X) →
    slice_set (xs ++ x ∷ []) (length (xs ++ x ∷ []) - 1) y ≡ xs ++ y ∷ []
slice_set-last xs x y = rw (last_at xs x) (set-append_seam xs x [] y)

-- what a section means, and what a line more makes of that
pub record MeansByLines {A : Type 0} (of : List ℕ × List ConfigLine → A) (new : List ℕ → A)
    (more : ConfigLine → A → A) : Type 0 where
  pub begins : (name : List ℕ) → of (name, []) ≡ new name
  pub goes_on : (name : List ℕ) (line : ConfigLine) (lines : List ConfigLine) →
      of (name, line ∷ lines) ≡ more line (of (name, lines))

module _ {A : Type 0} {of : List ℕ × List ConfigLine → A} {new : List ℕ → A}
    {more : ConfigLine → A → A} (m : MeansByLines of new more) where
  -- the last section has a line more
  last_section : (line : ConfigLine) (ss : List (List ℕ × List ConfigLine)) →
      reverse (map of (with_last_line line ss)) ≡
      with_last new more line (reverse (map of ss)) (last_of (reverse (map of ss)))
  last_section line [] = refl
  last_section line ((name, lines) ∷ before) =
      let last = of (name, lines) in
      let front = reverse (map of before) in
      rw (
        reverse-cons (of (name, line ∷ lines)) (map of before),
        reverse-cons last (map of before),
        last_of-append front last,
        slice_set-last front last (more line last),
        m.goes_on name line lines,
      ) refl

  -- the sections of the lines read, and of one more
  pub sections-line : (line : ConfigLine) (lines : List ConfigLine) →
      reverse (map of (sections (line ∷ lines))) ≡ sections_with new more (reverse (map of (sections lines))) line
  sections-line silent lines = refl
  sections-line malformed lines = refl
  sections-line (section name) lines = reverse-cons (of (name, [])) (map of (sections lines)) ∙
      ap (λ first. reverse (map of (sections lines)) ++ first ∷ []) (m.begins name)
  sections-line (setting key value) lines = last_section (setting key value) (sections lines)
  sections-line (upsmon role) lines = last_section (upsmon role) (sections lines)
