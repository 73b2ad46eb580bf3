-- What one more line makes of the sections read so far, computed. That they are those of all lines
-- is what the readers ensure.
use Rattle.std.specs.Prelude.{ℕ, List, [], ◌∷◌, ◌++◌, ◌-◌, length, slice_set, Option, None, Some}
use Rattle.std.specs.Prelude.{Result, Ok, Err}
use Rattle.nutusers.specs.ConfigLine.{ConfigLine, silent, malformed, section, setting, upsmon}
use Rattle.nutusers.specs.File.{verdict_of}
use Rattle.nutusers.specs.Sections.{last_of}
use Rattle.nutusers.specs.declared.fault.Cause.{Cause}

-- why the line is refused, by what was answered
abbrev pub verdict : Result (Unit {0}) Cause → Option Cause
verdict (Ok done) = None
verdict (Err cause) = verdict_of cause

-- new: what a section without lines means. more: what a line more makes of it.
module _ {A : Type 0} (new : List ℕ → A) (more : ConfigLine → A → A) where
  -- a line more in the last section
  abbrev pub with_last : ConfigLine → List A → Option A → List A
  with_last line all None = all
  with_last line all (Some last) = slice_set all (length all - 1) (more line last)

  abbrev pub sections_with : List A → ConfigLine → List A
  sections_with all silent = all
  sections_with all malformed = all
  sections_with all (section name) = all ++ new name ∷ []
  sections_with all (setting key value) = with_last (setting key value) all (last_of all)
  sections_with all (upsmon role) = with_last (upsmon role) all (last_of all)
