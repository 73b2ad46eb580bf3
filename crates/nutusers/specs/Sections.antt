-- The sections of a file, and their lines.
use Rattle.std.specs.Prelude.{ℕ, ◌-◌, List, [], ◌∷◌, length, slice_get, Option, None, Some}
use Rattle.std.specs.Prelude.{if◌then◌else◌}
use Rattle.std.specs.Option.{option_or}
use Rattle.std.specs.Str.{bytes_eq}
use Rattle.nutusers.specs.ConfigLine.{ConfigLine, silent, malformed, section, setting, upsmon}
use Rattle.nutusers.specs.declared.fault.Cause.{Cause}
use Rattle.nutusers.specs.declared.fault.Cause.TheVariants.{OutsideSection}

-- A line more in the last section, if there is one.
abbrev pub with_last_line : ConfigLine → List (List ℕ × List ConfigLine)
    → List (List ℕ × List ConfigLine)
with_last_line line [] = []
with_last_line line ((name, lines) ∷ before) = (name, line ∷ lines) ∷ before

-- The sections of some lines, by name, each with its lines: a line belongs to the last section line
-- before it. All are listed from the last to the first.
abbrev pub sections : List ConfigLine → List (List ℕ × List ConfigLine)
sections [] = []
sections (section name ∷ earlier) = (name, []) ∷ sections earlier
sections (silent ∷ earlier) = sections earlier
sections (malformed ∷ earlier) = sections earlier
sections (setting key value ∷ earlier) = with_last_line (setting key value) (sections earlier)
sections (upsmon role ∷ earlier) = with_last_line (upsmon role) (sections earlier)

-- What a line sets the key to, if it is `key = value`.
abbrev pub value_of : List ℕ → ConfigLine → Option (List ℕ)
value_of wanted silent = None
value_of wanted malformed = None
value_of wanted (section name) = None
value_of wanted (setting key value) = if bytes_eq key wanted then Some value else None
value_of wanted (upsmon role) = None

-- What the lines set the key to. (A second value is refused.)
abbrev pub value_in : List ℕ → List ConfigLine → Option (List ℕ)
value_in key [] = None
value_in key (line ∷ earlier) = option_or (value_of key line) (value_in key earlier)

module _ {A : Type 0} where
  -- What the last section means, of what all of them do.
  abbrev pub last_of : List A → Option A
  last_of all = slice_get all (length all - 1)

  -- Why a line is refused that belongs into a section.
  abbrev pub in_section : (A → Option Cause) → Option A → Option Cause
  in_section fault None = Some OutsideSection
  in_section fault (Some last) = fault last
