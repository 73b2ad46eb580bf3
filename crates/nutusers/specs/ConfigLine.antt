-- A line of a file with sections, as upsd.users(5) and ups.conf(5) have them.
use Rattle.std.specs.Prelude.{ℕ, Bool, true, false, ◌==◌, List, [], ◌∷◌, codes, Option, None, Some}
use Rattle.std.specs.Prelude.{if◌then◌else◌, length, nat_lt}
use Rattle.std.specs.Option.{option_map, option_map_or}
use Rattle.std.specs.Str.{bytes_eq}
use Rattle.std.specs.Result.{result_ok}
use Rattle.nutwords.specs.Text.{is_silent}
use Rattle.nutwords.specs.Scan.{read_line}
use Rattle.nutwords.specs.declared.limits.TheConstants.{LINE_LIMIT}
use Rattle.nutwords.specs.Word.{bytes_of}
use Rattle.nutusers.specs.declared.config_line.ConfigLine.{ConfigLine as Given}
use Rattle.nutusers.specs.declared.config_line.ConfigLine.TheVariants as config_lines

-- The words of a line that says something, unless it is too long or isn't a line of words.
abbrev pub words_in : List ℕ → Option (List (List ℕ))
words_in line = if nat_lt LINE_LIMIT (length line) then None else result_ok (read_line line)

-- silent: it says nothing. section: `[name]`. setting: `key = value`. upsmon: `upsmon role`.
pub data ConfigLine : Type 0 where
  silent : ConfigLine
  malformed : ConfigLine
  section : (name : List ℕ) → ConfigLine
  setting : (key : List ℕ) → (value : List ℕ) → ConfigLine
  upsmon : (role : List ℕ) → ConfigLine

-- It begins a section.
abbrev pub is_section : ConfigLine → Bool
is_section silent = false
is_section malformed = false
is_section (section name) = true
is_section (setting key value) = false
is_section (upsmon role) = false

-- The bytes before a closing bracket at the end.
abbrev pub before_bracket : List ℕ → Option (List ℕ)
before_bracket [] = None
before_bracket (b ∷ []) = if b == 93 then Some [] else None
before_bracket (b ∷ c ∷ rest) = option_map (λ name. b ∷ name) (before_bracket (c ∷ rest))

-- The name in brackets, `[name]`. It may be empty.
abbrev pub name_in_brackets : List ℕ → Option (List ℕ)
name_in_brackets [] = None
name_in_brackets (b ∷ rest) = if b == 91 then before_bracket rest else None

abbrev pub section_or_malformed : Option (List ℕ) → ConfigLine
section_or_malformed None = malformed
section_or_malformed (Some name) = section name

-- The line that these words are: one word a section, three a setting, two the role of a user's
-- upsmon.
abbrev pub config_line_of : List (List ℕ) → ConfigLine
config_line_of [] = malformed
config_line_of (word ∷ []) = section_or_malformed (name_in_brackets word)
config_line_of (first ∷ role ∷ []) =
    if bytes_eq first (codes "upsmon") then upsmon role else malformed
config_line_of (key ∷ equals ∷ value ∷ []) =
    if bytes_eq equals (codes "=") then setting key value else malformed
config_line_of (first ∷ second ∷ third ∷ fourth ∷ words) = malformed

-- A line of such a file, without its LF.
abbrev pub read_config_line : List ℕ → ConfigLine
read_config_line line =
    if is_silent line then silent else option_map_or config_line_of (words_in line) malformed

-- The line by the bytes of its words.
abbrev pub line_given : Given → ConfigLine
line_given config_lines.Silent = silent
line_given config_lines.Malformed = malformed
line_given (config_lines.Section name) = section (bytes_of name)
line_given (config_lines.Setting key value) = setting (bytes_of key) (bytes_of value)
line_given (config_lines.Upsmon role) = upsmon (bytes_of role)
