-- The file of descriptions (NUT's cmdvartab).
use Rattle.std.specs.Prelude.{ℕ, Bool, true, false, not, List, [], ◌∷◌, map, codes, is_some, Option}
use Rattle.std.specs.Prelude.{None, Some, if◌then◌else◌}
use Rattle.std.specs.BTreeMap.{insert_entry}
use Rattle.std.specs.Option.{option_map_or}
use Rattle.std.specs.Str.{bytes_eq}
use Rattle.nutwords.specs.Reading.{is_name}
pub use Rattle.nutusers.specs.Descriptions.{Texts, text_at, Descriptions, no_descriptions}
use Rattle.nutusers.specs.File.{Format, bad_value_unless}
use Rattle.nutwords.specs.Text.{is_silent}
use Rattle.nutusers.specs.ConfigLine.{words_in}
use Rattle.nutwords.specs.NameOrder.{byte_order}
use Rattle.nutusers.specs.Texts.{is_description}
use Rattle.nutusers.specs.declared.fault.Cause.{Cause}
use Rattle.nutusers.specs.declared.fault.Cause.TheVariants as causes

-- silent: it says nothing. entry: three words, of which the first says what is described.
pub data TableLine : Type 0 where
  silent : TableLine
  malformed : TableLine
  entry : (kind : List ℕ) → (name : List ℕ) → (text : List ℕ) → TableLine

abbrev pub table_line_of : List (List ℕ) → TableLine
table_line_of [] = malformed
table_line_of (first ∷ []) = malformed
table_line_of (first ∷ second ∷ []) = malformed
table_line_of (kind ∷ name ∷ text ∷ []) = entry kind name text
table_line_of (kind ∷ name ∷ text ∷ fourth ∷ words) = malformed

-- A line of the file, without its LF.
abbrev pub read_table_line : List ℕ → TableLine
read_table_line line =
    if is_silent line then silent else option_map_or table_line_of (words_in line) malformed

-- What the lines of a kind say: each name has its line's text. The lines are listed from the last
-- to the first.
abbrev pub texts_of : List ℕ → List TableLine → Texts
texts_of kind [] = []
texts_of kind (silent ∷ earlier) = texts_of kind earlier
texts_of kind (malformed ∷ earlier) = texts_of kind earlier
texts_of kind (entry word name text ∷ earlier) =
    if bytes_eq word kind then insert_entry byte_order (texts_of kind earlier) name text
    else texts_of kind earlier

-- The descriptions that some lines mean. The lines are listed from the last to the first.
abbrev pub descriptions_of : List (List ℕ) → Descriptions
descriptions_of lines =
    record {
      vars = texts_of (codes "VARDESC") (map read_table_line lines);
      cmds = texts_of (codes "CMDDESC") (map read_table_line lines);
    }

-- Why a text is refused beside the earlier ones of its kind.
abbrev pub text_fault : Texts → List ℕ → List ℕ → Option Cause
text_fault texts name text =
    if not (is_name name) then Some causes.BadName
    else if is_some (text_at texts name) then Some causes.Duplicate
    else bad_value_unless (is_description text)

-- Why a line is refused after lines that mean these descriptions.
abbrev pub table_line_fault : Descriptions → TableLine → Option Cause
table_line_fault descriptions silent = None
table_line_fault descriptions malformed = Some causes.Malformed
table_line_fault descriptions (entry kind name text) =
    if bytes_eq kind (codes "VARDESC") then text_fault descriptions.vars name text
    else if bytes_eq kind (codes "CMDDESC") then text_fault descriptions.cmds name text
    else Some causes.UnknownKey

abbrev pub descriptions_format : Format
descriptions_format earlier line = table_line_fault (descriptions_of earlier) (read_table_line line)

-- The lines that add a text.
abbrev pub is_entry : TableLine → Bool
is_entry silent = false
is_entry malformed = false
is_entry (entry kind name text) = true

abbrev pub adds_text : List ℕ → Bool
adds_text line = is_entry (read_table_line line)
