-- What one more line makes of the descriptions read so far, computed. That they are those of all
-- lines is what `Descriptions::read` ensures.
use Rattle.std.specs.Prelude.{ℕ, List, codes, if◌then◌else◌}
use Rattle.std.specs.BTreeMap.{insert_entry}
use Rattle.std.specs.Str.{bytes_eq}
use Rattle.nutwords.specs.Word.{bytes_of}
use Rattle.nutusers.specs.DescriptionFile.{TableLine, silent, malformed, entry}
use Rattle.nutusers.specs.Descriptions.{Texts, Descriptions}
use Rattle.nutwords.specs.NameOrder.{byte_order}
use Rattle.nutusers.specs.declared.table_line.TableLine.{TableLine as Given}
use Rattle.nutusers.specs.declared.table_line.TableLine.TheVariants.{Silent, Malformed, Entry}

-- the line that the code has read, by the bytes of its words
abbrev pub table_line_given : Given → TableLine
table_line_given Silent = silent
table_line_given Malformed = malformed
table_line_given (Entry kind name text) = entry (bytes_of kind) (bytes_of name) (bytes_of text)

-- a text more, if the line is of this kind
abbrev pub texts_with : List ℕ → Texts → List ℕ → List ℕ → List ℕ → Texts
texts_with wanted texts kind name text =
    if bytes_eq kind wanted then insert_entry byte_order texts name text else texts

abbrev pub descriptions_with : Descriptions → TableLine → Descriptions
descriptions_with d silent = d
descriptions_with d malformed = d
descriptions_with d (entry kind name text) =
    record {
      vars = texts_with (codes "VARDESC") d.vars kind name text;
      cmds = texts_with (codes "CMDDESC") d.cmds kind name text;
    }
