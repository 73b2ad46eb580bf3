-- The descriptions that the lines mean, a line at a time.
use Rattle.std.proofs.Common.{◌≡◌, ℕ, List, ◌∷◌, map, codes, refl}
use Rattle.nutusers.specs.DescriptionFile.{TableLine, silent, malformed, entry, read_table_line}
use Rattle.nutusers.specs.DescriptionFile.{texts_of, descriptions_of}
use Rattle.nutusers.specs.DescriptionStep.{descriptions_with}

descriptions-line : (line : TableLine) (lines : List TableLine) →
    record {
      vars = texts_of (codes "VARDESC") (line ∷ lines);
      cmds = texts_of (codes "CMDDESC") (line ∷ lines);
    } ≡ descriptions_with (record {
      vars = texts_of (codes "VARDESC") lines;
      cmds = texts_of (codes "CMDDESC") lines;
    }) line
descriptions-line silent lines = refl
descriptions-line malformed lines = refl
descriptions-line (entry kind name text) lines = refl

-- the descriptions of the lines read, and of one more
pub descriptions_of-line : (line : List ℕ) (lines : List (List ℕ)) →
    descriptions_of (line ∷ lines) ≡ descriptions_with (descriptions_of lines) (read_table_line line)
descriptions_of-line line lines = descriptions-line (read_table_line line) (map read_table_line lines)
