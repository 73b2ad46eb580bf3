use Rattle.std.proofs.Common.{refl}
use Rattle.nutusers.specs.DescriptionFile.{read_table_line, descriptions_of}
use Rattle.nutusers.specs.DescriptionStep.{descriptions_with}
use Rattle.nutusers.specs.Descriptions.{no_descriptions}
use Rattle.nutusers.specs.File.{IsByLines}
use Rattle.nutusers.proofs.DescriptionLemmas.{descriptions_of-line}
use Rattle.nutusers.proofs.descriptions.Descriptions.read.Goals as goal

by_lines : IsByLines (λ descriptions line. descriptions_with descriptions (read_table_line line))
    no_descriptions descriptions_of
by_lines = record { nothing = refl; one_more = descriptions_of-line }

pub returns-clause-ok : goal.returns-clause-ok
returns-clause-ok c = c.read_lines.ensures.ok descriptions_of (rw c.none.ensures by_lines)

pub returns-clause-err : goal.returns-clause-err
returns-clause-err c = c.read_lines.ensures.err descriptions_of (rw c.none.ensures by_lines)
