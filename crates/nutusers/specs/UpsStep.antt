-- What one more line makes of the UPSs read so far, computed.
use Rattle.std.specs.Prelude.{List, codes}
use Rattle.std.specs.Option.{option_or}
use Rattle.nutusers.specs.ConfigLine.{ConfigLine}
use Rattle.nutusers.specs.Sections.{value_of}
use Rattle.nutusers.specs.SectionsStep.{sections_with}
use Rattle.nutusers.specs.UpsList.{Ups, new_ups}

-- the UPS with a line more
abbrev pub with_ups_line : ConfigLine → Ups → Ups
with_ups_line line ups =
    record {
      name = ups.name;
      desc = option_or (value_of (codes "desc") line) ups.desc;
      socket = option_or (value_of (codes "socket") line) ups.socket;
    }

abbrev pub upses_with : List Ups → ConfigLine → List Ups
upses_with = sections_with new_ups with_ups_line
