-- Flags that are gathered word by word.
use Rattle.std.proofs.Common.{ℕ, List}
use Rattle.std.specs.Prelude.{◌||◌, Result, Ok, Err, if◌then◌else◌}
use Rattle.std.specs.List.{list_all, list_any}
use Rattle.nutdriver.specs.declared.fault.DriverFault.{DriverFault}
use Rattle.nutdriver.specs.declared.fault.DriverFault.TheVariants.{BadFlag}
use Rattle.nutdriver.specs.declared.flags.Flags.{Flags}
use Rattle.nutdriver.specs.Flags.{is_rw, is_string, is_number, is_flag}

-- these flags and those of the words
abbrev pub with_flags_of : Flags → List (List ℕ) → Result Flags DriverFault
with_flags_of flags words =
    if list_all is_flag words
    then Ok (record {
      rw = flags.rw || list_any is_rw words;
      string = flags.string || list_any is_string words;
      number = flags.number || list_any is_number words;
    })
    else Err BadFlag
