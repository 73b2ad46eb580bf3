-- The flags of a variable, as a driver names them.
use Rattle.std.specs.Prelude.{ℕ, Bool, false, ◌||◌, List, Result, Ok, Err, codes, if◌then◌else◌}
use Rattle.std.specs.List.{list_all, list_any}
use Rattle.nutdriver.specs.declared.fault.DriverFault.{DriverFault}
use Rattle.nutdriver.specs.declared.fault.DriverFault.TheVariants.{BadFlag}
use Rattle.nutdriver.specs.declared.flags.Flags.{Flags}
use Rattle.nutwords.specs.Spelling.{is_word}

abbrev pub is_rw : List ℕ → Bool
is_rw word = is_word word (codes "RW")

abbrev pub is_string : List ℕ → Bool
is_string word = is_word word (codes "STRING")

abbrev pub is_number : List ℕ → Bool
is_number word = is_word word (codes "NUMBER")

-- The word names a flag.
abbrev pub is_flag : List ℕ → Bool
is_flag word = is_rw word || is_string word || is_number word

-- No flag is set, as of a new variable.
abbrev pub no_flags : Flags
no_flags = record { rw = false; string = false; number = false }

-- The flag of this name.
abbrev pub flag_named : List ℕ → Flags
flag_named word = record { rw = is_rw word; string = is_string word; number = is_number word }

-- The flags of both.
abbrev pub union : Flags → Flags → Flags
union a b =
    record { rw = a.rw || b.rw; string = a.string || b.string; number = a.number || b.number }

-- Exactly the flags that the words name, where each names one. None and repeats are lawful.
abbrev pub flags_of : List (List ℕ) → Result Flags DriverFault
flags_of words =
    if list_all is_flag words
    then Ok (record {
      rw = list_any is_rw words;
      string = list_any is_string words;
      number = list_any is_number words;
    })
    else Err BadFlag
