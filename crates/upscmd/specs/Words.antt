-- The words that upscmd takes, and what they ask for.
use Rattle.std.specs.Prelude.{◌≡◌, List, ◌∷◌, [], Bool, Option, Some, None, true, false, codes}
use Rattle.std.specs.Prelude.{◌||◌, if◌then◌else◌, is_some, option_and_then}
use Rattle.clap.specs.Words.{Rule, Text, first_value, found_of}
use Rattle.clap.specs.declared.parser.matches.ArgMatches.{ArgMatches}
use Rattle.nutargs.specs.Words.{IsFlag, long_flag, long_option, operand, required, short_flag}
use Rattle.nutargs.specs.Words.{short_option}
use Rattle.nutclient.specs.Job.{JobParts, command_job, commands_job}

-- `upscmd -l UPS` and `upscmd -u USER -p PASS [--track] UPS CMD [VALUE]`. A password of
-- `--password-file FILE` takes the place of these two words as `-p=PASS`, so only a second file is
-- found.
abbrev pub upscmd_words : List Rule
upscmd_words =
    short_flag (codes "l") 108
    ∷ short_option (codes "u") 117 ∷ short_option (codes "p") 112
    ∷ long_option (codes "password-file")
    ∷ long_flag (codes "track") ∷ required (operand (codes "UPS"))
    ∷ operand (codes "CMD") ∷ operand (codes "VALUE") ∷ []

-- What is asked for of a UPS, by whether -l and --track are there, by what follows
-- --password-file, -u and -p, and by CMD and VALUE: nothing where the words have no form.
abbrev pub asked : (lists track : Bool) → (file user password name value : Option Text) → Text
    → Option JobParts
asked lists track (Some file) user password name value ups = None
asked true track None user password name value ups =
    if track || is_some user || is_some password || is_some name then None else commands_job ups
asked false track None (Some user) (Some password) (Some name) value ups =
    command_job track ups name value user password
asked false track None user password name value ups = None

-- The same, by what was found in the words.
abbrev pub IsAsked : ArgMatches → Option JobParts → Type 0
IsAsked found job = (lists track : Bool)
    × IsFlag found (codes "l") lists × IsFlag found (codes "track") track
    × (job ≡ option_and_then
    (asked lists track (first_value (found_of found) (codes "password-file"))
    (first_value (found_of found) (codes "u")) (first_value (found_of found) (codes "p"))
    (first_value (found_of found) (codes "CMD")) (first_value (found_of found) (codes "VALUE")))
    (first_value (found_of found) (codes "UPS")))
