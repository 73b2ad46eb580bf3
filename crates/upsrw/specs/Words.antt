-- The words that upsrw takes, and what they ask for.
use Rattle.std.specs.Prelude.{◌≡◌, List, ◌∷◌, [], Bool, Option, Some, None, false, codes}
use Rattle.std.specs.Prelude.{option_and_then}
use Rattle.clap.specs.Words.{Rule, Text, first_value, found_of}
use Rattle.clap.specs.declared.parser.matches.ArgMatches.{ArgMatches}
use Rattle.nutargs.specs.Words.{IsFlag, long_flag, long_option, operand, required, short_option}
use Rattle.nutclient.specs.Job.{JobParts, set_job, writable_job}

-- `upsrw [-s VAR=VALUE -u USER -p PASS [--track]] UPS`. A password of `--password-file FILE` takes
-- the place of these two words as `-p=PASS`, so only a second file is found.
abbrev pub upsrw_words : List Rule
upsrw_words =
    short_option (codes "s") 115
    ∷ short_option (codes "u") 117 ∷ short_option (codes "p") 112
    ∷ long_option (codes "password-file")
    ∷ long_flag (codes "track") ∷ required (operand (codes "UPS")) ∷ []

-- What is asked for of a UPS, by whether --track is there, and by what follows -s, -u, -p and
-- --password-file: nothing where the words have no form.
abbrev pub asked : Bool → (setting user password file : Option Text) → Text → Option JobParts
asked track (Some setting) (Some user) (Some password) None ups =
    set_job track ups setting user password
asked false None None None None ups = writable_job ups
asked track setting user password file ups = None

-- The same, by what was found in the words.
abbrev pub IsAsked : ArgMatches → Option JobParts → Type 0
IsAsked found job = (track : Bool) × IsFlag found (codes "track") track
    × (job ≡ option_and_then
    (asked track (first_value (found_of found) (codes "s"))
    (first_value (found_of found) (codes "u")) (first_value (found_of found) (codes "p"))
    (first_value (found_of found) (codes "password-file")))
    (first_value (found_of found) (codes "UPS")))
