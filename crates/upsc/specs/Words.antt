-- The words that upsc takes, and what they ask for.
use Rattle.std.specs.Prelude.{◌≡◌, ◌+◌, ℕ, List, ◌∷◌, [], Bool, Option, Some, None, true, false}
use Rattle.std.specs.Prelude.{codes, if◌then◌else◌, is_some, nat_lt, option_and_then}
use Rattle.clap.specs.Words.{Rule, Text, first_value, found_of}
use Rattle.clap.specs.declared.parser.matches.ArgMatches.{ArgMatches}
use Rattle.nutargs.specs.Words.{IsFlag, long_flag, long_option, operand, short_flag}
use Rattle.nutclient.specs.Job.{JobParts, attached_job, clients_job, descriptions_job, tracked_job}
use Rattle.nutclient.specs.Job.{upses_job, variable_job, variables_job}

-- `upsc [-l | -L | -c | --attached | --tracked ID] [UPS|HOST] [VAR]`.
abbrev pub upsc_words : List Rule
upsc_words =
    short_flag (codes "l") 108
    ∷ short_flag (codes "L") 76 ∷ short_flag (codes "c") 99
    ∷ long_flag (codes "attached")
    ∷ long_option (codes "tracked")
    ∷ operand (codes "UPS") ∷ operand (codes "VAR") ∷ []

abbrev pub number : Bool → ℕ
number true = 1
number false = 0

-- What is asked for of a UPS, by -c and --attached, by what follows --tracked, and by VAR.
abbrev pub asked_of : (c attached : Bool) → (id name : Option Text) → Text → Option JobParts
asked_of true attached id name ups = clients_job ups
asked_of false true id name ups = attached_job ups
asked_of false false (Some id) name ups = tracked_job ups id
asked_of false false None (Some name) ups = variable_job ups name
asked_of false false None None ups = variables_job ups

abbrev pub asked_by : (l L c attached : Bool) → (id name server : Option Text) → Option JobParts
asked_by true L c attached id name server = upses_job server
asked_by false true c attached id name server = descriptions_job server
asked_by false false c attached id name server =
    option_and_then (asked_of c attached id name) server

-- At most one of these chooses what is asked for.
abbrev pub asked : (l L c attached : Bool) → (id name server : Option Text) → Option JobParts
asked l L c attached id name server =
    if nat_lt 1 ((number l + number L + number c)
    + (number attached + number (is_some id) + number (is_some name)))
    then None
    else asked_by l L c attached id name server

-- The same, by what was found in the words.
abbrev pub IsAsked : ArgMatches → Option JobParts → Type 0
IsAsked found job = (l L c attached : Bool)
    × IsFlag found (codes "l") l × IsFlag found (codes "L") L × IsFlag found (codes "c") c
    × IsFlag found (codes "attached") attached
    × (job ≡ asked l L c attached (first_value (found_of found) (codes "tracked"))
    (first_value (found_of found) (codes "VAR")) (first_value (found_of found) (codes "UPS")))
