-- With which status a program ends, by its command line.
use Rattle.std.specs.Prelude.{◌≡◌, ◌≢◌, ◌≤◌, ℕ, List, [], Option, None, Result, MatchResult}
use Rattle.std.specs.Prelude.{unwrap_or}
use Rattle.clap.specs.Words.{App, HasMatchesOf, Rule, Text, fault_of, kind_of}
use Rattle.clap.specs.declared.error.Error.{Error}
use Rattle.clap.specs.declared.parser.matches.ArgMatches.{ArgMatches}
use Rattle.nutargs.specs.Refusal.{refusal_status}
use Rattle.nutargs.specs.Words.{AreRead, program_with}
use Rattle.nutclient.specs.Ending.{name_of}
use Rattle.nutclient.specs.Job.{JobParts}
use Rattle.nutclient.specs.declared.limits.TheConstants.{WORD_FAULT}
use Rattle.nutclient.specs.declared.program.Program.{Program}

-- What is found in a program's words asks for a job, or for none.
abbrev pub Asking : Type 1
Asking = ArgMatches → Option JobParts → Type 0

-- By what was found in the words: 2 where they ask for no job, and nowhere else.
abbrev pub EndsAsAsked : Asking → ArgMatches → ℕ → Type 0
EndsAsAsked asks found status = (job : Option JobParts) × asks found job
    × (job ≡ None → status ≡ WORD_FAULT) × (job ≢ None → status ≤ 1)

-- By why the words were refused: 1 where there was no memory.
abbrev pub EndsAsRefused : Error → ℕ → Type 0
EndsAsRefused error status = status ≡ unwrap_or (refusal_status (kind_of error)) 1

-- By the words: by what is found in them where the program takes them, and else by why it doesn't.
abbrev pub EndsByWords : Asking → App → List Text → ℕ → Type 0
EndsByWords asks app words status = (parsed : Result ArgMatches Error) × AreRead app words parsed
    × MatchResult parsed (λ found. EndsAsAsked asks found status)
    (λ error. EndsAsRefused error status)

-- The program takes these words, and what is found in them asks for this job.
abbrev pub AskFor : Program → List Rule → Asking → List Text → Option JobParts → Type 0
AskFor program rules asks words job = (fault_of (program_with (name_of program) rules) words ≡ [])
    × ((found : ArgMatches) (asked : Option JobParts)
    → HasMatchesOf (program_with (name_of program) rules) words found → asks found asked
    → asked ≡ job)
