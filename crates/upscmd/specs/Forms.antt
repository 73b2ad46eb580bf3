-- What each form of upscmd's words asks for.
use Rattle.std.specs.Prelude.{List, ◌∷◌, [], ◌++◌, Bool, Option, None, Some, codes, false, true}
use Rattle.clap.specs.Words.{Text}
use Rattle.nutclient.specs.Job.{JobParts, command_job, commands_job}
use Rattle.nutclient.specs.Start.{AskFor}
use Rattle.nutclient.specs.declared.program.Program.TheVariants.{Upscmd}
use Rattle.upscmd.specs.Words.{IsAsked, upscmd_words}

-- These words after the program's name ask for this job.
abbrev pub Asks : List Text → Option JobParts → Type 0
Asks words = AskFor Upscmd upscmd_words IsAsked (codes "upscmd" ∷ words)

-- `-u a -p b su test.battery.start`.
abbrev pub order_words : List Text
order_words = codes "-u" ∷ codes "a" ∷ codes "-p" ∷ codes "b" ∷ codes "su"
    ∷ codes "test.battery.start" ∷ []

abbrev pub job : Bool → Option Text → Option JobParts
job track value =
    command_job track (codes "su") (codes "test.battery.start") value (codes "a") (codes "b")

pub record EachFormAsksForItsJob : Type 0 where
  pub commands : Asks (codes "-l" ∷ codes "su" ∷ []) (commands_job (codes "su"))
  pub command : Asks order_words (job false None)
  pub with_value : Asks (order_words ++ codes "5" ∷ []) (job false (Some (codes "5")))
  pub tracked : Asks (codes "--track" ∷ order_words) (job true None)
  pub listed_too : Asks (codes "-l" ∷ order_words) None
  pub no_user : Asks (codes "su" ∷ codes "test.battery.start" ∷ []) None
