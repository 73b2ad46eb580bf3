-- What each form of upsc's words asks for.
use Rattle.std.specs.Prelude.{List, ◌∷◌, [], Option, None, Some, codes}
use Rattle.clap.specs.Words.{Text}
use Rattle.nutclient.specs.Job.{JobParts, attached_job, clients_job, descriptions_job, tracked_job}
use Rattle.nutclient.specs.Job.{upses_job, variable_job, variables_job}
use Rattle.nutclient.specs.Start.{AskFor}
use Rattle.nutclient.specs.declared.program.Program.TheVariants.{Upsc}
use Rattle.upsc.specs.Words.{IsAsked, upsc_words}

-- These words after the program's name ask for this job.
abbrev pub Asks : List Text → Option JobParts → Type 0
Asks words = AskFor Upsc upsc_words IsAsked (codes "upsc" ∷ words)

abbrev pub an_id : Text
an_id = codes "1bd31808-cb49-4aec-9d75-d056e6f018d2"

pub record EachFormAsksForItsJob : Type 0 where
  pub variables : Asks (codes "su" ∷ []) (variables_job (codes "su"))
  pub variable : Asks (codes "su@host:3494" ∷ codes "ups.status" ∷ [])
      (variable_job (codes "su@host:3494") (codes "ups.status"))
  pub upses : Asks (codes "-l" ∷ codes "host" ∷ []) (upses_job (Some (codes "host")))
  pub local_upses : Asks (codes "-l" ∷ []) (upses_job None)
  pub descriptions : Asks (codes "-L" ∷ codes "host" ∷ [])
      (descriptions_job (Some (codes "host")))
  pub clients : Asks (codes "-c" ∷ codes "su" ∷ []) (clients_job (codes "su"))
  pub attached : Asks (codes "--attached" ∷ codes "su" ∷ []) (attached_job (codes "su"))
  pub tracked : Asks (codes "--tracked" ∷ an_id ∷ codes "su" ∷ [])
      (tracked_job (codes "su") an_id)
  pub two_forms : Asks (codes "-l" ∷ codes "-c" ∷ codes "su" ∷ []) None
  pub no_ups : Asks (codes "-c" ∷ []) None
