-- What each form of upsrw's words asks for.
use Rattle.std.specs.Prelude.{List, ◌∷◌, [], Option, None, codes, false, true}
use Rattle.clap.specs.Words.{Text}
use Rattle.nutclient.specs.Job.{JobParts, set_job, writable_job}
use Rattle.nutclient.specs.Start.{AskFor}
use Rattle.nutclient.specs.declared.program.Program.TheVariants.{Upsrw}
use Rattle.upsrw.specs.Words.{IsAsked, upsrw_words}

-- These words after the program's name ask for this job.
abbrev pub Asks : List Text → Option JobParts → Type 0
Asks words = AskFor Upsrw upsrw_words IsAsked (codes "upsrw" ∷ words)

-- `-s a=b -u u -p p su`.
abbrev pub order_words : List Text
order_words = codes "-s" ∷ codes "a=b" ∷ codes "-u" ∷ codes "u" ∷ codes "-p" ∷ codes "p"
    ∷ codes "su" ∷ []

pub record EachFormAsksForItsJob : Type 0 where
  pub writable : Asks (codes "su" ∷ []) (writable_job (codes "su"))
  pub set : Asks order_words
      (set_job false (codes "su") (codes "a=b") (codes "u") (codes "p"))
  pub tracked_set : Asks (codes "--track" ∷ order_words)
      (set_job true (codes "su") (codes "a=b") (codes "u") (codes "p"))
  pub no_user : Asks (codes "-s" ∷ codes "a=b" ∷ codes "su" ∷ []) None
  pub no_order : Asks (codes "-u" ∷ codes "u" ∷ codes "su" ∷ []) None
  pub nothing_to_track : Asks (codes "--track" ∷ codes "su" ∷ []) None
