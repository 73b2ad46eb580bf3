-- What a program does by what its words ask for, over any network and any outputs.
use Rattle.std.specs.Prelude.{◌≡◌, ℕ, List, [], ◌∷◌, Option, Some, None, Result, Err}
use Rattle.std.specs.Prelude.{MatchResult}
use Rattle.std.specs.IoError.{error_kind}
use Rattle.std.specs.declared.io.Error.{Error}
use Rattle.nutrequest.specs.Fault.{fault_of}
use Rattle.nutrequest.specs.declared.faults.ClientFault.TheVariants.{BadTarget}
use Rattle.nutclient.specs.Ending.{DoesJob, EndsBy, Reports}
use Rattle.nutclient.specs.Job.{JobParts}
use Rattle.nutclient.specs.Part.{why_bad}
use Rattle.nutclient.specs.declared.engine.Shows.{Shows}
use Rattle.nutclient.specs.declared.part.BadWord.{BadWord}
use Rattle.nutclient.specs.declared.program.Program.{Program}
use Rattle.nutclient.specs.declared.target.Target.{Target}

-- The servers that are connected to for a job: its own, once.
abbrev pub targets_of : Option JobParts → List Target
targets_of None = []
targets_of (Some job) = job.0 ∷ []

-- What came of what was asked. Where no word is wrong, it is the job over the ends that connecting
-- to its server gave, or why there are none. Else it is a bad argument. Where no job begins,
-- nothing is printed.
abbrev pub Obeys : {R W O E : Type 0} → (R → Option (List ℕ)) → (R → ℕ) → (W → Option (List ℕ))
    → (W → ℕ) → (O → Option (List ℕ)) → (O → ℕ) → (E → Option (List ℕ)) → (E → ℕ)
    → (Target → Result (R × W) Error → Type 0) → Shows → Program → Option JobParts
    → O → E → ℕ → O → E → Type 0
Obeys remaining failures contents write_failures printed print_failures reported report_failures
    connects shows program None out err status then told =
    (then ≡ out) × (bad : BadWord)
    × Reports reported report_failures shows.is_explained program BadTarget (why_bad bad) err
    status told
Obeys {R} {W} remaining failures contents write_failures printed print_failures reported
    report_failures connects shows program (Some (target, requests, form)) out err status then
    told = (ends : Result (R × W) Error) × connects target ends
    × MatchResult ends
    (λ ends. (rest : List ℕ) × (after : R) × (sent : W)
    × DoesJob remaining failures contents write_failures printed print_failures reported
    report_failures shows program requests form ends.0 ends.1 out err status rest after sent then
    told)
    (λ error. (then ≡ out)
    × EndsBy reported report_failures shows.is_explained program [] []
    (Err (fault_of (error_kind error))) err status told)
