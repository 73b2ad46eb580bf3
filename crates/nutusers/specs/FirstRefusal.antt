-- A file is refused at its first bad line.
use Rattle.std.specs.Prelude.{◌≡◌, ◌≢◌, ℕ, ◌+◌, Bool, List, [], ◌∷◌, length, reverse, Option, None}
use Rattle.std.specs.Prelude.{Some}
use Rattle.nutusers.specs.File.{Format, AreAccepted, IsRefused}
use Rattle.nutusers.specs.declared.fault.Cause.{Cause}
use Rattle.nutusers.specs.declared.fault.Cause.TheVariants.{Memory}
use Rattle.nutusers.specs.declared.fault.ConfFault.{ConfFault}

-- the line of this number is refused, or else what follows it decides
abbrev pub refusal_or : ℕ → Option Cause → Option ConfFault → Option ConfFault
refusal_or number None rest = rest
refusal_or number (Some cause) rest = Some (record { line = number; cause = cause })

abbrev pub refusal_after : Format → List (List ℕ) → List (List ℕ) → Option ConfFault
refusal_after format earlier [] = None
refusal_after format earlier (line ∷ later) =
    refusal_or (length earlier + 1) (format earlier line)
    (refusal_after format (line ∷ earlier) later)

-- The first line that is refused, and its cause.
abbrev pub first_refusal : Format → List (List ℕ) → Option ConfFault
first_refusal format lines = refusal_after format [] lines

-- A file of which each line is accepted has no refusal, and one that is refused, except for being
-- out of memory, has this one.
pub record HasOneRefusal (format : Format) (adds : List ℕ → Bool)
    (lines : List (List ℕ)) : Type 0 where
  pub accepted : AreAccepted format (reverse lines) → first_refusal format lines ≡ None
  pub refused : (fault : ConfFault) → IsRefused format adds lines fault → fault.cause ≢ Memory
      → first_refusal format lines ≡ Some fault

abbrev pub EachFileHasOneRefusal : Type 0
EachFileHasOneRefusal =
    (format : Format) (adds : List ℕ → Bool) (lines : List (List ℕ))
    → HasOneRefusal format adds lines
