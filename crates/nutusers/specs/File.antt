-- A file as a list of lines, and which of them is refused. The lines are those of the whole text.
use Rattle.std.specs.Prelude.{◌≡◌, ℕ, ◌+◌, Bool, true, List, [], ◌∷◌, ◌++◌, length, reverse, Option}
use Rattle.std.specs.Prelude.{None, Some, if◌then◌else◌}
use Rattle.nutusers.specs.declared.fault.Cause.{Cause}
use Rattle.nutusers.specs.declared.fault.Cause.TheVariants as causes
use Rattle.nutusers.specs.declared.fault.ConfFault.{ConfFault}

-- A cause's number.
abbrev pub number_of_cause : Cause → ℕ
number_of_cause causes.Malformed = 1
number_of_cause causes.OutsideSection = 2
number_of_cause causes.BadName = 3
number_of_cause causes.Duplicate = 4
number_of_cause causes.UnknownKey = 5
number_of_cause causes.BadValue = 6
number_of_cause causes.Memory = 7

-- What a format says of a line that follows earlier ones: why it is refused, if it is. The
-- earlier lines are listed from the last to the first, here and below.
abbrev pub Format : Type 0
Format = List (List ℕ) → List ℕ → Option Cause

-- Each of the lines, listed from the last to the first, is accepted after those before it.
abbrev pub AreAccepted : Format → List (List ℕ) → Type 0
AreAccepted format [] = Unit {0}
AreAccepted format (line ∷ earlier) = (format earlier line ≡ None) × AreAccepted format earlier

-- What the format says of a line that is refused for this cause. Memory is refused at lines that
-- the format accepts.
abbrev pub verdict_of : Cause → Option Cause
verdict_of causes.Memory = None
verdict_of cause = Some cause

-- The value that a key takes is lawful, or why not.
abbrev pub bad_value_unless : Bool → Option Cause
bad_value_unless lawful = if lawful then None else Some causes.BadValue

-- Why a setting is refused that a section has once: it is there already, or the value isn't lawful.
abbrev pub once_fault : Bool → Bool → Option Cause
once_fault is_there lawful = if is_there then Some causes.Duplicate else bad_value_unless lawful

-- The file is refused at the first line that the format refuses, and for its cause; or out of
-- memory at a line that adds something, which is accepted, as all before it are.
pub record IsRefused (format : Format) (adds : List ℕ → Bool) (lines : List (List ℕ))
    (fault : ConfFault) : Type 0 where
  pub earlier : List (List ℕ)
  pub line : List ℕ
  pub later : List (List ℕ)
  pub whole : lines ≡ reverse earlier ++ line ∷ later
  pub accepted : AreAccepted format earlier
  pub number : fault.line ≡ length earlier + 1
  pub here : format earlier line ≡ verdict_of fault.cause
  pub memory : fault.cause ≡ causes.Memory → adds line ≡ true

-- The file means this: each of its lines is accepted, and this is the meaning of them all.
pub record Means (format : Format) {A : Type 0} (meaning : List (List ℕ) → A)
    (lines : List (List ℕ)) (value : A) : Type 0 where
  pub accepted : AreAccepted format (reverse lines)
  pub value_is : value ≡ meaning (reverse lines)

-- The format of a file that is read a line at a time: why a line is refused after what the earlier
-- ones mean.
abbrev pub format_of : {A : Type 0} → (A → List ℕ → Option Cause) → (List (List ℕ) → A) → Format
format_of refusal meaning earlier line = refusal (meaning earlier) line

-- Read a line at a time, the lines come to their meaning.
pub record IsByLines {A : Type 0} (with_line : A → List ℕ → A) (none : A)
    (meaning : List (List ℕ) → A) : Type 0 where
  pub nothing : none ≡ meaning []
  pub one_more : (line : List ℕ) (earlier : List (List ℕ))
      → meaning (line ∷ earlier) ≡ with_line (meaning earlier) line
