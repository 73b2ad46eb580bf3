-- What reading files gives.
use Rattle.std.specs.Prelude.{◌≡◌, ℕ, ℤ, ◌+◌, ◌==◌, ⊤, List, [], ◌∷◌, Option, Some, Result, Err}
use Rattle.std.specs.Prelude.{if◌then◌else◌, take}
use Rattle.std.specs.declared.io.ErrorKind.{ErrorKind}
use Rattle.std.specs.declared.io.ErrorKind.TheVariants.{OutOfMemory}
use denote.Ref.{Bor}
use Rattle.nutreplay.specs.Script.{is_record}
use Rattle.upsd.specs.declared.ending.Ending.{Ending}
use Rattle.upsd.specs.declared.ending.Ending.TheVariants as endings
use Rattle.upsd.specs.declared.reading.ReadFault.{ReadFault}
use Rattle.upsd.specs.declared.reading.ReadFault.TheVariants as faults

-- What reading the file of a path gives: its bytes, or why it can't be read.
abbrev pub Readings : Type 1
Readings = List ℕ → Result (List ℕ) ReadFault → Type 0

-- Any file may hold anything, as those of the system.
abbrev pub anything : Readings
anything path reading = ⊤

-- Why a read failed, by the kind of its error and the system's number.
abbrev pub fault_of : ErrorKind → Option ℤ → ReadFault
fault_of OutOfMemory number = faults.Memory
fault_of kind number = faults.Failed number

-- How the program ends where it can't read a file.
abbrev pub ending_of_unread : Bor (List ℕ) → ReadFault → Ending
ending_of_unread path faults.Memory = endings.Memory
ending_of_unread path (faults.Failed error) = endings.Unread path error

-- The ending says that the file of this path can't be read or opened.
abbrev pub CantBeRead : Readings → Bor (List ℕ) → Ending → Type 0
CantBeRead gives path ending =
    (fault : ReadFault) × gives path.now (Err fault) × (ending ≡ ending_of_unread path fault)

-- A file is named, and the ending says that it can't be opened.
abbrev pub CantBeOpened : Option (Bor (List ℕ)) → Ending → Type 0
CantBeOpened named ending =
    (path : Bor (List ℕ)) × (named ≡ Some path) × CantBeRead anything path ending

-- Where the last LF ends, so many bytes being before these and their last LF ending there.
abbrev pub lines_end_from : ℕ → ℕ → List ℕ → ℕ
lines_end_from end count [] = end
lines_end_from end count (b ∷ bytes) =
    lines_end_from (if b == 10 then count + 1 else end) (count + 1) bytes

abbrev pub lines_end : List ℕ → ℕ
lines_end bytes = lines_end_from 0 0 bytes

-- The whole lines of a text, without a last line that has no LF.
abbrev pub whole_lines : List ℕ → List ℕ
whole_lines bytes = take (lines_end bytes) bytes

-- What of a script is replayed. In a record a last line without LF was cut, and is left out.
abbrev pub replayed_lines : List ℕ → List ℕ
replayed_lines script = if is_record script then whole_lines script else script
