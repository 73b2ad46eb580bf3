-- How a driver's line is read (docs/DRIVER.md), or which fault refuses it.
use Rattle.std.specs.Prelude.{ℕ, List, [], ◌∷◌, Result, Ok, Err, codes, if◌then◌else◌}
use Rattle.nutwords.specs.Scan.{read_line}
use Rattle.nutwords.specs.declared.faults.BadLine.{BadLine}
use Rattle.nutdriver.specs.declared.line.DriverLine.{DriverLine}
use Rattle.nutdriver.specs.declared.line.DriverLine.TheVariants as lines
use Rattle.nutdriver.specs.declared.fault.DriverFault.{DriverFault}
use Rattle.nutdriver.specs.declared.fault.DriverFault.TheVariants.{Malformed, Unknown}
use Rattle.nutwords.specs.Spelling.{is_word}
use Rattle.nutdriver.specs.Arguments.{name_alone, name_and_value, name_and_range, name_and_aux}
use Rattle.nutdriver.specs.Arguments.{name_and_flags, id_and_number}

-- The line of these arguments, or their refusal.
abbrev pub line_of : {X : Type 0} → (X → DriverLine) → Result X DriverFault
    → Result DriverLine DriverFault
line_of line (Err fault) = Err fault
line_of line (Ok arguments) = Ok (line arguments)

-- A word that is by itself on its line.
abbrev pub alone : DriverLine → List (List ℕ) → Result DriverLine DriverFault
alone line [] = Ok line
alone line (word ∷ words) = Err Malformed

-- The report on an order: one case a first word, here and below.
abbrev pub order_line : List ℕ → List (List ℕ) → Result DriverLine DriverFault
order_line first words =
    if is_word first (codes "TRACKING")
    then line_of (λ a. lines.Tracking a.0 a.1) (id_and_number words)
    else Err Unknown

-- The lines of the driver's state, and the one above.
abbrev pub state_line : List ℕ → List (List ℕ) → Result DriverLine DriverFault
state_line first words =
    if is_word first (codes "DUMPDONE") then alone lines.DumpDone words
    else if is_word first (codes "DATAOK") then alone lines.DataOk words
    else if is_word first (codes "DATASTALE") then alone lines.DataStale words
    else if is_word first (codes "PONG") then alone lines.Pong words
    else order_line first words

-- Those of a command, and the ones above.
abbrev pub command_line : List ℕ → List (List ℕ) → Result DriverLine DriverFault
command_line first words =
    if is_word first (codes "ADDCMD") then line_of (λ name. lines.AddCmd name) (name_alone words)
    else if is_word first (codes "DELCMD")
    then line_of (λ name. lines.DelCmd name) (name_alone words)
    else state_line first words

-- Those of a variable's ranges, aux and flags, and the ones above.
abbrev pub limit_line : List ℕ → List (List ℕ) → Result DriverLine DriverFault
limit_line first words =
    if is_word first (codes "ADDRANGE")
    then line_of (λ a. lines.AddRange a.0 a.1) (name_and_range words)
    else if is_word first (codes "DELRANGE")
    then line_of (λ a. lines.DelRange a.0 a.1) (name_and_range words)
    else if is_word first (codes "SETAUX")
    then line_of (λ a. lines.SetAux a.0 a.1) (name_and_aux words)
    else if is_word first (codes "SETFLAGS")
    then line_of (λ a. lines.SetFlags a.0 a.1) (name_and_flags words)
    else command_line first words

-- Those of a variable's value and enum values, and the ones above: so all that there are.
abbrev pub value_line : List ℕ → List (List ℕ) → Result DriverLine DriverFault
value_line first words =
    if is_word first (codes "SETINFO")
    then line_of (λ a. lines.SetInfo a.0 a.1) (name_and_value words)
    else if is_word first (codes "DELINFO")
    then line_of (λ name. lines.DelInfo name) (name_alone words)
    else if is_word first (codes "ADDENUM")
    then line_of (λ a. lines.AddEnum a.0 a.1) (name_and_value words)
    else if is_word first (codes "DELENUM")
    then line_of (λ a. lines.DelEnum a.0 a.1) (name_and_value words)
    else limit_line first words

-- The line that these words are.
abbrev pub driver_line_of : List (List ℕ) → Result DriverLine DriverFault
driver_line_of [] = Ok lines.Blank
driver_line_of (first ∷ words) = value_line first words

abbrev pub driver_line_from : Result (List (List ℕ)) BadLine → Result DriverLine DriverFault
driver_line_from (Err bad) = Err Malformed
driver_line_from (Ok words) = driver_line_of words

-- The line of a driver, or why it is refused.
abbrev pub read_driver_line : List ℕ → Result DriverLine DriverFault
read_driver_line line = driver_line_from (read_line line)
