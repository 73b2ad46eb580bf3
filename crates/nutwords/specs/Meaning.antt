-- A line has one meaning: words or a fault.
use Rattle.std.specs.Prelude.{◌≡◌, ◌⊎◌, ◌↔◌, ℕ, List, Ok, Err}
use Rattle.nutwords.specs.Grammar.{Reads}
use Rattle.nutwords.specs.Fault.{IsFault}
use Rattle.nutwords.specs.Scan.{read_line}
use Rattle.nutwords.specs.declared.faults.BadLine.{BadLine}

-- Each line reads as some words or has a fault.
abbrev pub WordsOrFault : Type 0
WordsOrFault =
    (line : List ℕ) → ((words : List (List ℕ)) × Reads line words)
    ⊎ ((fault : BadLine) × IsFault line fault)

-- No line has both.
abbrev pub NotBoth : Type 0
NotBoth =
    (line : List ℕ) (words : List (List ℕ)) (fault : BadLine) → Reads line words
    → IsFault line fault → ⊥

-- A line reads as one list of words at most.
abbrev pub OneListOfWords : Type 0
OneListOfWords =
    (line : List ℕ) (words others : List (List ℕ)) → Reads line words → Reads line others
    → others ≡ words

-- A line has one fault at most.
abbrev pub OneFault : Type 0
OneFault =
    (line : List ℕ) (fault other : BadLine) → IsFault line fault → IsFault line other
    → other ≡ fault

-- What is computed for a line is the words that it reads as, or its fault.
abbrev pub ReadLineIsTheGrammar : Type 0
ReadLineIsTheGrammar =
    (line : List ℕ) (words : List (List ℕ)) → (read_line line ≡ Ok words) ↔ Reads line words

abbrev pub ReadLineIsTheFault : Type 0
ReadLineIsTheFault =
    (line : List ℕ) (fault : BadLine) → (read_line line ≡ Err fault) ↔ IsFault line fault
