-- What holds of every tree that a driver's lines have made.
use Rattle.std.specs.Prelude.{◌≢◌, ◌≤◌, ◌≤ℤ◌, ⊤, ℕ, neg_ℤ, pos, List, length, All, AllPairs, IfOk}
use Rattle.std.specs.Prelude.{IsTrue}
use Rattle.std.specs.List.Sorted.{IsStrictlySortedBy}
use Rattle.std.specs.Map.{keys_of, values_of}
use Rattle.nutwords.specs.Reading.{is_name, is_value}
use Rattle.nutmap.specs.Entries.{HasRisingKeys}
use Rattle.nutdriver.specs.declared.limits.TheConstants.{VARIABLE_LIMIT, COMMAND_LIMIT, ENUM_LIMIT}
use Rattle.nutdriver.specs.declared.limits.TheConstants.{RANGE_LIMIT, NUMBER_LIMIT}
use Rattle.nutdriver.specs.declared.line.DriverLine.{DriverLine}
use Rattle.nutdriver.specs.declared.line.DriverLine.TheVariants as lines
use Rattle.nutdriver.specs.declared.range.Range.{Range}
use Rattle.nutdriver.specs.declared.report.Report.{Report}
use Rattle.nutdriver.specs.Variable.{VariableState}
use Rattle.nutdriver.specs.Tree.{TreeState, byte_order}
use Rattle.nutdriver.specs.DriverLine.{read_driver_line}
use Rattle.nutdriver.specs.DriverStep.{driver_step}
use Rattle.nutdriver.specs.Report.{after_line}

-- No item is there twice.
abbrev pub HasNoRepeats : {X : Type 0} → List X → Type 0
HasNoRepeats items = AllPairs (λ a b. a ≢ b) items

-- Both ends are numbers of the protocol, and the range is the right way round.
pub record IsSoundRange (range : Range) : Type 0 where
  pub least : neg_ℤ (pos NUMBER_LIMIT) ≤ℤ range.least
  pub rises : range.least ≤ℤ range.greatest
  pub greatest : range.greatest ≤ℤ pos NUMBER_LIMIT

pub record IsSoundVariable (v : VariableState) : Type 0 where
  pub value : IsTrue (is_value v.value)
  pub aux : v.aux ≤ NUMBER_LIMIT
  pub enum_values : All (λ value. IsTrue (is_value value)) v.enum_values
  pub enum_values_once : HasNoRepeats v.enum_values
  pub enum_values_few : length v.enum_values ≤ ENUM_LIMIT
  pub ranges : All IsSoundRange v.ranges
  pub ranges_once : HasNoRepeats v.ranges
  pub ranges_few : length v.ranges ≤ RANGE_LIMIT

-- The names rise, so that none comes twice; names and variables are lawful, and no more than there
-- may be.
pub record IsSoundTree (tree : TreeState) : Type 0 where
  pub names_rise : HasRisingKeys byte_order tree.variables
  pub names : All (λ name. IsTrue (is_name name)) (keys_of tree.variables)
  pub variables : All IsSoundVariable (values_of tree.variables)
  pub variables_few : length tree.variables ≤ VARIABLE_LIMIT
  pub commands_rise : IsStrictlySortedBy byte_order tree.commands
  pub commands : All (λ name. IsTrue (is_name name)) tree.commands
  pub commands_few : length tree.commands ≤ COMMAND_LIMIT

-- What the line names and gives is lawful, as of every line that was read.
abbrev pub IsLawfulLine : DriverLine → Type 0
IsLawfulLine (lines.SetInfo name value) = IsTrue (is_name name) × IsTrue (is_value value)
IsLawfulLine (lines.DelInfo name) = IsTrue (is_name name)
IsLawfulLine (lines.AddEnum name value) = IsTrue (is_name name) × IsTrue (is_value value)
IsLawfulLine (lines.DelEnum name value) = IsTrue (is_name name) × IsTrue (is_value value)
IsLawfulLine (lines.AddRange name range) = IsTrue (is_name name) × IsSoundRange range
IsLawfulLine (lines.DelRange name range) = IsTrue (is_name name) × IsSoundRange range
IsLawfulLine (lines.SetAux name aux) = IsTrue (is_name name) × (aux ≤ NUMBER_LIMIT)
IsLawfulLine (lines.SetFlags name flags) = IsTrue (is_name name)
IsLawfulLine (lines.AddCmd name) = IsTrue (is_name name)
IsLawfulLine (lines.DelCmd name) = IsTrue (is_name name)
IsLawfulLine (lines.Tracking id number) = number ≤ NUMBER_LIMIT
IsLawfulLine _ = ⊤

abbrev pub ReadLinesAreLawful : Type 0
ReadLinesAreLawful = (text : List ℕ) → IfOk (read_driver_line text) IsLawfulLine

abbrev pub LawfulLinesKeepTreesSound : Type 0
LawfulLinesKeepTreesSound =
    (tree : TreeState) (line : DriverLine) → IsSoundTree tree → IsLawfulLine line
    → IfOk (driver_step tree line) (λ after. IsSoundTree after.0)

-- A whole line keeps the tree sound, whatever it says.
abbrev pub EachLineKeepsTheTreeSound : Type 0
EachLineKeepsTheTreeSound =
    (moment : ℕ) (report : Report) (line : List ℕ) → IsSoundTree report.tree
    → IsSoundTree (after_line moment report line).0.tree
