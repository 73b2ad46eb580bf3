-- The variables and commands of a UPS, as two finite maps.
use Rattle.std.specs.Prelude.{ℕ, Bool, List, [], Option}
use Rattle.std.specs.List.{list_any}
use Rattle.std.specs.BTreeMap.{insert_entry, is_at}
use Rattle.std.specs.BTreeSet.{insert_key}
use Rattle.std.specs.Map.{remove_entry}
use Rattle.std.specs.Set.{remove_key}
pub use Rattle.nutwords.specs.NameOrder.{byte_order}
use Rattle.nutmap.specs.Entries.{value_at}
use Rattle.nutdriver.specs.Variable.{VariableState}

-- A tree is a finite map from names to variables and a finite set of commands: the entries and the
-- names, each in the order of the names.
pub record TreeState : Type 0 where
  pub variables : List (List ℕ × VariableState)
  pub commands : List (List ℕ)

-- Nothing was reported.
abbrev pub empty_tree : TreeState
empty_tree = record { variables = []; commands = [] }

-- The variable of this name.
abbrev pub variable_at : TreeState → List ℕ → Option VariableState
variable_at tree name = value_at byte_order tree.variables name

-- The name has this variable, and each other name what it had.
abbrev pub with_variable : TreeState → List ℕ → VariableState → TreeState
with_variable tree name variable =
    record tree { variables = insert_entry byte_order tree.variables name variable }

-- The name has no variable, and each other name what it had.
abbrev pub without_variable : TreeState → List ℕ → TreeState
without_variable tree name =
    record tree { variables = remove_entry (is_at (byte_order name)) tree.variables }

-- The UPS has the command of this name.
abbrev pub has_command : TreeState → List ℕ → Bool
has_command tree name = list_any (is_at (byte_order name)) tree.commands

-- The commands and this one.
abbrev pub with_command : TreeState → List ℕ → TreeState
with_command tree name = record tree { commands = insert_key byte_order tree.commands name }

-- The commands but this one.
abbrev pub without_command : TreeState → List ℕ → TreeState
without_command tree name =
    record tree { commands = remove_key (is_at (byte_order name)) tree.commands }
