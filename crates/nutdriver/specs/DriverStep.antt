-- What a driver's line does to the tree of its UPS (the table of docs/DRIVER.md).
use Rattle.std.specs.Prelude.{ℕ, Bool, true, false, nat_le, List, length, Option, Some, None}
use Rattle.std.specs.Prelude.{Result, Ok, Err, if◌then◌else◌}
use Rattle.nutdriver.specs.declared.limits.TheConstants.{VARIABLE_LIMIT, COMMAND_LIMIT}
use Rattle.nutdriver.specs.declared.line.DriverLine.{DriverLine}
use Rattle.nutdriver.specs.declared.line.DriverLine.TheVariants as lines
use Rattle.nutdriver.specs.declared.fault.DriverFault.{DriverFault}
use Rattle.nutdriver.specs.declared.fault.DriverFault.TheVariants.{NoSuchVar, NoSuchItem, Full}
use Rattle.nutdriver.specs.declared.effect.Effect.{Effect}
use Rattle.nutdriver.specs.declared.effect.Effect.TheVariants.{Nothing, Changed}
use Rattle.nutdriver.specs.declared.effect.Effect.TheVariants.{DumpDone as DumpIsDone}
use Rattle.nutdriver.specs.declared.effect.Effect.TheVariants.{DataOk as DataAreOk}
use Rattle.nutdriver.specs.declared.effect.Effect.TheVariants.{DataStale as DataAreStale}
use Rattle.nutdriver.specs.declared.effect.Effect.TheVariants.{Pong as PongCame}
use Rattle.nutdriver.specs.declared.effect.Effect.TheVariants.{Tracked}
use Rattle.nutdriver.specs.Variable.{VariableState, new_variable, with_value, add_enum, delete_enum}
use Rattle.nutdriver.specs.Variable.{add_range, delete_range, with_aux, with_flags}
use Rattle.nutdriver.specs.Tree.{TreeState, variable_at, with_variable, without_variable}
use Rattle.nutdriver.specs.Tree.{has_command, with_command, without_command}

-- The tree with what became of the variable, where it isn't refused.
abbrev pub put_back : TreeState → List ℕ → Result (Option VariableState) DriverFault
    → Result (TreeState × Effect) DriverFault
put_back tree name (Err fault) = Err fault
put_back tree name (Ok None) = Ok (tree, Nothing)
put_back tree name (Ok (Some variable)) = Ok (with_variable tree name variable, Changed)

-- What a line does to a variable that has to be there.
abbrev pub if_there : TreeState → List ℕ → Option VariableState
    → (VariableState → Result (Option VariableState) DriverFault)
    → Result (TreeState × Effect) DriverFault
if_there tree name None line = Err NoSuchVar
if_there tree name (Some variable) line = put_back tree name (line variable)

abbrev pub on_variable : TreeState → List ℕ
    → (VariableState → Result (Option VariableState) DriverFault)
    → Result (TreeState × Effect) DriverFault
on_variable tree name line = if_there tree name (variable_at tree name) line

-- SETINFO: a new variable, where there is room for it, or a new value of one that is there.
abbrev pub set_info : TreeState → List ℕ → List ℕ → Option VariableState
    → Result (TreeState × Effect) DriverFault
set_info tree name value None =
    if nat_le VARIABLE_LIMIT (length tree.variables) then Err Full
    else Ok (with_variable tree name (new_variable value), Changed)
set_info tree name value (Some variable) =
    Ok (with_variable tree name (with_value value variable), Changed)

-- DELINFO
abbrev pub delete_info : TreeState → List ℕ → Option VariableState
    → Result (TreeState × Effect) DriverFault
delete_info tree name None = Err NoSuchVar
delete_info tree name (Some variable) = Ok (without_variable tree name, Changed)

-- The tree afterwards and the effect, or the refusal.
abbrev pub driver_step : TreeState → DriverLine → Result (TreeState × Effect) DriverFault
driver_step tree lines.Blank = Ok (tree, Nothing)
driver_step tree (lines.SetInfo name value) = set_info tree name value (variable_at tree name)
driver_step tree (lines.DelInfo name) = delete_info tree name (variable_at tree name)
driver_step tree (lines.AddEnum name value) = on_variable tree name (add_enum value)
driver_step tree (lines.DelEnum name value) = on_variable tree name (delete_enum value)
driver_step tree (lines.AddRange name range) = on_variable tree name (add_range range)
driver_step tree (lines.DelRange name range) = on_variable tree name (delete_range range)
driver_step tree (lines.SetAux name aux) =
    on_variable tree name (λ variable. Ok (Some (with_aux aux variable)))
driver_step tree (lines.SetFlags name flags) =
    on_variable tree name (λ variable. Ok (Some (with_flags flags variable)))
driver_step tree (lines.AddCmd name) =
    if has_command tree name then Ok (tree, Nothing)
    else if nat_le COMMAND_LIMIT (length tree.commands) then Err Full
    else Ok (with_command tree name, Changed)
driver_step tree (lines.DelCmd name) =
    if has_command tree name then Ok (without_command tree name, Changed)
    else Err NoSuchItem
driver_step tree lines.DumpDone = Ok (tree, DumpIsDone)
driver_step tree lines.DataOk = Ok (tree, DataAreOk)
driver_step tree lines.DataStale = Ok (tree, DataAreStale)
driver_step tree lines.Pong = Ok (tree, PongCame)
driver_step tree (lines.Tracking id number) = Ok (tree, Tracked id number)

-- The line would change the tree.
abbrev pub is_change : Result (TreeState × Effect) DriverFault → Bool
is_change (Ok (tree, Changed)) = true
is_change _ = false

abbrev pub changes_tree : TreeState → DriverLine → Bool
changes_tree tree line = is_change (driver_step tree line)

-- How many entries the map has that the line may change.
abbrev pub entries_before : TreeState → DriverLine → ℕ
entries_before tree (lines.AddCmd name) = length tree.commands
entries_before tree (lines.DelCmd name) = length tree.commands
entries_before tree _ = length tree.variables

-- The line puts an entry into a map where it changes the tree: it is none of those that take one
-- out.
abbrev pub puts_entry : DriverLine → Bool
puts_entry (lines.DelInfo name) = false
puts_entry (lines.DelCmd name) = false
puts_entry _ = true
