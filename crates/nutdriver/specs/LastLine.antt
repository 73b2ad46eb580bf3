-- The last accepted line on a variable decides its value.
use Rattle.std.specs.Prelude.{◌≡◌, ℕ, Bool, false, List, [], ◌∷◌, ◌++◌, Option, Some, None}
use Rattle.std.specs.Prelude.{Result, Ok, Err, if◌then◌else◌, option_map}
use Rattle.std.specs.List.{list_any}
use Rattle.std.specs.Str.{bytes_eq}
use Rattle.nutdriver.specs.declared.line.DriverLine.{DriverLine}
use Rattle.nutdriver.specs.declared.line.DriverLine.TheVariants.{SetInfo, DelInfo}
use Rattle.nutdriver.specs.declared.fault.DriverFault.{DriverFault}
use Rattle.nutdriver.specs.declared.report.Report.{Report}
use Rattle.nutmap.specs.Entries.{HasRisingKeys}
use Rattle.nutdriver.specs.Tree.{TreeState, byte_order, variable_at}
use Rattle.nutdriver.specs.DriverLine.{read_driver_line}
use Rattle.nutdriver.specs.DriverStep.{changes_tree}
use Rattle.nutdriver.specs.Report.{connected_report, after_reading, after_line, Heard, after_heard}

-- The line, where it is read and changes the tree.
abbrev pub change_of : TreeState → Result DriverLine DriverFault → List DriverLine
change_of tree (Ok line) = if changes_tree tree line then line ∷ [] else []
change_of tree (Err fault) = []

-- Those of the lines that change the tree: none that is refused, or adds what is there.
abbrev pub changes : Report → List Heard → List DriverLine
changes report [] = []
changes report (x ∷ lines) =
    change_of report.tree (read_driver_line x.line)
    ++ changes (after_line x.moment report x.line).0 lines

-- The value of the variable of this name, where it is there.
abbrev pub value_of : TreeState → List ℕ → Option (List ℕ)
value_of tree name = option_map (λ v. v.value) (variable_at tree name)

-- The line gives the variable of this name its value, or takes it away.
abbrev pub decides : List ℕ → DriverLine → Bool
decides name (SetInfo other value) = bytes_eq other name
decides name (DelInfo other) = bytes_eq other name
decides name _ = false

-- A line that doesn't decide the variable of a name leaves its value.
abbrev pub OtherLinesLeaveTheValue : Type 0
OtherLinesLeaveTheValue =
    (report : Report) (line : DriverLine) (name : List ℕ)
    → HasRisingKeys byte_order report.tree.variables → decides name line ≡ false
    → value_of (after_reading report (Ok line)).0.tree name ≡ value_of report.tree name

-- None of the lines does.
abbrev pub NoneDecides : List ℕ → List DriverLine → Type 0
NoneDecides name lines = list_any (decides name) lines ≡ false

-- Where these lines changed the tree, from an empty one to this: the last of them that decides the
-- variable gave it its value, or took it away; and where none does, it isn't there.
pub record TheLastLineDecides (tree : TreeState) (lines : List DriverLine) (name : List ℕ) : Type 0
  where
    pub given : (earlier later : List DriverLine) (value : List ℕ)
        → lines ≡ earlier ++ SetInfo name value ∷ later → NoneDecides name later
        → value_of tree name ≡ Some value
    pub taken : (earlier later : List DriverLine) → lines ≡ earlier ++ DelInfo name ∷ later
        → NoneDecides name later → value_of tree name ≡ None
    pub never : NoneDecides name lines → value_of tree name ≡ None

-- After whatever lines of a driver since it connected.
abbrev pub TheLastLineOnAVariableDecidesIt : Type 0
TheLastLineOnAVariableDecidesIt =
    (moment : ℕ) (lines : List Heard) (name : List ℕ)
    → TheLastLineDecides (after_heard (connected_report moment) lines).tree
    (changes (connected_report moment) lines) name
