-- The enum values and ranges of a variable, by its driver's lines.
use Rattle.std.specs.Prelude.{◌≡◌, ℕ, Bool, false, ◌&&◌, List, [], ◌∷◌, ◌++◌, Option, Some, None}
use Rattle.std.specs.Prelude.{if◌then◌else◌}
use Rattle.std.specs.List.{list_any}
use Rattle.std.specs.Option.{option_map_or}
use Rattle.std.specs.Str.{bytes_eq}
use Rattle.nutdriver.specs.declared.line.DriverLine.{DriverLine}
use Rattle.nutdriver.specs.declared.line.DriverLine.TheVariants as reports
use Rattle.nutdriver.specs.declared.range.Range.{Range}
use Rattle.nutdriver.specs.Variable.{is_same_range}
use Rattle.nutdriver.specs.Tree.{TreeState, variable_at}
use Rattle.nutdriver.specs.Report.{connected_report, Heard, after_heard}
use Rattle.nutdriver.specs.LastLine.{changes}
use Rattle.nutdriver.specs.Sound.{HasNoRepeats}

-- What is added, unless one of the later lines takes it away.
abbrev pub unless_taken : {X : Type 0} → (DriverLine → X → Bool) → List DriverLine → Option X
    → List X
unless_taken takes later None = []
unless_taken takes later (Some item) =
    if list_any (λ line. takes line item) later then [] else item ∷ []

-- What each of the lines adds and no later one takes away, in the order of the lines.
abbrev pub kept_additions : {X : Type 0} → (DriverLine → Option X) → (DriverLine → X → Bool)
    → List DriverLine → List X
kept_additions adds takes [] = []
kept_additions adds takes (line ∷ later) =
    unless_taken takes later (adds line) ++ kept_additions adds takes later

-- The enum value that the line adds to the variable of this name.
abbrev pub added_value : List ℕ → DriverLine → Option (List ℕ)
added_value name (reports.AddEnum other value) = if bytes_eq other name then Some value else None
added_value name _ = None

-- The line takes this enum value from it: by itself, or the variable with all that it has.
abbrev pub takes_value : List ℕ → DriverLine → List ℕ → Bool
takes_value name (reports.DelEnum other taken) value = bytes_eq other name && bytes_eq value taken
takes_value name (reports.DelInfo other) value = bytes_eq other name
takes_value name _ value = false

-- The same of ranges.
abbrev pub added_range : List ℕ → DriverLine → Option Range
added_range name (reports.AddRange other range) = if bytes_eq other name then Some range else None
added_range name _ = None

abbrev pub takes_range : List ℕ → DriverLine → Range → Bool
takes_range name (reports.DelRange other taken) range =
    bytes_eq other name && is_same_range range taken
takes_range name (reports.DelInfo other) range = bytes_eq other name
takes_range name _ range = false

-- The enum values of the variable of this name, and its ranges: none where it isn't there.
abbrev pub values_at : TreeState → List ℕ → List (List ℕ)
values_at tree name = option_map_or (λ v. v.enum_values) (variable_at tree name) []

abbrev pub ranges_at : TreeState → List ℕ → List Range
ranges_at tree name = option_map_or (λ v. v.ranges) (variable_at tree name) []

-- The lists of the variable of this name, where these lines changed the tree, from an empty one to
-- this: the enum values are those that a line added and no later one took away, each once, in the
-- order of adding; so are the ranges.
pub record AreInTheOrderOfAdding (tree : TreeState) (lines : List DriverLine) (name : List ℕ)
    : Type 0 where
  pub enum_values : values_at tree name ≡ kept_additions (added_value name) (takes_value name) lines
  pub enum_values_once : HasNoRepeats (values_at tree name)
  pub ranges : ranges_at tree name ≡ kept_additions (added_range name) (takes_range name) lines
  pub ranges_once : HasNoRepeats (ranges_at tree name)

-- After whatever lines of a driver since it connected.
abbrev pub ListsAreInTheOrderOfAdding : Type 0
ListsAreInTheOrderOfAdding =
    (moment : ℕ) (lines : List Heard) (name : List ℕ)
    → AreInTheOrderOfAdding (after_heard (connected_report moment) lines).tree
    (changes (connected_report moment) lines) name
