-- A variable, and what a driver's lines do to it. `Ok None` means that it stays as it is. Else this
-- is the variable afterwards, or the refusal.
use Rattle.std.specs.Prelude.{ℕ, Bool, not, nat_le, ◌&&◌, List, [], ◌∷◌, ◌++◌, length, filter}
use Rattle.std.specs.Prelude.{Option, Some, None, Result, Ok, Err, if◌then◌else◌}
use Rattle.std.specs.List.{list_any}
use Rattle.std.specs.Str.{bytes_eq}
use Rattle.std.specs.Ordering.{int_eq}
use Rattle.nutdriver.specs.declared.limits.TheConstants.{ENUM_LIMIT, RANGE_LIMIT}
use Rattle.nutdriver.specs.declared.fault.DriverFault.{DriverFault}
use Rattle.nutdriver.specs.declared.fault.DriverFault.TheVariants.{NoSuchItem, Full}
use Rattle.nutdriver.specs.declared.flags.Flags.{Flags}
use Rattle.nutdriver.specs.declared.range.Range.{Range}
use Rattle.nutdriver.specs.Flags.{no_flags}

-- Enum values and ranges are in the order in which they were added, none twice.
pub record VariableState : Type 0 where
  pub value : List ℕ
  pub flags : Flags
  pub aux : ℕ
  pub enum_values : List (List ℕ)
  pub ranges : List Range

-- A variable that is reported for the first time.
abbrev pub new_variable : List ℕ → VariableState
new_variable value =
    record { value = value; flags = no_flags; aux = 0; enum_values = []; ranges = [] }

-- The value is among these.
abbrev pub has_value : List (List ℕ) → List ℕ → Bool
has_value values value = list_any (λ v. bytes_eq v value) values

abbrev pub is_same_range : Range → Range → Bool
is_same_range a b = int_eq a.least b.least && int_eq a.greatest b.greatest

-- The range is among these.
abbrev pub has_range : List Range → Range → Bool
has_range ranges range = list_any (λ r. is_same_range r range) ranges

-- SETINFO of a variable that is there: all but the value stays.
abbrev pub with_value : List ℕ → VariableState → VariableState
with_value value v = record v { value = value }

-- ADDENUM
abbrev pub add_enum : List ℕ → VariableState → Result (Option VariableState) DriverFault
add_enum value v =
    if has_value v.enum_values value then Ok None
    else if nat_le ENUM_LIMIT (length v.enum_values) then Err Full
    else Ok (Some (record v { enum_values = v.enum_values ++ value ∷ [] }))

-- DELENUM
abbrev pub delete_enum : List ℕ → VariableState → Result (Option VariableState) DriverFault
delete_enum value v =
    if has_value v.enum_values value
    then Ok (Some
    (record v { enum_values = filter (λ other. not (bytes_eq other value)) v.enum_values }))
    else Err NoSuchItem

-- ADDRANGE
abbrev pub add_range : Range → VariableState → Result (Option VariableState) DriverFault
add_range range v =
    if has_range v.ranges range then Ok None
    else if nat_le RANGE_LIMIT (length v.ranges) then Err Full
    else Ok (Some (record v { ranges = v.ranges ++ range ∷ [] }))

-- DELRANGE
abbrev pub delete_range : Range → VariableState → Result (Option VariableState) DriverFault
delete_range range v =
    if has_range v.ranges range
    then Ok (Some
    (record v { ranges = filter (λ other. not (is_same_range other range)) v.ranges }))
    else Err NoSuchItem

-- SETAUX
abbrev pub with_aux : ℕ → VariableState → VariableState
with_aux aux v = record v { aux = aux }

-- SETFLAGS
abbrev pub with_flags : Flags → VariableState → VariableState
with_flags flags v = record v { flags = flags }
