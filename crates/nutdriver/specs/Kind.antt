-- What a variable has beside its value.
use Rattle.std.specs.Prelude.{◌≡◌, ⊤, ℕ, List, Option, Some, None, []}
use Rattle.std.specs.declared.rc.Rc.{Rc}
use Rattle.nutdriver.specs.declared.flags.Flags.{Flags}
use Rattle.nutdriver.specs.Flags.{no_flags}
use Rattle.nutdriver.specs.Variable.{VariableState}
use Rattle.nutdriver.specs.declared.range.Range.{Range}

pub record ListsState : Type 0 where
  pub enum_values : List (List ℕ)
  pub ranges : List Range

abbrev pub no_lists : ListsState
no_lists = record { enum_values = []; ranges = [] }

-- The lists that are held, and may be shared: none where nothing is.
abbrev pub lists_of : {A : Type 0} → Option (Rc ListsState A) → ListsState
lists_of None = no_lists
lists_of (Some lists) = lists.value

pub record KindState : Type 0 where
  pub flags : Flags
  pub aux : ℕ
  pub lists : ListsState

-- That of a variable that is reported for the first time.
abbrev pub plain : KindState
plain = record { flags = no_flags; aux = 0; lists = no_lists }

-- What is held, and may be shared, is plain.
abbrev pub IsPlain : {A : Type 0} → Option (Rc KindState A) → Type 0
IsPlain None = ⊤
IsPlain (Some kind) = kind.value ≡ plain

-- The variable with this value and this kind.
abbrev pub variable_of : List ℕ → KindState → VariableState
variable_of value kind =
    record {
      value = value;
      flags = kind.flags;
      aux = kind.aux;
      enum_values = kind.lists.enum_values;
      ranges = kind.lists.ranges;
    }

-- The variable with another kind, or with other lists.
abbrev pub with_kind : KindState → VariableState → VariableState
with_kind kind v = variable_of v.value kind

abbrev pub with_lists : ListsState → VariableState → VariableState
with_lists lists v =
    record v { enum_values = lists.enum_values; ranges = lists.ranges }
