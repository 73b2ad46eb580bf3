-- Lawful lines keep a tree sound.
use Rattle.std.proofs.Common.{◌≡◌, ℕ, zero, suc, ◌<◌, Bool, true, false, List, []}
use Rattle.std.proofs.Common.{◌∷◌, ◌++◌, length, get_or, Option, Some, None, refl, sym}
use Rattle.std.proofs.Common.{ap, subst, ◌∙◌, arith, nat_le, true≢false}
use Rattle.std.specs.Prelude.{◌≢◌, ◌≤◌, ⊤, ◌||◌, not, filter, Result, Ok, Err}
use Rattle.std.specs.Prelude.{IfOk, IfSome, IsNone, IsTrue, All, if◌then◌else◌}
use Rattle.std.specs.List.{list_any}
use Rattle.std.specs.List.Sorted.{IsStrictlySortedBy}
use Rattle.std.specs.Map.{keys_of, remove_entry}
use Rattle.std.specs.Set.{remove_key}
use Rattle.std.specs.BTreeMap.{insert_entry, is_at}
use Rattle.std.specs.BTreeSet.{insert_key}
use Rattle.std.specs.Str.{bytes_eq}
use Rattle.std.proofs.lemmas.Bool.Decides.{nat_tests}
use Rattle.std.proofs.lemmas.Grind.{common_steps}
use Rattle.std.proofs.lemmas.Slice.Eq.{bytes_eq-Decides}
use Rattle.std.proofs.lemmas.Cmp.{int_eq_equiv}
use Rattle.std.proofs.lemmas.List.Elements.{All-append, All-cons, All-nil, All-filter}
use Rattle.std.proofs.lemmas.List.{length-append}
use Rattle.std.proofs.lemmas.List.Filters.{length-filter_both}
use Rattle.std.proofs.lemmas.List.Kept.{AllPairs-filter}
use Rattle.std.proofs.lemmas.List.Quantifiers.{all_pairs_push}
use Rattle.std.proofs.lemmas.Map.Entries.{length-keys_of}
use Rattle.std.proofs.lemmas.Map.Views.{All-keys-insert_entry, All-values-insert_entry}
use Rattle.std.proofs.lemmas.Map.Views.{All-map-remove_entry, All-insert_key, All-remove_key}
use Rattle.std.proofs.lemmas.Map.Views.{IfSome-lookup_from_All}
use Rattle.nutwords.specs.Reading.{is_name, is_value}
use Rattle.nutmap.specs.Entries.{HasRisingKeys}
use Rattle.nutdriver.specs.declared.limits.TheConstants.{VARIABLE_LIMIT, COMMAND_LIMIT, ENUM_LIMIT}
use Rattle.nutdriver.specs.declared.limits.TheConstants.{RANGE_LIMIT, NUMBER_LIMIT}
use Rattle.nutdriver.specs.declared.fault.DriverFault.{DriverFault}
use Rattle.nutdriver.specs.declared.fault.DriverFault.TheVariants.{NoSuchItem, Full}
use Rattle.nutdriver.specs.declared.effect.Effect.{Effect}
use Rattle.nutdriver.specs.declared.effect.Effect.TheVariants.{Nothing, Changed}
use Rattle.nutdriver.specs.declared.line.DriverLine.{DriverLine}
use Rattle.nutdriver.specs.declared.line.DriverLine.TheVariants as lines
use Rattle.nutdriver.specs.declared.flags.Flags.{Flags}
use Rattle.nutdriver.specs.declared.range.Range.{Range}
use Rattle.nutdriver.specs.Variable.{VariableState, new_variable, has_value, has_range}
use Rattle.nutdriver.specs.Variable.{is_same_range, with_value, add_enum, delete_enum, add_range}
use Rattle.nutdriver.specs.Variable.{delete_range, with_aux, with_flags}
use Rattle.nutdriver.specs.Tree.{TreeState, empty_tree, byte_order, variable_at, with_variable}
use Rattle.nutdriver.specs.Tree.{without_variable, has_command, with_command, without_command}
use Rattle.nutdriver.specs.DriverStep.{driver_step, put_back, on_variable, if_there, set_info, delete_info}
use Rattle.nutdriver.specs.Sound.{HasNoRepeats, IsSoundRange, IsSoundVariable, IsSoundTree, IsLawfulLine}
use Rattle.nutdriver.proofs.TreeLemmas.{CountsAdded, CountsReplaced, CountsTakenOut, KeepsAbsent}
use Rattle.nutdriver.proofs.TreeLemmas.{few_inserted, few_removed, keys_of-insert_entry}
use Rattle.nutdriver.proofs.TreeLemmas.{keys_of-remove_entry}
use Rattle.std.proofs.lemmas.Bool.{or_parts}

module _ {X : Type 0} (test : X → X → Bool) (same : (x : X) → test x x ≡ true) where
  -- what no item passes is none of the items
  apart : (xs : List X) (y : X) → list_any (λ x. test x y) xs ≡ false → (k : ℕ) (d : X) →
      k < length xs → get_or xs k d ≢ y
  apart [] y h k d inside = absurd (omega (arith, inside))
  apart (x ∷ xs) y h zero d inside =
      λ is. true≢false (sym (same x) ∙ ap (test x) is ∙ (or_parts (test x y) (list_any (λ x. test x y) xs) h).0)
  apart (x ∷ xs) y h (suc k) d inside =
      apart xs y (or_parts (test x y) (list_any (λ x. test x y) xs) h).1 k d (omega (arith, inside))

  pushed_once : (xs : List X) (y : X) → HasNoRepeats xs → list_any (λ x. test x y) xs ≡
      false → HasNoRepeats (xs ++ y ∷ [])
  pushed_once xs y once h = all_pairs_push (λ a b. a ≢ b) xs y once (λ k d inside. apart xs y h k d inside)

pub none_once : {X : Type 0} → HasNoRepeats {X = X} []
none_once i j d before inside = absurd (omega (arith, inside))

filtered_few : {X : Type 0} (p : X → Bool) (xs : List X) (limit : ℕ) → length xs ≤ limit →
    length (filter p xs) ≤ limit
filtered_few p xs limit few = omega (arith, few, length-filter_both p (λ x. not (p x)) (λ x. refl) xs)

length-pushed : {X : Type 0} (xs : List X) (y : X) (limit : ℕ) → length xs < limit →
    length (xs ++ y ∷ []) ≤ limit
length-pushed xs y limit room = omega (arith, room, length-append xs (y ∷ []))

pub bytes_same : (bytes : List ℕ) → bytes_eq bytes bytes ≡ true
bytes_same bytes = (bytes_eq-Decides bytes bytes).1 refl

range_same : (range : Range) → is_same_range range range ≡ true
range_same range = rw (int_eq_equiv.refl range.least, int_eq_equiv.refl range.greatest) refl

-- ---- variables
abbrev SoundChange : Result (Option VariableState) DriverFault → Type 0
SoundChange change = IfOk change (λ changed. IfSome changed IsSoundVariable)

new_sound : (value : List ℕ) → IsTrue (is_value value) → IsSoundVariable (new_variable value)
new_sound value lawful = record {
  value = lawful;
  aux = omega arith;
  enum_values = All-nil _;
  enum_values_once = none_once;
  enum_values_few = omega arith;
  ranges = All-nil _;
  ranges_once = none_once;
  ranges_few = omega arith;
}

module _ (v : VariableState) (s : IsSoundVariable v) where
  with_value_sound : (value : List ℕ) → IsTrue (is_value value) → IsSoundVariable (with_value value v)
  with_value_sound value lawful = record {
    value = lawful;
    aux = s.aux;
    enum_values = s.enum_values;
    enum_values_once = s.enum_values_once;
    enum_values_few = s.enum_values_few;
    ranges = s.ranges;
    ranges_once = s.ranges_once;
    ranges_few = s.ranges_few;
  }

  with_aux_sound : (aux : ℕ) → aux ≤ NUMBER_LIMIT → IsSoundVariable (with_aux aux v)
  with_aux_sound aux small = record {
    value = s.value;
    aux = small;
    enum_values = s.enum_values;
    enum_values_once = s.enum_values_once;
    enum_values_few = s.enum_values_few;
    ranges = s.ranges;
    ranges_once = s.ranges_once;
    ranges_few = s.ranges_few;
  }

  with_flags_sound : (flags : Flags) → IsSoundVariable (with_flags flags v)
  with_flags_sound flags = record {
    value = s.value;
    aux = s.aux;
    enum_values = s.enum_values;
    enum_values_once = s.enum_values_once;
    enum_values_few = s.enum_values_few;
    ranges = s.ranges;
    ranges_once = s.ranges_once;
    ranges_few = s.ranges_few;
  }

  with_enum_sound : (values : List (List ℕ)) →
      All (λ value. IsTrue (is_value value)) values → HasNoRepeats values → length values ≤
      ENUM_LIMIT → IsSoundVariable (record v { enum_values = values })
  with_enum_sound values lawful once few =
      record {
        value = s.value;
        aux = s.aux;
        enum_values = lawful;
        enum_values_once = once;
        enum_values_few = few;
        ranges = s.ranges;
        ranges_once = s.ranges_once;
        ranges_few = s.ranges_few;
      }

  with_ranges_sound : (ranges : List Range) → All IsSoundRange ranges → HasNoRepeats ranges →
      length ranges ≤ RANGE_LIMIT → IsSoundVariable (record v { ranges = ranges })
  with_ranges_sound ranges lawful once few =
      record {
        value = s.value;
        aux = s.aux;
        enum_values = s.enum_values;
        enum_values_once = s.enum_values_once;
        enum_values_few = s.enum_values_few;
        ranges = lawful;
        ranges_once = once;
        ranges_few = few;
      }

  add_enum_cases : (value : List ℕ) → IsTrue (is_value value) → (there full : Bool) →
      has_value v.enum_values value ≡ there → nat_le ENUM_LIMIT (length v.enum_values) ≡
      full → SoundChange (if there then Ok None else if full then Err Full else Ok
      (Some (record v { enum_values = v.enum_values ++ value ∷ [] })))
  add_enum_cases value lawful true full is full_is = tt
  add_enum_cases value lawful false true is full_is = tt
  add_enum_cases value lawful false false is full_is =
      let room : length v.enum_values < ENUM_LIMIT = grind (arith, nat_tests, common_steps) in
      with_enum_sound (v.enum_values ++ value ∷ [])
      (All-append (λ value. IsTrue (is_value value)) v.enum_values (value ∷ []) s.enum_values
      (All-cons (λ value. IsTrue (is_value value)) value [] lawful (All-nil _)))
      (pushed_once bytes_eq bytes_same v.enum_values value s.enum_values_once is)
      (length-pushed v.enum_values value ENUM_LIMIT room)

  add_enum_sound : (value : List ℕ) → IsTrue (is_value value) → SoundChange (add_enum value v)
  add_enum_sound value lawful = add_enum_cases value lawful (has_value v.enum_values value)
      (nat_le ENUM_LIMIT (length v.enum_values)) refl refl

  delete_enum_cases : (value : List ℕ) (there : Bool) →
      SoundChange (if there then Ok (Some
      (record v { enum_values = filter (λ other. not (bytes_eq other value)) v.enum_values })) else Err NoSuchItem)
  delete_enum_cases value false = tt
  delete_enum_cases value true = with_enum_sound _
      (All-filter (λ other. not (bytes_eq other value)) (λ value. IsTrue (is_value value))
      v.enum_values s.enum_values) (AllPairs-filter (λ a b. a ≢ b)
      (λ other. not (bytes_eq other value)) v.enum_values s.enum_values_once)
      (filtered_few (λ other. not (bytes_eq other value)) v.enum_values ENUM_LIMIT s.enum_values_few)

  delete_enum_sound : (value : List ℕ) → SoundChange (delete_enum value v)
  delete_enum_sound value = delete_enum_cases value (has_value v.enum_values value)

  add_range_cases : (range : Range) → IsSoundRange range → (there full : Bool) →
      has_range v.ranges range ≡ there → nat_le RANGE_LIMIT (length v.ranges) ≡ full →
      SoundChange (if there then Ok None else if full then Err Full else Ok
      (Some (record v { ranges = v.ranges ++ range ∷ [] })))
  add_range_cases range lawful true full is full_is = tt
  add_range_cases range lawful false true is full_is = tt
  add_range_cases range lawful false false is full_is =
      let room : length v.ranges < RANGE_LIMIT = grind (arith, nat_tests, common_steps) in
      with_ranges_sound (v.ranges ++ range ∷ [])
      (All-append (λ range. IsSoundRange range) v.ranges (range ∷ []) s.ranges
      (All-cons (λ range. IsSoundRange range) range [] lawful (All-nil _)))
      (pushed_once is_same_range range_same v.ranges range s.ranges_once is)
      (length-pushed v.ranges range RANGE_LIMIT room)

  add_range_sound : (range : Range) → IsSoundRange range → SoundChange (add_range range v)
  add_range_sound range lawful = add_range_cases range lawful (has_range v.ranges range)
      (nat_le RANGE_LIMIT (length v.ranges)) refl refl

  delete_range_cases : (range : Range) (there : Bool) →
      SoundChange (if there then Ok (Some
      (record v { ranges = filter (λ other. not (is_same_range other range)) v.ranges })) else Err NoSuchItem)
  delete_range_cases range false = tt
  delete_range_cases range true = with_ranges_sound _
      (All-filter (λ other. not (is_same_range other range)) (λ range. IsSoundRange range)
      v.ranges s.ranges) (AllPairs-filter (λ a b. a ≢ b)
      (λ other. not (is_same_range other range)) v.ranges s.ranges_once)
      (filtered_few (λ other. not (is_same_range other range)) v.ranges RANGE_LIMIT s.ranges_few)

  delete_range_sound : (range : Range) → SoundChange (delete_range range v)
  delete_range_sound range = delete_range_cases range (has_range v.ranges range)

-- ---- the tree
abbrev pub KeepsInserted : Type 0 → Type 0
KeepsInserted V = (map : List (List ℕ × V)) (key : List ℕ) (value : V) →
    HasRisingKeys byte_order map → HasRisingKeys byte_order (insert_entry byte_order map key value)

abbrev pub KeepsRemoved : Type 0 → Type 0
KeepsRemoved V = (map : List (List ℕ × V)) (key : List ℕ) → HasRisingKeys byte_order map →
    HasRisingKeys byte_order (remove_entry (is_at (byte_order key)) map)

-- nutmap's laws of a change
pub record MapLaws (V : Type 0) : Type 0 where
  pub inserted : KeepsInserted V
  pub removed : KeepsRemoved V
  pub added : CountsAdded V
  pub replaced : CountsReplaced V
  pub taken : CountsTakenOut V
  pub absent : KeepsAbsent V

abbrev IsName : List ℕ → Type 0
IsName name = IsTrue (is_name name)

-- the names as the keys of a map
abbrev units : List (List ℕ) → List (List ℕ × ⊤)
units [] = []
units (k ∷ ks) = (k, tt) ∷ units ks

keys_units : (ks : List (List ℕ)) → keys_of (units ks) ≡ ks
keys_units [] = refl
keys_units (k ∷ ks) = ap (λ l. k ∷ l) (keys_units ks)

length-units : (ks : List (List ℕ)) → length (units ks) ≡ length ks
length-units ks = sym (length-keys_of (units ks)) ∙ ap length (keys_units ks)

units_rise : (ks : List (List ℕ)) → IsStrictlySortedBy byte_order ks → HasRisingKeys byte_order (units ks)
units_rise ks rise = record { rising = subst (IsStrictlySortedBy byte_order) (sym (keys_units ks)) rise }

keys_inserted : (ks : List (List ℕ)) (name : List ℕ) →
    keys_of (insert_entry byte_order (units ks) name tt) ≡ insert_key byte_order ks name
keys_inserted ks name = keys_of-insert_entry byte_order name tt (units ks) ∙
    ap (λ l. insert_key byte_order l name) (keys_units ks)

keys_removed : (ks : List (List ℕ)) (name : List ℕ) →
    keys_of (remove_entry (is_at (byte_order name)) (units ks)) ≡ remove_key (is_at (byte_order name)) ks
keys_removed ks name = keys_of-remove_entry (is_at (byte_order name)) (units ks) ∙
    ap (remove_key (is_at (byte_order name))) (keys_units ks)

module _ (laws : MapLaws VariableState) (units_laws : MapLaws ⊤) (tree : TreeState) (s : IsSoundTree tree) where
  with_variable_sound : (name : List ℕ) (v : VariableState) → IsName name →
      IsSoundVariable v → (IsNone (variable_at tree name) → length tree.variables <
      VARIABLE_LIMIT) → IsSoundTree (with_variable tree name v)
  with_variable_sound name v lawful sound room = record {
    names_rise = laws.inserted tree.variables name v s.names_rise;
    names = All-keys-insert_entry byte_order name v IsName tree.variables s.names lawful;
    variables = All-values-insert_entry byte_order name v (λ v. IsSoundVariable v) tree.variables s.variables sound;
    variables_few = few_inserted laws.added laws.replaced name v VARIABLE_LIMIT tree.variables
        s.names_rise s.variables_few room;
    commands_rise = s.commands_rise;
    commands = s.commands;
    commands_few = s.commands_few;
  }

  without_variable_sound : (name : List ℕ) → IsSoundTree (without_variable tree name)
  without_variable_sound name = record {
    names_rise = laws.removed tree.variables name s.names_rise;
    names = All-map-remove_entry (is_at (byte_order name)) (λ e. e.0) IsName tree.variables s.names;
    variables = All-map-remove_entry (is_at (byte_order name)) (λ e. e.1) (λ v. IsSoundVariable v)
        tree.variables s.variables;
    variables_few = few_removed laws.taken laws.absent name VARIABLE_LIMIT tree.variables s.variables_few;
    commands_rise = s.commands_rise;
    commands = s.commands;
    commands_few = s.commands_few;
  }

  with_command_sound : (name : List ℕ) → IsName name → length tree.commands <
      COMMAND_LIMIT → IsSoundTree (with_command tree name)
  with_command_sound name lawful room =
      let few : length (units tree.commands) ≤ COMMAND_LIMIT = omega (arith, room, length-units tree.commands) in
      let free : length (units tree.commands) < COMMAND_LIMIT = omega (arith, room, length-units tree.commands) in
      let more = few_inserted units_laws.added units_laws.replaced name tt COMMAND_LIMIT
      (units tree.commands) (units_rise tree.commands s.commands_rise) few (λ absent. free) in
      record {
        names_rise = s.names_rise;
        names = s.names;
        variables = s.variables;
        variables_few = s.variables_few;
        commands_rise = subst (IsStrictlySortedBy byte_order) (keys_inserted tree.commands name)
            (units_laws.inserted (units tree.commands) name tt (units_rise tree.commands s.commands_rise)).rising;
        commands = All-insert_key byte_order name IsName tree.commands s.commands lawful;
        commands_few = subst (λ (l : List (List ℕ)). length l ≤ COMMAND_LIMIT)
            (keys_inserted tree.commands name)
            (rw (length-keys_of (insert_entry byte_order (units tree.commands) name tt)) more);
      }

  without_command_sound : (name : List ℕ) → IsSoundTree (without_command tree name)
  without_command_sound name =
      let few : length (units tree.commands) ≤ COMMAND_LIMIT =
      omega (arith, s.commands_few, length-units tree.commands) in
      let fewer = few_removed units_laws.taken units_laws.absent name COMMAND_LIMIT (units tree.commands) few in
      record {
        names_rise = s.names_rise;
        names = s.names;
        variables = s.variables;
        variables_few = s.variables_few;
        commands_rise = subst (IsStrictlySortedBy byte_order) (keys_removed tree.commands name)
            (units_laws.removed (units tree.commands) name (units_rise tree.commands s.commands_rise)).rising;
        commands = All-remove_key (is_at (byte_order name)) IsName tree.commands s.commands;
        commands_few = subst (λ (l : List (List ℕ)). length l ≤ COMMAND_LIMIT)
            (keys_removed tree.commands name)
            (rw (length-keys_of (remove_entry (is_at (byte_order name)) (units tree.commands))) fewer);
      }

  found_sound : (name : List ℕ) (v : VariableState) → variable_at tree name ≡ Some v → IsSoundVariable v
  found_sound name v is = subst (λ (held : Option VariableState). IfSome held IsSoundVariable) is
      (IfSome-lookup_from_All (λ v. IsSoundVariable v) (is_at (byte_order name)) tree.variables s.variables)

  is_held : {P : Type 0} (held : Option VariableState) (v : VariableState) → held ≡ Some v → IsNone held → P
  is_held held v is none = absurd (cc)

  -- what becomes of the tree
  abbrev Sound : Result (TreeState × Effect) DriverFault → Type 0
  Sound step = IfOk step (λ after. IsSoundTree after.0)

  full_cases : (name value : List ℕ) → IsName name → IsTrue (is_value value) →
      (full : Bool) → nat_le VARIABLE_LIMIT (length tree.variables) ≡ full →
      Sound (if full then Err Full else Ok (with_variable tree name (new_variable value), Changed))
  full_cases name value lawful value_lawful true is = tt
  full_cases name value lawful value_lawful false is =
      let room : length tree.variables < VARIABLE_LIMIT = grind (arith, nat_tests, common_steps) in
      with_variable_sound name (new_variable value) lawful (new_sound value value_lawful) (λ absent. room)

  set_info_sound : (name value : List ℕ) → IsName name → IsTrue (is_value value) →
      (held : Option VariableState) → variable_at tree name ≡ held → Sound (set_info tree name value held)
  set_info_sound name value lawful value_lawful None is =
      full_cases name value lawful value_lawful (nat_le VARIABLE_LIMIT (length tree.variables)) refl
  set_info_sound name value lawful value_lawful (Some v) is =
      with_variable_sound name (with_value value v) lawful
      (with_value_sound v (found_sound name v is) value value_lawful) (is_held (variable_at tree name) v is)

  delete_info_sound : (name : List ℕ) (held : Option VariableState) → Sound (delete_info tree name held)
  delete_info_sound name None = tt
  delete_info_sound name (Some v) = without_variable_sound name

  back_sound : (name : List ℕ) (v : VariableState) → IsName name → variable_at tree name ≡
      Some v → (change : Result (Option VariableState) DriverFault) → SoundChange change →
      Sound (put_back tree name change)
  back_sound name v lawful is (Err fault) sound = tt
  back_sound name v lawful is (Ok None) sound = s
  back_sound name v lawful is (Ok (Some w)) sound =
      with_variable_sound name w lawful sound (is_held (variable_at tree name) v is)

  on_variable_by : (name : List ℕ)
      (line : VariableState → Result (Option VariableState) DriverFault) → IsName name →
      ((v : VariableState) → IsSoundVariable v → SoundChange (line v)) →
      (held : Option VariableState) → variable_at tree name ≡ held → Sound (if_there tree name held line)
  on_variable_by name line lawful sound None is = tt
  on_variable_by name line lawful sound (Some v) is =
      back_sound name v lawful is (line v) (sound v (found_sound name v is))

  on_variable_sound : (name : List ℕ)
      (line : VariableState → Result (Option VariableState) DriverFault) → IsName name →
      ((v : VariableState) → IsSoundVariable v → SoundChange (line v)) → Sound (on_variable tree name line)
  on_variable_sound name line lawful sound = on_variable_by name line lawful sound (variable_at tree name) refl

  add_command_cases : (name : List ℕ) → IsName name → (there full : Bool) →
      nat_le COMMAND_LIMIT (length tree.commands) ≡ full →
      Sound (if there then Ok (tree, Nothing) else if full then Err Full else Ok (with_command tree name, Changed))
  add_command_cases name lawful true full is = s
  add_command_cases name lawful false true is = tt
  add_command_cases name lawful false false is =
      let room : length tree.commands < COMMAND_LIMIT = grind (arith, nat_tests, common_steps) in
      with_command_sound name lawful room

  delete_command_cases : (name : List ℕ) (there : Bool) →
      Sound (if there then Ok (without_command tree name, Changed) else Err NoSuchItem)
  delete_command_cases name true = without_command_sound name
  delete_command_cases name false = tt

  pub step_sound : (line : DriverLine) → IsLawfulLine line → Sound (driver_step tree line)
  step_sound lines.Blank lawful = s
  step_sound (lines.SetInfo name value) lawful =
      set_info_sound name value lawful.0 lawful.1 (variable_at tree name) refl
  step_sound (lines.DelInfo name) lawful = delete_info_sound name (variable_at tree name)
  step_sound (lines.AddEnum name value) lawful =
      on_variable_sound name (add_enum value) lawful.0 (λ v sound. add_enum_sound v sound value lawful.1)
  step_sound (lines.DelEnum name value) lawful =
      on_variable_sound name (delete_enum value) lawful.0 (λ v sound. delete_enum_sound v sound value)
  step_sound (lines.AddRange name range) lawful =
      on_variable_sound name (add_range range) lawful.0 (λ v sound. add_range_sound v sound range lawful.1)
  step_sound (lines.DelRange name range) lawful =
      on_variable_sound name (delete_range range) lawful.0 (λ v sound. delete_range_sound v sound range)
  step_sound (lines.SetAux name aux) lawful =
      on_variable_sound name (λ variable. Ok (Some (with_aux aux variable))) lawful.0
      (λ v sound. with_aux_sound v sound aux lawful.1)
  step_sound (lines.SetFlags name flags) lawful =
      on_variable_sound name (λ variable. Ok (Some (with_flags flags variable))) lawful
      (λ v sound. with_flags_sound v sound flags)
  step_sound (lines.AddCmd name) lawful =
      add_command_cases name lawful (has_command tree name) (nat_le COMMAND_LIMIT (length tree.commands)) refl
  step_sound (lines.DelCmd name) lawful = delete_command_cases name (has_command tree name)
  step_sound lines.DumpDone lawful = s
  step_sound lines.DataOk lawful = s
  step_sound lines.DataStale lawful = s
  step_sound lines.Pong lawful = s
  step_sound (lines.Tracking id number) lawful = s

none_rise : IsStrictlySortedBy byte_order []
unfolding IsStrictlySortedBy
none_rise = tt

pub empty_sound : IsSoundTree empty_tree
empty_sound = record {
  names_rise = record { rising = none_rise };
  names = All-nil _;
  variables = All-nil _;
  variables_few = omega arith;
  commands_rise = none_rise;
  commands = All-nil _;
  commands_few = omega arith;
}
