-- The last line on a variable decides it.
use Rattle.std.proofs.Common.{◌≡◌, ℕ, Bool, true, false, cond, List, [], ◌∷◌}
use Rattle.std.proofs.Common.{◌++◌, Option, Some, None, refl, sym, ap, ◌∙◌, length}
use Rattle.std.specs.Prelude.{nat_le, Result, Ok, Err, IfOk, IfSome, if◌then◌else◌, option_map}
use Rattle.std.specs.List.{list_any}
use Rattle.std.specs.Str.{bytes_eq}
use Rattle.std.proofs.lemmas.Bool.{or_parts}
use Rattle.std.proofs.lemmas.Slice.Eq.{bytes_eq-Decides}
use Rattle.nutmap.specs.Entries.{HasRisingKeys}
use Rattle.nutdriver.specs.declared.limits.TheConstants.{VARIABLE_LIMIT, COMMAND_LIMIT, ENUM_LIMIT, RANGE_LIMIT}
use Rattle.nutdriver.specs.declared.effect.Effect.{Effect}
use Rattle.nutdriver.specs.declared.effect.Effect.TheVariants.{Nothing, Changed}
use Rattle.nutdriver.specs.declared.fault.DriverFault.{DriverFault}
use Rattle.nutdriver.specs.declared.fault.DriverFault.TheVariants.{NoSuchItem, Full}
use Rattle.nutdriver.specs.declared.line.DriverLine.{DriverLine}
use Rattle.nutdriver.specs.declared.line.DriverLine.TheVariants as reports
use Rattle.nutdriver.specs.Variable.{VariableState, new_variable, has_value, has_range, with_value}
use Rattle.nutdriver.specs.Variable.{add_enum, delete_enum, add_range, delete_range, with_aux}
use Rattle.nutdriver.specs.Variable.{with_flags}
use Rattle.nutdriver.specs.Tree.{TreeState, byte_order, variable_at, with_variable}
use Rattle.nutdriver.specs.Tree.{without_variable, has_command, with_command, without_command}
use Rattle.nutdriver.specs.DriverStep.{driver_step, put_back, on_variable, if_there, set_info, delete_info}
use Rattle.nutdriver.specs.Report.{connected_report, after_heard}
use Rattle.nutdriver.specs.Sound.{EachLineKeepsTheTreeSound}
use Rattle.nutdriver.specs.LastLine.{changes, value_of, decides, NoneDecides}
use Rattle.nutdriver.specs.LastLine.{OtherLinesLeaveTheValue, TheLastLineOnAVariableDecidesIt}
use Rattle.nutdriver.proofs.Histories.{ChangeLaws, StepDoes, after_step_holds, changed_key, lines_hold}
use Rattle.nutdriver.proofs.SoundTrees.{empty_sound}

-- what a line that changes the tree does to the value of a name
abbrev after_one : List ℕ → Option (List ℕ) → DriverLine → Option (List ℕ)
after_one name before (reports.SetInfo other value) = cond (bytes_eq other name) (Some value) before
after_one name before (reports.DelInfo other) = cond (bytes_eq other name) None before
after_one name before _ = before

after_all : List ℕ → Option (List ℕ) → List DriverLine → Option (List ℕ)
after_all name before [] = before
after_all name before (line ∷ lines) = after_all name (after_one name before line) lines

all_both : (name : List ℕ) (before : Option (List ℕ)) (xs ys : List DriverLine) →
    after_all name before (xs ++ ys) ≡ after_all name (after_all name before xs) ys
unfolding after_all
all_both name before [] ys = refl
all_both name before (x ∷ xs) ys = all_both name (after_one name before x) xs ys

none_by : (name : List ℕ) (before : Option (List ℕ)) (line : DriverLine) →
    decides name line ≡ false → after_one name before line ≡ before
none_by name before (reports.SetInfo other value) h = ap (λ (b : Bool). cond b (Some value) before) h
none_by name before (reports.DelInfo other) h = ap (λ (b : Bool). cond b None before) h
none_by name before _ h = refl

none_after : (name : List ℕ) (before : Option (List ℕ)) (lines : List DriverLine) →
    NoneDecides name lines → after_all name before lines ≡ before
unfolding after_all
none_after name before [] h = refl
none_after name before (line ∷ lines) h =
    let parts = or_parts (decides name line) (list_any (decides name) lines) h in
    ap (λ (o : Option (List ℕ)). after_all name o lines) (none_by name before line parts.0) ∙
    none_after name before lines parts.1

abbrev value_in : Option VariableState → Option (List ℕ)
value_in held = option_map (λ v. v.value) held

value_by : (b : Bool) (after held : Option VariableState) → value_in (cond b after held) ≡
    cond b (value_in after) (value_in held)
value_by true after held = refl
value_by false after held = refl

-- what a line does to the value of each name
abbrev Gives : (List ℕ → Option (List ℕ) → Option (List ℕ)) → TreeState → TreeState → Type 0
Gives gives tree after = (name : List ℕ) → value_of after name ≡ gives name (value_of tree name)

abbrev StepGives : (List ℕ → Option (List ℕ) → Option (List ℕ)) → TreeState
    → Result (TreeState × Effect) DriverFault → Type 0
StepGives gives tree step = StepDoes (Gives gives tree) tree step

-- what leaves the value
abbrev LeavesValue : VariableState → Result (Option VariableState) DriverFault → Type 0
LeavesValue v change = IfOk change (λ changed. IfSome changed (λ w. w.value ≡ v.value))

abbrev same : List ℕ → Option (List ℕ) → Option (List ℕ)
same name before = before

module _ (laws : ChangeLaws) (tree : TreeState) (rise : HasRisingKeys byte_order tree.variables) where
  put_gives : (this : List ℕ) (w : VariableState) (name : List ℕ) →
      value_of (with_variable tree this w) name ≡ cond (bytes_eq this name) (Some w.value) (value_of tree name)
  put_gives this w name =
      ap value_in (changed_key tree.variables (with_variable tree this w).variables this (Some w)
      (laws.inserted tree.variables this w rise) name)
      ∙ value_by (bytes_eq this name) (Some w) (variable_at tree name)

  set_info_gives : (this value : List ℕ) (held : Option VariableState) →
      StepGives (λ name before. cond (bytes_eq this name) (Some value) before) tree (set_info tree this value held)
  set_info_gives this value None = by_room (nat_le VARIABLE_LIMIT (length tree.variables))
    where
      by_room : (full : Bool) → StepGives
          (λ name before. cond (bytes_eq this name) (Some value) before) tree
          (if full then Err Full else Ok (with_variable tree this (new_variable value), Changed))
      by_room true = tt
      by_room false = put_gives this (new_variable value)
  set_info_gives this value (Some v) = put_gives this (with_value value v)

  delete_info_gives : (this : List ℕ) (held : Option VariableState) →
      StepGives (λ name before. cond (bytes_eq this name) None before) tree (delete_info tree this held)
  delete_info_gives this None = tt
  delete_info_gives this (Some v) = λ name.
      ap value_in (changed_key tree.variables (without_variable tree this).variables this None
      (laws.removed tree.variables this rise) name)
      ∙ value_by (bytes_eq this name) None (variable_at tree name)

  on_variable_leaves : (this : List ℕ)
      (line : VariableState → Result (Option VariableState) DriverFault) →
      ((v : VariableState) → LeavesValue v (line v)) → StepGives same tree (on_variable tree this line)
  on_variable_leaves this line leaves = by_held (variable_at tree this) refl
    where
      by_change : (v : VariableState) → variable_at tree this ≡ Some v →
          (change : Result (Option VariableState) DriverFault) → LeavesValue v change →
          StepGives same tree (put_back tree this change)
      by_change v is (Err fault) h = tt
      by_change v is (Ok None) h = refl
      by_change v is (Ok (Some w)) h = λ name. put_gives this w name ∙ by_name name (bytes_eq this name) refl
        where
          by_name : (name : List ℕ) (b : Bool) → bytes_eq this name ≡ b →
              cond b (Some w.value) (value_of tree name) ≡ value_of tree name
          by_name name true e =
              ap (λ (o : List ℕ). Some o) h ∙ ap value_in (sym is) ∙
              ap (value_of tree) ((bytes_eq-Decides this name).0 e)
          by_name name false e = refl

      by_held : (held : Option VariableState) → variable_at tree this ≡ held →
          StepGives same tree (if_there tree this held line)
      by_held None is = tt
      by_held (Some v) is = by_change v is (line v) (leaves v)

  if_room : (v w : VariableState) (there full : Bool) → w.value ≡ v.value →
      LeavesValue v (if there then Ok None else if full then Err Full else Ok (Some w))
  if_room v w true full h = tt
  if_room v w false true h = tt
  if_room v w false false h = h

  where_there : (v w : VariableState) (there : Bool) → w.value ≡ v.value →
      LeavesValue v (if there then Ok (Some w) else Err NoSuchItem)
  where_there v w true h = h
  where_there v w false h = tt

  add_command_leaves : (command : List ℕ) (there full : Bool) →
      StepGives same tree (if there then Ok (tree, Nothing) else if full then Err Full else Ok
      (with_command tree command, Changed))
  add_command_leaves command true full = refl
  add_command_leaves command false true = tt
  add_command_leaves command false false = λ name. refl

  delete_command_leaves : (command : List ℕ) (there : Bool) →
      StepGives same tree (if there then Ok (without_command tree command, Changed) else Err NoSuchItem)
  delete_command_leaves command true = λ name. refl
  delete_command_leaves command false = tt

  line_gives : (line : DriverLine) →
      StepGives (λ name before. after_one name before line) tree (driver_step tree line)
  line_gives (reports.SetInfo this value) = set_info_gives this value (variable_at tree this)
  line_gives (reports.DelInfo this) = delete_info_gives this (variable_at tree this)
  line_gives (reports.AddEnum this value) =
      on_variable_leaves this (add_enum value)
      (λ v. if_room v _ (has_value v.enum_values value) (nat_le ENUM_LIMIT (length v.enum_values)) refl)
  line_gives (reports.DelEnum this value) =
      on_variable_leaves this (delete_enum value) (λ v. where_there v _ (has_value v.enum_values value) refl)
  line_gives (reports.AddRange this range) =
      on_variable_leaves this (add_range range)
      (λ v. if_room v _ (has_range v.ranges range) (nat_le RANGE_LIMIT (length v.ranges)) refl)
  line_gives (reports.DelRange this range) =
      on_variable_leaves this (delete_range range) (λ v. where_there v _ (has_range v.ranges range) refl)
  line_gives (reports.SetAux this aux) =
      on_variable_leaves this (λ variable. Ok (Some (with_aux aux variable))) (λ v. refl)
  line_gives (reports.SetFlags this flags) =
      on_variable_leaves this (λ variable. Ok (Some (with_flags flags variable))) (λ v. refl)
  line_gives (reports.AddCmd command) = add_command_leaves command (has_command tree command)
      (nat_le COMMAND_LIMIT (length tree.commands))
  line_gives (reports.DelCmd command) = delete_command_leaves command (has_command tree command)
  line_gives _ = refl

pub other_lines_leave : ChangeLaws → OtherLinesLeaveTheValue
other_lines_leave laws = λ report line name rise h.
    after_step_holds (λ t. value_of t name ≡ value_of report.tree name) report (driver_step report.tree line)
    (λ after gives. gives name ∙ none_by name (value_of report.tree name) line h) refl
    (line_gives laws report.tree rise line)

-- the last line that decides
pub the_last_line_decides : ChangeLaws → EachLineKeepsTheTreeSound → TheLastLineOnAVariableDecidesIt
unfolding after_all
the_last_line_decides laws kept = λ moment lines name.
    let report = connected_report moment in
    let tree : TreeState = (after_heard report lines).tree in
    let is : value_of tree name ≡ after_all name None (changes report lines) =
    lines_hold kept (λ t done. (n : List ℕ) → value_of t n ≡ after_all n None done)
    (λ t line after. Gives (λ n before. after_one n before line) t after) (line_gives laws)
    (λ t after line done h gives. λ n.
    gives n ∙ ap (λ o. after_one n o line) (h n) ∙ sym (all_both n None done (line ∷ [])))
    report lines [] empty_sound (λ n. refl) name in
    let own : bytes_eq name name ≡ true = (bytes_eq-Decides name name).1 refl in
    record {
      given = λ earlier later value e none.
          is ∙ ap (after_all name None) e ∙
          all_both name None earlier (reports.SetInfo name value ∷ later) ∙
          none_after name _ later none ∙ ap (λ (b : Bool). cond b (Some value) (after_all name None earlier)) own;
      taken = λ earlier later e none.
          is ∙ ap (after_all name None) e ∙
          all_both name None earlier (reports.DelInfo name ∷ later) ∙ none_after name _ later none ∙
          ap (λ (b : Bool). cond b None (after_all name None earlier)) own;
      never = λ none. is ∙ none_after name None (changes report lines) none;
    }
