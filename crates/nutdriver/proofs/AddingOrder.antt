-- The enum values and ranges of a variable are what lines added and didn't take away, in the order
-- of adding.
use Rattle.std.proofs.Common.{◌≡◌, ℕ, Bool, true, false, cond, List, [], ◌∷◌}
use Rattle.std.proofs.Common.{◌++◌, Option, Some, None, refl, sym, ap}
use Rattle.std.proofs.Common.{◌∙◌, append-nil, append_assoc, length}
use Rattle.std.specs.Prelude.{◌&&◌, ◌||◌, not, nat_le, filter, Result, Ok, Err, IfOk}
use Rattle.std.specs.Prelude.{IfSome, if◌then◌else◌}
use Rattle.std.specs.List.{list_any}
use Rattle.std.specs.Option.{option_map_or}
use Rattle.std.specs.Str.{bytes_eq}
use Rattle.std.specs.BTreeMap.{is_at}
use Rattle.std.proofs.lemmas.List.Elements.{filter-append}
use Rattle.std.proofs.lemmas.List.Folds.{list_any-append}
use Rattle.std.proofs.lemmas.Map.Text.{is_eq-slice_cmp}
use Rattle.std.proofs.lemmas.Map.Views.{IfSome-lookup_from_All}
use Rattle.std.proofs.lemmas.Slice.Eq.{bytes_eq-Decides}
use Rattle.nutmap.specs.Entries.{HasRisingKeys, value_at}
use Rattle.nutmap.specs.FiniteMap.{ChangesOneKey}
use Rattle.nutdriver.specs.declared.limits.TheConstants.{VARIABLE_LIMIT}
use Rattle.nutdriver.specs.declared.effect.Effect.{Effect}
use Rattle.nutdriver.specs.declared.effect.Effect.TheVariants.{Nothing, Changed}
use Rattle.nutdriver.specs.declared.fault.DriverFault.{DriverFault}
use Rattle.nutdriver.specs.declared.fault.DriverFault.TheVariants.{NoSuchItem, Full}
use Rattle.nutdriver.specs.declared.line.DriverLine.{DriverLine}
use Rattle.nutdriver.specs.declared.line.DriverLine.TheVariants as reports
use Rattle.nutdriver.specs.declared.range.Range.{Range}
use Rattle.nutdriver.specs.declared.report.Report.{Report}
use Rattle.nutdriver.specs.Variable.{VariableState, new_variable, is_same_range, with_value}
use Rattle.nutdriver.specs.Variable.{add_enum, delete_enum, add_range, delete_range, with_aux, with_flags}
use Rattle.nutdriver.specs.Tree.{TreeState, byte_order, variable_at, with_variable, without_variable}
use Rattle.nutdriver.specs.Tree.{with_command, without_command}
use Rattle.nutdriver.specs.DriverStep.{driver_step, put_back, on_variable, if_there, set_info, delete_info}
use Rattle.nutdriver.specs.Report.{connected_report, after_line, Heard, after_heard}
use Rattle.nutdriver.specs.Sound.{HasNoRepeats, IsSoundVariable, IsSoundTree, EachLineKeepsTheTreeSound}
use Rattle.nutdriver.specs.LastLine.{changes}
use Rattle.nutdriver.specs.Additions.{unless_taken, kept_additions, added_value, takes_value, added_range}
use Rattle.nutdriver.specs.Additions.{takes_range, ListsAreInTheOrderOfAdding}
use Rattle.nutdriver.proofs.Histories.{ChangeLaws, StepDoes, apart_by, lines_hold}
use Rattle.nutdriver.proofs.SoundTrees.{none_once, empty_sound}
use Rattle.nutmap.proofs.Finite.{equal_when}

-- ---- one line more
abbrev one_if : {X : Type 0} → Option X → List X
one_if None = []
one_if (Some x) = x ∷ []

-- a list without what is taken, and what is added at its end
abbrev moved : {X : Type 0} → (X → Bool) → Option X → List X → List X
moved takes added xs = filter (λ x. not (takes x)) xs ++ one_if added

module _ {X : Type 0} (adds : DriverLine → Option X) (takes : DriverLine → X → Bool) where
  -- an item that was kept before it
  item_left : (line : DriverLine) (item : X) (gone here : Bool) → takes line item ≡ here
      → cond (gone || (here || false)) [] (item ∷ []) ≡
      filter (λ x. not (takes line x)) (cond gone [] (item ∷ []))
  item_left line item true here is = refl
  item_left line item false true is = ap (λ b. cond (not b) (item ∷ []) []) (sym is)
  item_left line item false false is = ap (λ b. cond (not b) (item ∷ []) []) (sym is)

  items_left : (lines : List DriverLine) (line : DriverLine) (added : Option X)
      → unless_taken takes (lines ++ line ∷ []) added ≡ filter (λ x. not (takes line x))
      (unless_taken takes lines added)
  items_left lines line None = refl
  items_left lines line (Some item) =
      ap (λ b. cond b [] (item ∷ [])) (list_any-append (λ l. takes l item) lines (line ∷ []))
      ∙ item_left line item (list_any (λ l. takes l item) lines) (takes line item) refl

  alone : (line : DriverLine) (added : Option X) → unless_taken takes [] added ++ [] ≡ one_if added
  alone line None = refl
  alone line (Some item) = refl

  kept_additions-push : (lines : List DriverLine) (line : DriverLine)
      → kept_additions adds takes (lines ++ line ∷ []) ≡ moved (takes line) (adds line)
      (kept_additions adds takes lines)
  kept_additions-push [] line = alone line (adds line)
  kept_additions-push (l ∷ lines) line =
      let left = unless_taken takes lines (adds l) in
      let rest = kept_additions adds takes lines in
      let kept : List X → List X = filter (λ x. not (takes line x)) in
      ap (λ xs. xs ++ kept_additions adds takes (lines ++ line ∷ [])) (items_left lines line (adds l))
      ∙ ap (λ xs. kept left ++ xs) (kept_additions-push lines line)
      ∙ sym (append_assoc (kept left) (kept rest) (one_if (adds line)))
      ∙ ap (λ xs. xs ++ one_if (adds line)) (sym (filter-append (λ x. not (takes line x)) left rest))

-- ---- a change of one variable
all_kept : {X : Type 0} (xs : List X) → xs ≡ moved (λ x. false) None xs
all_kept [] = refl
all_kept (x ∷ xs) = ap (λ l. x ∷ l) (all_kept xs)

none_kept : {X : Type 0} (xs : List X) → [] ≡ moved (λ x. true) None xs
none_kept [] = refl
none_kept (x ∷ xs) = none_kept xs

module _ {X : Type 0} (items : VariableState → List X) where
  abbrev items_of : Option VariableState → List X
  items_of held = option_map_or items held []

  abbrev items_at : TreeState → List ℕ → List X
  items_at tree name = items_of (variable_at tree name)

  -- what is taken and added at the names that are `this` one, or aren't
  change_moves : (old new : List (List ℕ × VariableState)) (this : List ℕ) (held after : Option VariableState)
      (takes : Bool → X → Bool) (added : Bool → Option X)
      → ChangesOneKey byte_order old new this after → value_at byte_order old this ≡ held
      → items_of after ≡ moved (takes true) (added true) (items_of held)
      → ((xs : List X) → xs ≡ moved (takes false) (added false) xs)
      → (name : List ℕ)
      → items_of (value_at byte_order new name) ≡ moved (takes (bytes_eq this name)) (added (bytes_eq this name))
      (items_of (value_at byte_order old name))
  change_moves old new this held after takes added one is here elsewhere name = by_name (bytes_eq this name) refl
    where
      by_name : (b : Bool) → bytes_eq this name ≡ b
          → items_of (value_at byte_order new name) ≡ moved (takes b) (added b)
          (items_of (value_at byte_order old name))
      by_name true e =
          let same : this ≡ name = (bytes_eq-Decides this name).0 e in
          ap items_of (one.here name (equal_when (byte_order this name) (is_eq-slice_cmp this name ∙ e)))
          ∙ here
          ∙ ap (λ o. moved (takes true) (added true) (items_of o)) (sym is ∙ ap (value_at byte_order old) same)
      by_name false e =
          ap items_of (one.elsewhere name (apart_by (byte_order this name) (is_eq-slice_cmp this name ∙ e)))
          ∙ elsewhere (items_of (value_at byte_order old name))

  -- what a line takes and adds at each name
  abbrev Moves : (List ℕ → X → Bool) → (List ℕ → Option X) → TreeState → TreeState → Type 0
  Moves takes added tree after =
      (name : List ℕ) → items_at after name ≡ moved (takes name) (added name) (items_at tree name)

  abbrev StepMoves : (List ℕ → X → Bool) → (List ℕ → Option X) → TreeState →
      Result (TreeState × Effect) DriverFault
      → Type 0
  StepMoves takes added tree step = StepDoes (Moves takes added tree) tree step

  -- what becomes of a variable
  abbrev VariableMoves : (X → Bool) → Option X → VariableState →
      Result (Option VariableState) DriverFault → Type 0
  VariableMoves takes added v change =
      IfOk change (λ changed. IfSome changed (λ w. items w ≡ moved takes added (items v)))

  module _ (laws : ChangeLaws) (tree : TreeState) (rise : HasRisingKeys byte_order tree.variables) where
    put_moves : (this : List ℕ) (held : Option VariableState) (w : VariableState) (takes : Bool → X → Bool)
        (added : Bool → Option X) → variable_at tree this ≡ held
        → items w ≡ moved (takes true) (added true) (items_of held)
        → ((xs : List X) → xs ≡ moved (takes false) (added false) xs)
        → StepMoves (λ name. takes (bytes_eq this name)) (λ name. added (bytes_eq this name)) tree
        (Ok (with_variable tree this w, Changed))
    put_moves this held w takes added is here elsewhere =
        change_moves tree.variables (with_variable tree this w).variables this held (Some w) takes added
        (laws.inserted tree.variables this w rise) is here elsewhere

    set_info_moves : (this value : List ℕ) (held : Option VariableState) → variable_at tree this ≡ held
        → items (new_variable value) ≡ [] → ((v : VariableState) → items (with_value value v) ≡ items v)
        → StepMoves (λ name x. false) (λ name. None) tree (set_info tree this value held)
    set_info_moves this value None is none same = by_room (nat_le VARIABLE_LIMIT (length tree.variables))
      where
        by_room : (full : Bool)
            → StepMoves (λ name x. false) (λ name. None) tree
            (if full then Err Full else Ok (with_variable tree this (new_variable value), Changed))
        by_room true = tt
        by_room false = put_moves this None (new_variable value) (λ b x. false) (λ b. None) is none all_kept
    set_info_moves this value (Some v) is none same =
        put_moves this (Some v) (with_value value v) (λ b x. false) (λ b. None) is (same v ∙ all_kept (items v))
        all_kept

    delete_info_moves : (this : List ℕ) (held : Option VariableState) → variable_at tree this ≡ held
        → StepMoves (λ name x. bytes_eq this name) (λ name. None) tree (delete_info tree this held)
    delete_info_moves this None is = tt
    delete_info_moves this (Some v) is =
        change_moves tree.variables (without_variable tree this).variables this (Some v) None (λ b x. b) (λ b. None)
        (laws.removed tree.variables this rise) is (none_kept (items v)) all_kept

    on_variable_moves : (this : List ℕ) (line : VariableState → Result (Option VariableState) DriverFault)
        (takes : Bool → X → Bool) (added : Bool → Option X)
        → ((v : VariableState) → VariableMoves (takes true) (added true) v (line v))
        → ((xs : List X) → xs ≡ moved (takes false) (added false) xs)
        → StepMoves (λ name. takes (bytes_eq this name)) (λ name. added (bytes_eq this name)) tree
        (on_variable tree this line)
    on_variable_moves this line takes added here elsewhere = by_held (variable_at tree this) refl
      where
        by_change : (v : VariableState) → variable_at tree this ≡ Some v
            → (change : Result (Option VariableState) DriverFault) →
            VariableMoves (takes true) (added true) v change
            → StepMoves (λ name. takes (bytes_eq this name)) (λ name. added (bytes_eq this name)) tree
            (put_back tree this change)
        by_change v is (Err fault) h = tt
        by_change v is (Ok None) h = refl
        by_change v is (Ok (Some w)) h = put_moves this (Some v) w takes added is h elsewhere

        by_held : (held : Option VariableState) → variable_at tree this ≡ held
            → StepMoves (λ name. takes (bytes_eq this name)) (λ name. added (bytes_eq this name)) tree
            (if_there tree this held line)
        by_held None is = tt
        by_held (Some v) is = by_change v is (line v) (here v)

    -- a line of a variable that leaves these items
    on_variable_keeps : (this : List ℕ) (line : VariableState → Result (Option VariableState) DriverFault)
        → ((v : VariableState) → VariableMoves (λ x. false) None v (line v))
        → StepMoves (λ name x. false) (λ name. None) tree (on_variable tree this line)
    on_variable_keeps this line here = on_variable_moves this line (λ b x. false) (λ b. None) here all_kept

    add_command_keeps : (command : List ℕ) (there full : Bool)
        → StepMoves (λ name x. false) (λ name. None) tree
        (if there then Ok (tree, Nothing) else if full then Err Full else Ok (with_command tree command, Changed))
    add_command_keeps command true full = refl
    add_command_keeps command false true = tt
    add_command_keeps command false false = λ name. all_kept (items_at tree name)

    delete_command_keeps : (command : List ℕ) (there : Bool)
        → StepMoves (λ name x. false) (λ name. None) tree
        (if there then Ok (without_command tree command, Changed) else Err NoSuchItem)
    delete_command_keeps command true = λ name. all_kept (items_at tree name)
    delete_command_keeps command false = tt

-- ---- what a line adds to a list of a variable, or takes from it; what other lists keep
module _ {X : Type 0} (items : VariableState → List X) (takes : X → Bool) (added : Option X) (v w : VariableState)
    (h : items w ≡ moved takes added (items v)) where
  added_by : (there full : Bool)
      → VariableMoves items takes added v (if there then Ok None else if full then Err Full else Ok (Some w))
  added_by true full = tt
  added_by false true = tt
  added_by false false = h

  taken_by : (there : Bool) → VariableMoves items takes added v (if there then Ok (Some w) else Err NoSuchItem)
  taken_by true = h
  taken_by false = tt

pushed : {X : Type 0} (xs : List X) (x : X) → xs ++ x ∷ [] ≡ moved (λ x. false) (Some x) xs
pushed {X} xs x = ap (λ l. l ++ x ∷ []) (all_kept xs ∙ append-nil (filter (λ (y : X). true) xs))

left_out : {X : Type 0} (takes : X → Bool) (xs : List X) → filter (λ x. not (takes x)) xs ≡ moved takes None xs
left_out takes xs = sym (append-nil (filter (λ x. not (takes x)) xs))

abbrev values : VariableState → List (List ℕ)
values v = v.enum_values

abbrev ranges : VariableState → List Range
ranges v = v.ranges

module _ (laws : ChangeLaws) (tree : TreeState) (rise : HasRisingKeys byte_order tree.variables) where
  values_move : (line : DriverLine)
      → StepMoves values (λ name. takes_value name line) (λ name. added_value name line) tree
      (driver_step tree line)
  values_move (reports.SetInfo this value) = set_info_moves values laws tree rise this value _ refl refl (λ v. refl)
  values_move (reports.DelInfo this) = delete_info_moves values laws tree rise this _ refl
  values_move (reports.AddEnum this value) =
      on_variable_moves values laws tree rise this (add_enum value) (λ b x. false)
      (λ b. if b then Some value else None)
      (λ v. added_by values (λ x. false) (Some value) v _ (pushed v.enum_values value) _ _)
      all_kept
  values_move (reports.DelEnum this value) =
      on_variable_moves values laws tree rise this (delete_enum value) (λ b x. b && bytes_eq x value) (λ b. None)
      (λ v. taken_by values (λ x. bytes_eq x value) None v _ (left_out (λ x. bytes_eq x value) v.enum_values) _)
      all_kept
  values_move (reports.AddRange this range) =
      on_variable_keeps values laws tree rise this (add_range range)
      (λ v. added_by values (λ x. false) None v _ (all_kept v.enum_values) _ _)
  values_move (reports.DelRange this range) =
      on_variable_keeps values laws tree rise this (delete_range range)
      (λ v. taken_by values (λ x. false) None v _ (all_kept v.enum_values) _)
  values_move (reports.SetAux this aux) =
      on_variable_keeps values laws tree rise this (λ variable. Ok (Some (with_aux aux variable)))
      (λ v. all_kept v.enum_values)
  values_move (reports.SetFlags this flags) =
      on_variable_keeps values laws tree rise this (λ variable. Ok (Some (with_flags flags variable)))
      (λ v. all_kept v.enum_values)
  values_move (reports.AddCmd command) = add_command_keeps values laws tree rise command _ _
  values_move (reports.DelCmd command) = delete_command_keeps values laws tree rise command _
  values_move _ = refl

  ranges_move : (line : DriverLine)
      → StepMoves ranges (λ name. takes_range name line) (λ name. added_range name line) tree
      (driver_step tree line)
  ranges_move (reports.SetInfo this value) = set_info_moves ranges laws tree rise this value _ refl refl (λ v. refl)
  ranges_move (reports.DelInfo this) = delete_info_moves ranges laws tree rise this _ refl
  ranges_move (reports.AddEnum this value) =
      on_variable_keeps ranges laws tree rise this (add_enum value)
      (λ v. added_by ranges (λ x. false) None v _ (all_kept v.ranges) _ _)
  ranges_move (reports.DelEnum this value) =
      on_variable_keeps ranges laws tree rise this (delete_enum value)
      (λ v. taken_by ranges (λ x. false) None v _ (all_kept v.ranges) _)
  ranges_move (reports.AddRange this range) =
      on_variable_moves ranges laws tree rise this (add_range range) (λ b x. false)
      (λ b. if b then Some range else None)
      (λ v. added_by ranges (λ x. false) (Some range) v _ (pushed v.ranges range) _ _)
      all_kept
  ranges_move (reports.DelRange this range) =
      on_variable_moves ranges laws tree rise this (delete_range range)
      (λ b x. b && is_same_range x range) (λ b. None)
      (λ v. taken_by ranges (λ x. is_same_range x range) None v _ (left_out (λ x. is_same_range x range) v.ranges) _)
      all_kept
  ranges_move (reports.SetAux this aux) =
      on_variable_keeps ranges laws tree rise this (λ variable. Ok (Some (with_aux aux variable)))
      (λ v. all_kept v.ranges)
  ranges_move (reports.SetFlags this flags) =
      on_variable_keeps ranges laws tree rise this (λ variable. Ok (Some (with_flags flags variable)))
      (λ v. all_kept v.ranges)
  ranges_move (reports.AddCmd command) = add_command_keeps ranges laws tree rise command _ _
  ranges_move (reports.DelCmd command) = delete_command_keeps ranges laws tree rise command _
  ranges_move _ = refl

-- the lists after lines, one after another
module _ {X : Type 0} (items : VariableState → List X) (adds : List ℕ → DriverLine → Option X)
    (takes : List ℕ → DriverLine → X → Bool) (kept : EachLineKeepsTheTreeSound)
    (moves : (tree : TreeState) → HasRisingKeys byte_order tree.variables → (line : DriverLine)
    → StepMoves items (λ name. takes name line) (λ name. adds name line) tree (driver_step tree line)) where
  items_after : (moment : ℕ) (lines : List Heard) (name : List ℕ)
      → items_at items (after_heard (connected_report moment) lines).tree name
      ≡ kept_additions (adds name) (takes name) (changes (connected_report moment) lines)
  items_after moment lines =
      lines_hold kept (λ t done. (n : List ℕ) → items_at items t n ≡ kept_additions (adds n) (takes n) done)
      (λ t line after. Moves items (λ n. takes n line) (λ n. adds n line) t after) moves
      (λ t after line done h m. λ n.
      m n ∙ ap (moved (takes n line) (adds n line)) (h n) ∙ sym (kept_additions-push (adds n) (takes n) done line))
      (connected_report moment) lines [] empty_sound (λ n. refl)

-- a sound tree after lines, and its lists
lines_sound : EachLineKeepsTheTreeSound → (report : Report) (lines : List Heard) → IsSoundTree report.tree
    → IsSoundTree (after_heard report lines).tree
lines_sound kept report [] sound = sound
lines_sound kept report (x ∷ lines) sound =
    lines_sound kept (after_line x.moment report x.line).0 lines (kept x.moment report x.line sound)

held_once : {X : Type 0} (items : VariableState → List X)
    → ((v : VariableState) → IsSoundVariable v → HasNoRepeats (items v)) → (held : Option VariableState)
    → IfSome held IsSoundVariable → HasNoRepeats (items_of items held)
held_once items once None h = none_once
held_once items once (Some v) h = once v h

pub in_the_order_of_adding : ChangeLaws → EachLineKeepsTheTreeSound → ListsAreInTheOrderOfAdding
in_the_order_of_adding laws kept = λ moment lines name.
    let report = connected_report moment in
    let tree = (after_heard report lines).tree in
    let sound : IsSoundTree tree = lines_sound kept report lines empty_sound in
    let held : IfSome (variable_at tree name) IsSoundVariable =
    IfSome-lookup_from_All (λ v. IsSoundVariable v) (is_at (byte_order name)) tree.variables sound.variables in
    record {
      enum_values = items_after values added_value takes_value kept (values_move laws) moment lines name;
      enum_values_once = held_once (λ v. v.enum_values) (λ v s. s.enum_values_once) (variable_at tree name) held;
      ranges = items_after ranges added_range takes_range kept (ranges_move laws) moment lines name;
      ranges_once = held_once (λ v. v.ranges) (λ v s. s.ranges_once) (variable_at tree name) held;
    }
