-- What lines of a driver do to a tree, one after another.
use Rattle.std.proofs.Common.{◌≡◌, ℕ, Bool, true, false, cond, List, [], ◌∷◌}
use Rattle.std.proofs.Common.{◌++◌, Option, Some, None, refl, sym, ap}
use Rattle.std.proofs.Common.{subst, ◌∙◌, append-nil, append_assoc, true≢false}
use Rattle.std.specs.Prelude.{◌≢◌, Result, Ok, Err, if◌then◌else◌}
use Rattle.std.specs.Ordering.{is_eq}
use Rattle.std.specs.Str.{bytes_eq}
use Rattle.std.specs.BTreeMap.{insert_entry, is_at}
use Rattle.std.specs.Map.{remove_entry}
use Rattle.std.specs.declared.cmp.Ordering.{Ordering}
use Rattle.std.specs.declared.cmp.Ordering.TheVariants.{Less, Equal, Greater}
use Rattle.std.proofs.lemmas.Map.Text.{is_eq-slice_cmp}
use Rattle.nutmap.specs.Entries.{HasRisingKeys, value_at}
use Rattle.nutmap.specs.FiniteMap.{ChangesOneKey}
use Rattle.nutdriver.specs.declared.effect.Effect.{Effect}
use Rattle.nutdriver.specs.declared.effect.Effect.TheVariants.{Changed}
use Rattle.nutdriver.specs.declared.fault.DriverFault.{DriverFault}
use Rattle.nutdriver.specs.declared.line.DriverLine.{DriverLine}
use Rattle.nutdriver.specs.declared.report.Report.{Report}
use Rattle.nutdriver.specs.Variable.{VariableState}
use Rattle.nutdriver.specs.Tree.{TreeState, byte_order}
use Rattle.nutdriver.specs.DriverLine.{read_driver_line}
use Rattle.nutdriver.specs.DriverStep.{driver_step, is_change}
use Rattle.nutdriver.specs.Report.{after_step, after_reading, after_line, Heard, after_heard}
use Rattle.nutdriver.specs.Sound.{IsSoundTree, EachLineKeepsTheTreeSound}
use Rattle.nutdriver.specs.LastLine.{change_of, changes}
use Rattle.nutmap.proofs.Finite.{equal_when}

-- nutmap's laws of a change
pub record ChangeLaws : Type 0 where
  pub inserted : (map : List (List ℕ × VariableState)) (name : List ℕ) (v : VariableState)
      → HasRisingKeys byte_order map →
      ChangesOneKey byte_order map (insert_entry byte_order map name v) name (Some v)
  pub removed : (map : List (List ℕ × VariableState)) (name : List ℕ) → HasRisingKeys byte_order map
      → ChangesOneKey byte_order map (remove_entry (is_at (byte_order name)) map) name None

pub apart_by : (o : Ordering) → is_eq o ≡ false → o ≢ Equal
apart_by o h = λ same. true≢false (sym (ap is_eq same) ∙ h)

-- what stands at a name after one key was changed
pub changed_key : (old new : List (List ℕ × VariableState)) (this : List ℕ) (after : Option VariableState)
    → ChangesOneKey byte_order old new this after
    → (name : List ℕ) → value_at byte_order new name ≡
    cond (bytes_eq this name) after (value_at byte_order old name)
changed_key old new this after one name = by_name (bytes_eq this name) refl
  where
    by_name : (b : Bool) → bytes_eq this name ≡ b
        → value_at byte_order new name ≡ cond b after (value_at byte_order old name)
    by_name true e = one.here name (equal_when (byte_order this name) (is_eq-slice_cmp this name ∙ e))
    by_name false e = one.elsewhere name (apart_by (byte_order this name) (is_eq-slice_cmp this name ∙ e))

-- what holds of the tree where a line changes it, and else it is left
abbrev pub StepDoes : (TreeState → Type 0) → TreeState → Result (TreeState × Effect) DriverFault → Type 0
StepDoes does tree (Err fault) = Unit {0}
StepDoes does tree (Ok (after, Changed)) = does after
StepDoes does tree (Ok (after, effect)) = after ≡ tree

-- the tree after a step, by what holds of one that was changed and of one that was left
pub after_step_holds : (Holds : TreeState → Type 0) {does : TreeState → Type 0} (report : Report)
    (step : Result (TreeState × Effect) DriverFault)
    → ((after : TreeState) → does after → Holds after) → Holds report.tree → StepDoes does report.tree step
    → Holds (after_step report step).0.tree
after_step_holds Holds report (Err fault) changed left m = left
after_step_holds Holds report (Ok (after, Changed)) changed left m = changed after m
after_step_holds Holds report (Ok (after, _)) changed left m = subst Holds (sym m) left

-- what holds of a tree and the lines that changed it, where each line that changes it leaves that
-- so
module _ (kept : EachLineKeepsTheTreeSound) (Holds : TreeState → List DriverLine → Type 0)
    (Does : TreeState → DriverLine → TreeState → Type 0)
    (steps : (tree : TreeState) → HasRisingKeys byte_order tree.variables → (line : DriverLine)
    → StepDoes (Does tree line) tree (driver_step tree line))
    (more : (tree after : TreeState) (line : DriverLine) (done : List DriverLine) → Holds tree done
    → Does tree line after → Holds after (done ++ line ∷ [])) where
  as_before : (tree : TreeState) (done : List DriverLine) → Holds tree done → Holds tree (done ++ [])
  as_before tree done h = subst (Holds tree) (sym (append-nil done)) h

  step_holds : (report : Report) (line : DriverLine) (done : List DriverLine) → Holds report.tree done
      → (step : Result (TreeState × Effect) DriverFault) → StepDoes (Does report.tree line) report.tree step
      → Holds (after_step report step).0.tree (done ++ (if is_change step then line ∷ [] else []))
  step_holds report line done h (Err fault) m = as_before report.tree done h
  step_holds report line done h (Ok (tree, Changed)) m = more report.tree tree line done h m
  step_holds report line done h (Ok (tree, _)) m =
      as_before tree done (subst (λ (t : TreeState). Holds t done) (sym m) h)

  reading_holds : (report : Report) (reading : Result DriverLine DriverFault) (done : List DriverLine)
      → HasRisingKeys byte_order report.tree.variables → Holds report.tree done
      → Holds (after_reading report reading).0.tree (done ++ change_of report.tree reading)
  reading_holds report (Ok line) done rise h =
      step_holds report line done h (driver_step report.tree line) (steps report.tree rise line)
  reading_holds report (Err fault) done rise h = as_before report.tree done h

  pub lines_hold : (report : Report) (lines : List Heard) (done : List DriverLine) → IsSoundTree report.tree
      → Holds report.tree done
      → Holds (after_heard report lines).tree (done ++ changes report lines)
  lines_hold report [] done sound h = as_before report.tree done h
  lines_hold report (x ∷ lines) done sound h =
      let next = (after_line x.moment report x.line).0 in
      let change = change_of report.tree (read_driver_line x.line) in
      let has : Holds next.tree (done ++ change) =
      reading_holds (record report { heard = x.moment }) (read_driver_line x.line) done sound.names_rise h in
      subst (Holds (after_heard report (x ∷ lines)).tree) (append_assoc done change (changes next lines))
      (lines_hold next lines (done ++ change) (kept x.moment report x.line sound) has)
