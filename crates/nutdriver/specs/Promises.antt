-- What the private parts of a tree promise one another. It is what the definitions say, or out of
-- memory where there would be a change. A reader of the public contracts needs none of it.
use Rattle.std.specs.Prelude.{◌≡◌, ◌≤◌, ℕ, Bool, true, false, Option, Some, None, Result, Ok, Err}
use Rattle.std.specs.Prelude.{IfOk}
use Rattle.nutmap.specs.Meter.{counted_up}
use Rattle.nutdriver.specs.declared.fault.DriverFault.{DriverFault}
use Rattle.nutdriver.specs.declared.fault.DriverFault.TheVariants.{Memory}
use Rattle.nutdriver.specs.declared.effect.Effect.{Effect}
use Rattle.nutdriver.specs.declared.effect.Effect.TheVariants.{Changed}
use Rattle.nutdriver.specs.declared.line.DriverLine.{DriverLine}
use Rattle.nutdriver.specs.declared.line.DriverLine.TheVariants as lines
use Rattle.nutdriver.specs.Variable.{VariableState, add_enum, delete_enum, add_range, delete_range}
use Rattle.nutdriver.specs.Variable.{with_aux, with_flags}
use Rattle.nutdriver.specs.Tree.{TreeState}
use Rattle.nutdriver.specs.DriverStep.{is_change}

-- What a line does to the variable that it names, which has to be there. Other lines do nothing to
-- it.
abbrev pub variable_step : DriverLine → VariableState → Result (Option VariableState) DriverFault
variable_step (lines.AddEnum name value) v = add_enum value v
variable_step (lines.DelEnum name value) v = delete_enum value v
variable_step (lines.AddRange name range) v = add_range range v
variable_step (lines.DelRange name range) v = delete_range range v
variable_step (lines.SetAux name aux) v = Ok (Some (with_aux aux v))
variable_step (lines.SetFlags name flags) v = Ok (Some (with_flags flags v))
variable_step _ v = Ok None

-- The variable would change.
abbrev pub is_other : Result (Option VariableState) DriverFault → Bool
is_other (Ok (Some variable)) = true
is_other _ = false

-- What is answered of a variable, where `would` is what becomes of it.
abbrev pub AnswersChange : Result (Option VariableState) DriverFault
    → Result (Option VariableState) DriverFault → Type 0
AnswersChange would (Ok changed) = would ≡ Ok changed
AnswersChange would (Err Memory) = is_other would ≡ true
AnswersChange would (Err fault) = would ≡ Err fault

-- What is answered of a line on the tree `old`, and the tree afterwards, where `would` is the
-- line's step.
abbrev pub AnswersStep : Result (TreeState × Effect) DriverFault → TreeState
    → Result Effect DriverFault → TreeState → Type 0
AnswersStep would old (Ok effect) new = would ≡ Ok (new, effect)
AnswersStep would old (Err Memory) new = (is_change would ≡ true) × (new ≡ old)
AnswersStep would old (Err fault) new = (would ≡ Err fault) × (new ≡ old)

-- A change is counted: the meter goes from `old` to `new`.
abbrev pub CountsChange : Result Effect DriverFault → ℕ → ℕ → Type 0
CountsChange result old new = IfOk result (λ effect. effect ≡ Changed → counted_up old ≤ new)
