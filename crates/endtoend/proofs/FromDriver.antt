-- What a driver set last is what a client prints.
use Rattle.std.proofs.Common.{◌≡◌, ◌∙◌, ℕ, Bool, List, [], ◌∷◌, ◌++◌}
use Rattle.std.proofs.Common.{Option, Some, None, refl, sym, ap, subst, All}
use Rattle.std.specs.Prelude.{option_map}
use Rattle.std.proofs.lemmas.List.Elements.{All-head, All-tail}
use Rattle.nutwords.specs.SplitLine.{with_lf}
use Rattle.nutdriver.specs.Variable.{VariableState, new_variable}
use Rattle.nutdriver.specs.Tree.{TreeState, variable_at}
use Rattle.nutdriver.specs.LastLine.{TheLastLineDecides}
use Rattle.nutlisting.specs.Shown.{shown}
use Rattle.nutanswer.specs.View.{UpsSeen}
use Rattle.nutcommand.specs.declared.command.Command.TheVariants as commands
use Rattle.nutcore.specs.declared.event.Event.{Event}
use Rattle.nutcore.specs.declared.event.Outcome.{Outcome}
use Rattle.nutcore.specs.Server.{ServerState}
use Rattle.nutcore.specs.History.{Execution, of_line, executions}
use Rattle.nutcore.specs.FreshRuns.{WasFresh, IsAnsweredFresh, WhateverIsAnsweredIsFresh}
use Rattle.nutcore.specs.FreshRuns.{WhatADriverSetLastIsHeld, changes_since}
use Rattle.nutclient.specs.Printed.{Prints}
use Rattle.endtoend.specs.Served.{IsUsable}
use Rattle.endtoend.specs.Printed.{UpscPrintsTheVariables, UpscPrintsTheVariable}
use Rattle.endtoend.specs.FromDriver.{UpscPrintsWhatTheDriverSetLast, UpscPrintsAllThatTheDriverSetLast}
use Rattle.endtoend.proofs.Requests.{list_var_read, get_var_read}

-- what holds of each holds of one of them
pub all_at : (P : Execution → Type 0) (before after : List Execution) (x : Execution) →
    All P (before ++ x ∷ after) → P x
all_at P [] after x all = All-head P x after all
all_at P (y ∷ before) after x all = all_at P before after x (All-tail P y (before ++ x ∷ after) all)

-- so the line of an answer was fresh
module _ (fresh : WhateverIsAnsweredIsFresh) (held : WhatADriverSetLastIsHeld) (old : ServerState)
    (events : List Event) (outcomes : List Outcome) (s : ServerState) (c : ℕ) (line : List ℕ) where
  told : (all : All (IsAnsweredFresh old events outcomes) (executions old events outcomes))
      (before after : List Execution) → executions old events outcomes ≡ before ++
      of_line s c line ∷ after → IsAnsweredFresh old events outcomes (of_line s c line)
  told all before after is = all_at (IsAnsweredFresh old events outcomes) before after
      (of_line s c line) (subst (All (IsAnsweredFresh old events outcomes)) is all)

  usable_then : (ups : List ℕ) (was : WasFresh old events outcomes s c line (Some ups)) → IsUsable s ups was.known
  usable_then ups was = record { asks = record { named = was.named; ready = was.ready }; sound = was.sound }

  decided_then : (ups : List ℕ) (was : WasFresh old events outcomes s c line (Some ups))
      (name : List ℕ) → TheLastLineDecides was.known.state.report.tree (changes_since was.fresh.connected) name
  decided_then ups was name =
      subst (λ (x : UpsSeen). TheLastLineDecides x.report.tree (changes_since was.fresh.connected) name) (sym was.is)
      (held old was.timely.events_before was.timely.outcomes_before was.known.id was.fresh.now name was.fresh.connected)

-- a variable with this value
record HasValue (tree : TreeState) (name value : List ℕ) : Type 0 where
  variable : VariableState
  there : variable_at tree name ≡ Some variable
  is : variable.value ≡ value

with_value : (tree : TreeState) (name value : List ℕ) →
    option_map (λ (v : VariableState). v.value) (variable_at tree name) ≡ Some value → HasValue tree name value
with_value tree name value h = by_variable (variable_at tree name) refl h
  where
    by_variable : (o : Option VariableState) → variable_at tree name ≡ o →
        option_map (λ (v : VariableState). v.value) o ≡ Some value → HasValue tree name value
    by_variable None e k = cc k
    by_variable (Some v) e k = record { variable = v; there = e; is = cc k }

shown_by_value : (fsd : Bool) (name value : List ℕ) (v : VariableState) → v.value ≡ value →
    shown fsd name v ≡ shown fsd name (new_variable value)
shown_by_value fsd name value v is = ap (λ (w : List ℕ). shown fsd name (new_variable w)) is

pub prints_last : WhateverIsAnsweredIsFresh → WhatADriverSetLastIsHeld →
    UpscPrintsTheVariable → UpscPrintsWhatTheDriverSetLast
prints_last fresh held prints = λ old events outcomes s c line ups name n m h.
    let at = told fresh held old events outcomes s c line
    (fresh old h.new events outcomes h.begins h.run) h.executed.0 h.executed.1 h.executed.2 in
    let was = at (commands.GetVar (Some ups) (Some name)) (Some ups)
    (get_var_read ups name n m line h.asks) refl h.granted in
    record {
      was = was;
      prints = λ earlier later value more is none.
          let has = with_value was.known.state.report.tree name value
          ((decided_then fresh held old events outcomes s c line ups was name).given earlier later value is none) in
          prints s c ups name line was.known has.variable more n m
          (usable_then fresh held old events outcomes s c line ups was) has.there h.asks
          ∙ ap (λ (w : List ℕ). Prints (with_lf w))
          (shown_by_value was.known.state.fsd name value has.variable has.is);
    }

pub prints_all_last : WhateverIsAnsweredIsFresh → WhatADriverSetLastIsHeld →
    UpscPrintsTheVariables → UpscPrintsAllThatTheDriverSetLast
prints_all_last fresh held prints = λ old events outcomes s c line ups n h.
    let at = told fresh held old events outcomes s c line
    (fresh old h.new events outcomes h.begins h.run) h.executed.0 h.executed.1 h.executed.2 in
    let was = at (commands.ListVar (Some ups)) (Some ups) (list_var_read ups n line h.asks) refl h.granted in
    record {
      was = was;
      prints = λ more. prints s c ups line was.known more n
          (usable_then fresh held old events outcomes s c line ups was) h.asks;
      decided = decided_then fresh held old events outcomes s c line ups was;
    }
