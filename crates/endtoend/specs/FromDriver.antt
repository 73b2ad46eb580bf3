-- From the driver to the printed text: a client prints what the driver set last.
use Rattle.std.specs.Prelude.{◌≡◌, ℕ, false, List, [], ◌∷◌, ◌++◌, Some, codes, nat_eq, IsTrue}
use Rattle.std.specs.List.{starts_with}
use Rattle.nutwords.specs.Reading.{is_name, is_ups_name}
use Rattle.nutwords.specs.SplitLine.{with_lf}
use Rattle.nutdriver.specs.declared.line.DriverLine.{DriverLine}
use Rattle.nutdriver.specs.declared.line.DriverLine.TheVariants.{SetInfo}
use Rattle.nutdriver.specs.LastLine.{NoneDecides, TheLastLineDecides}
use Rattle.nutdriver.specs.Variable.{new_variable}
use Rattle.nutlisting.specs.Shown.{shown}
use Rattle.nutcore.specs.declared.event.Event.{Event}
use Rattle.nutcore.specs.declared.event.Outcome.{Outcome}
use Rattle.nutcore.specs.Server.{ServerState}
use Rattle.nutcore.specs.Reply.{reply}
use Rattle.nutcore.specs.Run.{Run}
use Rattle.nutcore.specs.History.{of_line, executions}
use Rattle.nutcore.specs.ByRight.{IsAmong}
use Rattle.nutcore.specs.DriverRuns.{IsNewServer}
use Rattle.nutcore.specs.FreshRuns.{WasFresh, changes_since}
use Rattle.nutrequest.specs.declared.request.Query.TheVariants as queries
use Rattle.nutrequest.specs.declared.request.Request.{Request}
use Rattle.nutrequest.specs.declared.request.Request.TheVariants.{List as ListOf, GetVar}
use Rattle.nutclient.specs.Printed.{Prints, printed}
use Rattle.nutclient.specs.declared.form.Form.TheVariants as forms
use Rattle.endtoend.specs.Served.{IsLineOf}
use Rattle.endtoend.specs.Printed.{variable_lines}

-- A run from a new server executed this line, which is that of the request, and it wasn't answered
-- by ERR.
pub record IsAnswered (old : ServerState) (events : List Event) (outcomes : List Outcome)
    (s : ServerState) (c : ℕ) (line : List ℕ) (request : Request) : Type 0 where
  pub new : ServerState
  pub begins : IsNewServer old
  pub run : Run old events outcomes new
  pub executed : IsAmong (of_line s c line) (executions old events outcomes)
  pub asks : IsLineOf request line
  pub granted : starts_with nat_eq (reply s c line) (codes "ERR") ≡ false

-- `upsc ups variable`: the UPS was fresh then; and where the last of its driver's lines since it
-- connected that decides the variable gave it a value, that value is printed, as clients see it,
-- whatever comes after the answer.
pub record PrintsTheLastValue (old : ServerState) (events : List Event) (outcomes : List Outcome)
    (s : ServerState) (c : ℕ) (line ups name : List ℕ) : Type 0 where
  pub was : WasFresh old events outcomes s c line (Some ups)
  pub prints : (earlier later : List DriverLine) (value more : List ℕ)
      → changes_since was.fresh.connected ≡ earlier ++ SetInfo name value ∷ later
      → NoneDecides name later
      → printed (GetVar ups name ∷ []) forms.Value (reply s c line ++ more)
      ≡ Prints (with_lf (shown was.known.state.fsd name (new_variable value)))

abbrev pub UpscPrintsWhatTheDriverSetLast : Type 0
UpscPrintsWhatTheDriverSetLast =
    (old : ServerState) (events : List Event) (outcomes : List Outcome) (s : ServerState) (c : ℕ)
    (line ups name : List ℕ) → IsTrue (is_ups_name ups) → IsTrue (is_name name)
    → IsAnswered old events outcomes s c line (GetVar ups name)
    → PrintsTheLastValue old events outcomes s c line ups name

-- `upsc ups`: the UPS was fresh then; what is printed is a line for each variable that it holds;
-- and of each name, the last of its driver's lines since it connected decides it.
pub record PrintsTheLastValues (old : ServerState) (events : List Event) (outcomes : List Outcome)
    (s : ServerState) (c : ℕ) (line ups : List ℕ) : Type 0 where
  pub was : WasFresh old events outcomes s c line (Some ups)
  pub prints : (more : List ℕ)
      → printed (ListOf (queries.Var ups) ∷ []) forms.Colon (reply s c line ++ more)
      ≡ Prints (variable_lines was.known)
  pub decided : (name : List ℕ)
      → TheLastLineDecides was.known.state.report.tree (changes_since was.fresh.connected) name

abbrev pub UpscPrintsAllThatTheDriverSetLast : Type 0
UpscPrintsAllThatTheDriverSetLast =
    (old : ServerState) (events : List Event) (outcomes : List Outcome) (s : ServerState) (c : ℕ)
    (line ups : List ℕ) → IsTrue (is_ups_name ups)
    → IsAnswered old events outcomes s c line (ListOf (queries.Var ups))
    → PrintsTheLastValues old events outcomes s c line ups
