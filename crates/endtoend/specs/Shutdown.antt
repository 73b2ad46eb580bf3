-- A forced shutdown, from the line that set it to the text of the answers and to the screen.
use Rattle.std.specs.Prelude.{◌≡◌, ℕ, true, List, [], ◌∷◌, ◌++◌, Some, Ok, codes, IsTrue}
use Rattle.nutwords.specs.Frame.{frame, line_of}
use Rattle.nutwords.specs.Reading.{is_ups_name}
use Rattle.nutwords.specs.Spelling.{quoted}
use Rattle.nutwords.specs.SplitLine.{with_lf}
use Rattle.nutdriver.specs.Variable.{VariableState}
use Rattle.nutcommand.specs.Command.{read_command}
use Rattle.nutcommand.specs.declared.command.Command.TheVariants as commands
use Rattle.nutanswer.specs.Checks.{KnownUps}
use Rattle.nutcore.specs.declared.event.Event.{Event}
use Rattle.nutcore.specs.declared.event.Outcome.{Outcome}
use Rattle.nutcore.specs.ByRight.{IsAmong, SetsShutdownByRight}
use Rattle.nutcore.specs.DriverRuns.{IsNewServer}
use Rattle.nutcore.specs.History.{Execution, of_line, executions}
use Rattle.nutcore.specs.Listed.{AsksOf}
use Rattle.nutcore.specs.Reply.{reply}
use Rattle.nutcore.specs.Run.{Run}
use Rattle.nutcore.specs.Server.{ServerState}
use Rattle.nutrequest.specs.declared.request.Request.TheVariants.{GetVar}
use Rattle.nutclient.specs.Printed.{Prints, printed}
use Rattle.nutclient.specs.declared.form.Form.TheVariants as forms
use Rattle.endtoend.specs.Served.{IsLineOf, HasVariable}

-- A run from a new server executed this line after one that set the forced shutdown of this UPS by
-- right. The UPS was usable, and its driver had reported this status.
pub record IsAfterShutdown (s : ServerState) (c : ℕ) (line ups : List ℕ) (status : VariableState)
    : Type 0 where
  pub old : ServerState
  pub new : ServerState
  pub events : List Event
  pub outcomes : List Outcome
  pub before : List Execution
  pub after : List Execution
  pub known : KnownUps
  pub begins : IsNewServer old
  pub run : Run old events outcomes new
  pub executed : executions old events outcomes ≡ before ++ of_line s c line ∷ after
  pub forced : (x : Execution) × IsAmong x before × SetsShutdownByRight known.id x
  pub asks : AsksOf s (Some ups) known
  pub reports : HasVariable known (codes "ups.status") status

-- What clients are shown as the status then.
abbrev pub forced_status : VariableState → List ℕ
forced_status status = codes "FSD " ++ status.value

-- Its line in an answer of this kind, in words.
abbrev pub status_words : List ℕ → List ℕ → VariableState → List (List ℕ)
status_words kind ups status =
    kind ∷ ups ∷ codes "ups.status" ∷ quoted (forced_status status) ∷ []

-- The text is a listing of this kind of the UPS, and this line is in it.
abbrev pub ListsStatus : List ℕ → List ℕ → VariableState → List ℕ → Type 0
ListsStatus kind ups status text =
    (before after : List (List (List ℕ)))
    × (text ≡ frame kind (ups ∷ []) (before ++ status_words kind ups status ∷ after))

-- Whoever asks: GET VAR, LIST VAR, and LIST RW where clients may set the status, answer it so; and
-- `upsc ups ups.status` prints it, whatever comes after the answer.
pub record ShowsShutdown (s : ServerState) (c : ℕ) (line ups : List ℕ) (status : VariableState)
    : Type 0 where
  pub got : read_command line ≡ Ok (Some (commands.GetVar (Some ups) (Some (codes "ups.status"))))
      → reply s c line ≡ line_of (status_words (codes "VAR") ups status)
  pub listed : read_command line ≡ Ok (Some (commands.ListVar (Some ups)))
      → ListsStatus (codes "VAR") ups status (reply s c line)
  pub listed_rw : read_command line ≡ Ok (Some (commands.ListRw (Some ups)))
      → status.flags.rw ≡ true → ListsStatus (codes "RW") ups status (reply s c line)
  pub printed : (more : List ℕ) → IsTrue (is_ups_name ups)
      → IsLineOf (GetVar ups (codes "ups.status")) line
      → printed (GetVar ups (codes "ups.status") ∷ []) forms.Value (reply s c line ++ more)
      ≡ Prints (with_lf (forced_status status))

abbrev pub EveryAnswerShowsAForcedShutdown : Type 0
EveryAnswerShowsAForcedShutdown =
    (s : ServerState) (c : ℕ) (line ups : List ℕ) (status : VariableState)
    → IsAfterShutdown s c line ups status → ShowsShutdown s c line ups status
