-- A client's request, as the server reads it.
use Rattle.std.specs.Prelude.{◌≡◌, ℕ, true, List, Some, Ok, All, IfSome}
use Rattle.nutwords.specs.SplitLine.{with_lf}
use Rattle.nutdriver.specs.Sound.{IsSoundTree}
use Rattle.nutdriver.specs.Tree.{variable_at}
use Rattle.nutdriver.specs.Variable.{VariableState}
use Rattle.nutanswer.specs.Checks.{KnownUps}
use Rattle.nutcommand.specs.Command.{read_command}
use Rattle.nutanswer.specs.Rows.{value_given}
use Rattle.nutcommand.specs.declared.command.Command.{Command}
use Rattle.nutcommand.specs.declared.command.Command.TheVariants as commands
use Rattle.nutcore.specs.Listed.{AsksOf}
use Rattle.nutcore.specs.Server.{ServerState}
use Rattle.nutrequest.specs.Request.{request_line}
use Rattle.nutrequest.specs.declared.request.Query.TheVariants as queries
use Rattle.nutrequest.specs.declared.request.Request.{Request}
use Rattle.nutrequest.specs.declared.request.Request.TheVariants as requests
use Rattle.nutclient.specs.Job.{job_of}
use Rattle.nutclient.specs.declared.given.Given.{Given}

-- The line, with its LF, is what a client sends for this request.
abbrev pub IsLineOf : Request → List ℕ → Type 0
IsLineOf request line = with_lf line ≡ request_line request

-- What a request asks of the server.
abbrev pub command_asked : Request → Command
command_asked (requests.List queries.Ups) = commands.ListUps
command_asked (requests.List (queries.Var ups)) = commands.ListVar (Some ups)
command_asked (requests.List (queries.Rw ups)) = commands.ListRw (Some ups)
command_asked (requests.List (queries.Cmd ups)) = commands.ListCmd (Some ups)
command_asked (requests.List (queries.Client ups)) = commands.ListClient (Some ups)
command_asked (requests.GetVar ups name) = commands.GetVar (Some ups) (Some name)
command_asked (requests.GetNumAttach ups) = commands.GetNumAttach (Some ups)
command_asked (requests.Username user) = commands.Username (Some user)
command_asked (requests.Password password) = commands.Password (Some password)
command_asked (requests.SetVar ups name value) =
    commands.SetVar (Some ups) (Some name) (Some value)
command_asked (requests.Instcmd ups name value) =
    commands.InstCmd (Some ups) (Some name) (value_given value)
command_asked requests.SetTracking = commands.SetTracking true
command_asked (requests.TrackedSetVar ups name value) =
    commands.SetVar (Some ups) (Some name) (Some value)
command_asked (requests.TrackedInstcmd ups name value) =
    commands.InstCmd (Some ups) (Some name) (value_given value)
command_asked (requests.GetTracking id) = commands.GetProgress (Some id)

-- The server reads the request's line as what it asks.
abbrev pub IsReadAsAsked : Request → Type 0
IsReadAsAsked request =
    (line : List ℕ) → IsLineOf request line
    → read_command line ≡ Ok (Some (command_asked request))

-- So it does with each request that a program sends for its words.
abbrev pub EachRequestIsReadAsAsked : Type 0
EachRequestIsReadAsAsked =
    (given : Given) → IfSome (job_of given) (λ parts. All IsReadAsAsked parts.1)

-- Clients get what the driver of the UPS of this name has reported. It is sound, as whatever a
-- driver's lines have made is.
pub record IsUsable (s : ServerState) (ups : List ℕ) (known : KnownUps) : Type 0 where
  pub asks : AsksOf s (Some ups) known
  pub sound : IsSoundTree known.state.report.tree

-- The UPS has this variable of this name.
abbrev pub HasVariable : KnownUps → List ℕ → VariableState → Type 0
HasVariable known name variable = variable_at known.state.report.tree name ≡ Some variable
