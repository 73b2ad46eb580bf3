-- What a client program does when it receives the server's answers.
use Rattle.std.specs.Prelude.{◌≡◌, ◌≢◌, ◌≤◌, ℕ, List, [], ◌++◌, false, length, Option}
use Rattle.std.specs.Prelude.{Some, Result, Ok, Err}
use Rattle.std.specs.Io.KnownBytes.{Appends}
use denote.Ref.{Bor}
use Rattle.nutwords.specs.Frame.{line_of}
use Rattle.nutwords.specs.SplitLine.{with_lf}
use Rattle.nuttracking.specs.Id.{read_id}
use Rattle.nuttracking.specs.Sound.{HaveLawfulNumbers}
use Rattle.nuttracking.specs.Tracking.{progress_of}
use Rattle.nuttracking.specs.declared.order.Progress.{Progress}
use Rattle.nutdriver.specs.Variable.{VariableState}
use Rattle.nutusers.specs.UpsList.{IsList}
use Rattle.nutlisting.specs.Shown.{shown}
use Rattle.nutlisting.specs.Lines.{progress_words}
use Rattle.nutusers.specs.declared.limits.TheConstants.{SESSION_LIMIT}
use Rattle.nutanswer.specs.Checks.{KnownUps, ups_named}
use Rattle.nutcore.specs.Reply.{seen, reply}
use Rattle.nutcore.specs.Server.{ServerState}
use Rattle.nutio.specs.Ends.{NoneFailed}
use Rattle.nutrequest.specs.Session.{unread_of, reader_of, writer_of}
use Rattle.nutrequest.specs.declared.faults.ClientFault.{ClientFault}
use Rattle.nutrequest.specs.declared.faults.ClientFault.TheVariants.{Memory}
use Rattle.nutrequest.specs.declared.request.Query.TheVariants as queries
use Rattle.nutrequest.specs.declared.request.Request.TheVariants.{List as ListOf, GetVar}
use Rattle.nutrequest.specs.declared.request.Request.TheVariants.{GetNumAttach, GetTracking}
use Rattle.nutrequest.specs.declared.session.Session.{Session}
use Rattle.nutclient.specs.Job.{UpsPlace, job_of, parts_of}
use Rattle.nutclient.specs.Target.{ups_place_of}
use Rattle.nutclient.specs.declared.given.Given.TheVariants as given
use Rattle.nutclient.specs.declared.job.Job.{Job}
use Rattle.endtoend.specs.Served.{IsLineOf, IsUsable, HasVariable}
use Rattle.endtoend.specs.Printed.{variable_lines, setting_lines, command_lines, name_lines}
use Rattle.endtoend.specs.Printed.{description_lines, number_line}

-- A run of a program: the session and the output before it and after it, and the result.
pub record ProgramRun (R W O : Type 0) : Type 0 where
  pub session : Session R W
  pub session_after : Session R W
  pub out : O
  pub out_after : O
  pub result : Result (Unit {0}) ClientFault

abbrev pub run_by : {R W O : Type 0} → Session R W → O → Result (Unit {0}) ClientFault → Session R W
    → O → ProgramRun R W O
run_by session out result session_after out_after =
    record {
      session = session;
      session_after = session_after;
      out = out;
      out_after = out_after;
      result = result;
    }

module _ {R W O : Type 0} (remaining : R → Option (List ℕ)) (failures : R → ℕ)
    (write_failures : W → ℕ) (contents : O → Option (List ℕ)) (print_failures : O → ℕ) where
  -- A new session's reader gives these bytes, in whatever pieces. No call of the reader, the writer
  -- or the output failed, and memory was there.
  pub record IsHanded (bytes : List ℕ) (r : ProgramRun R W O) : Type 0 where
    pub going : r.session.is_over ≡ false
    pub fresh : unread_of r.session ≡ []
    pub gives : remaining (reader_of r.session) ≡ Some bytes
    pub reads : NoneFailed (failures (reader_of r.session)) (failures (reader_of r.session_after))
    pub writes : NoneFailed (write_failures (writer_of r.session))
        (write_failures (writer_of r.session_after))
    pub prints : NoneFailed (print_failures r.out) (print_failures r.out_after)
    pub memory : r.result ≢ Err Memory

  -- The program is done, and printed exactly this.
  pub record IsPrinted (text : List ℕ) (r : ProgramRun R W O) : Type 0 where
    pub done : r.result ≡ Ok tt
    pub output : Appends (contents r.out) (contents r.out_after) text

  -- `upsc ups`, handed the answer to LIST VAR and whatever comes after it, prints a line for each
  -- variable that the UPS holds.
  abbrev pub PrintsTheVariables : Job → ProgramRun R W O → Type 0
  PrintsTheVariables job r =
      (s : ServerState) (client : ℕ) (words : Bor (List ℕ)) (place : UpsPlace) (line : List ℕ)
      (known : KnownUps) (more : List ℕ)
      → job_of (given.Variables words) ≡ Some (parts_of job) → ups_place_of words.now ≡ Some place
      → IsUsable s place.0 known → IsLineOf (ListOf (queries.Var place.0)) line
      → IsHanded (reply s client line ++ more) r → IsPrinted (variable_lines known) r

  -- `upsc ups variable`, handed the answer to GET VAR, prints the variable's value.
  abbrev pub PrintsTheVariable : Job → ProgramRun R W O → Type 0
  PrintsTheVariable job r =
      (s : ServerState) (client : ℕ) (words name : Bor (List ℕ)) (place : UpsPlace) (line : List ℕ)
      (known : KnownUps) (variable : VariableState) (more : List ℕ)
      → job_of (given.Variable words name) ≡ Some (parts_of job) → ups_place_of words.now ≡
      Some place
      → IsUsable s place.0 known → HasVariable known name.now variable
      → IsLineOf (GetVar place.0 name.now) line
      → IsHanded (reply s client line ++ more) r
      → IsPrinted (with_lf (shown known.state.fsd name.now variable)) r

  -- `upsc --attached ups`, handed the answer to GET NUMATTACH, prints how many sessions are logged
  -- in to the UPS.
  abbrev pub PrintsTheNumber : Job → ProgramRun R W O → Type 0
  PrintsTheNumber job r =
      (s : ServerState) (client : ℕ) (words : Bor (List ℕ)) (place : UpsPlace) (line : List ℕ)
      (known : KnownUps) (more : List ℕ)
      → job_of (given.Attached words) ≡ Some (parts_of job) → ups_place_of words.now ≡ Some place
      → length s.sessions ≤ SESSION_LIMIT → ups_named (seen s) (Some place.0) ≡ Some known
      → IsLineOf (GetNumAttach place.0) line
      → IsHanded (reply s client line ++ more) r → IsPrinted (number_line s known) r

  -- `upsc --tracked id ups`, handed the answer to GET TRACKING, prints how far the order of this id
  -- has come.
  abbrev pub PrintsTheProgress : Job → ProgramRun R W O → Type 0
  PrintsTheProgress job r =
      (s : ServerState) (client : ℕ) (words word : Bor (List ℕ)) (id : ℕ) (line : List ℕ)
      (progress : Progress) (more : List ℕ)
      → job_of (given.Tracked words word) ≡ Some (parts_of job) → read_id word.now ≡ Some id
      → HaveLawfulNumbers s.tracking.orders
      → progress_of id s.tracking ≡ Some progress → IsLineOf (GetTracking id) line
      → IsHanded (reply s client line ++ more) r
      → IsPrinted (line_of (progress_words progress)) r

  -- `upsrw ups`, handed the answer to LIST RW, prints a line for each variable of the UPS that may
  -- be set.
  abbrev pub PrintsTheSettings : Job → ProgramRun R W O → Type 0
  PrintsTheSettings job r =
      (s : ServerState) (client : ℕ) (words : Bor (List ℕ)) (place : UpsPlace) (line : List ℕ)
      (known : KnownUps) (more : List ℕ)
      → job_of (given.Writable words) ≡ Some (parts_of job) → ups_place_of words.now ≡ Some place
      → IsUsable s place.0 known → IsLineOf (ListOf (queries.Rw place.0)) line
      → IsHanded (reply s client line ++ more) r → IsPrinted (setting_lines known) r

  -- `upscmd -l ups`, handed the answer to LIST CMD, prints a line for each command of the UPS.
  abbrev pub PrintsTheCommands : Job → ProgramRun R W O → Type 0
  PrintsTheCommands job r =
      (s : ServerState) (client : ℕ) (words : Bor (List ℕ)) (place : UpsPlace) (line : List ℕ)
      (known : KnownUps) (more : List ℕ)
      → job_of (given.Commands words) ≡ Some (parts_of job) → ups_place_of words.now ≡ Some place
      → IsUsable s place.0 known → IsLineOf (ListOf (queries.Cmd place.0)) line
      → IsHanded (reply s client line ++ more) r → IsPrinted (command_lines known) r

  -- `upsc -l` and `upsc -L`, handed the answer to LIST UPS, print a line for each UPS of the
  -- server's list.
  abbrev pub PrintsTheNames : Job → ProgramRun R W O → Type 0
  PrintsTheNames job r =
      (s : ServerState) (client : ℕ) (server : Option (Bor (List ℕ))) (line more : List ℕ)
      → job_of (given.Upses server) ≡ Some (parts_of job)
      → IsList s.list → IsLineOf (ListOf queries.Ups) line
      → IsHanded (reply s client line ++ more) r → IsPrinted (name_lines s.list) r

  abbrev pub PrintsTheDescriptions : Job → ProgramRun R W O → Type 0
  PrintsTheDescriptions job r =
      (s : ServerState) (client : ℕ) (server : Option (Bor (List ℕ))) (line more : List ℕ)
      → job_of (given.Descriptions server) ≡ Some (parts_of job)
      → IsList s.list → IsLineOf (ListOf queries.Ups) line
      → IsHanded (reply s client line ++ more) r → IsPrinted (description_lines s.list) r
