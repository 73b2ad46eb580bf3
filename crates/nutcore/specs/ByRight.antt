-- Forced shutdowns and logins come of lines with the right to them (upsd.users(5)).
use Rattle.std.specs.Prelude.{◌≡◌, ◌↔◌, ◌⊎◌, ℕ, Bool, false, true, List, [], ◌∷◌, ◌++◌, Option}
use Rattle.std.specs.Prelude.{Some, Ok, codes, length, map}
use Rattle.std.specs.List.{filter}
use Rattle.std.specs.Fmt.{decimal}
use Rattle.std.specs.Option.{option_map_or}
use Rattle.nutwords.specs.Frame.{frame, line_of as text_line}
use Rattle.nutdriver.specs.Variable.{VariableState}
use Rattle.nutlisting.specs.Items.{client_item}
use Rattle.nutlisting.specs.Shown.{shown}
use Rattle.nutusers.specs.Users.{may}
use Rattle.nutusers.specs.declared.rights.Right.{Right}
use Rattle.nutusers.specs.declared.rights.Right.TheVariants as rights
use Rattle.nutusers.specs.declared.ups_list.UpsId.{UpsId}
use Rattle.nutcommand.specs.declared.command.Command.{Command}
use Rattle.nutcommand.specs.declared.command.Command.TheVariants as commands
use Rattle.nutcommand.specs.Command.{read_command}
use Rattle.nutanswer.specs.Checks.{KnownUps, ups_named}
use Rattle.nutanswer.specs.View.{is_logged_in as is_logged_in_as_seen}
use Rattle.nutcore.specs.declared.event.Event.{Event}
use Rattle.nutcore.specs.declared.event.Outcome.{Outcome}
use Rattle.nutcore.specs.Session.{SessionState}
use Rattle.nutcore.specs.Server.{ServerState, session}
use Rattle.nutcore.specs.Parts.{ups_at}
use Rattle.nutcore.specs.Reply.{seen, seen_client, asker, reply}
use Rattle.nutcore.specs.Run.{Run}
use Rattle.nutcore.specs.History.{Execution, of_line, of_notice, executions}

-- It is one of them.
abbrev pub IsAmong : Execution → List Execution → Type 0
IsAmong x xs = (before after : List Execution) × (xs ≡ before ++ x ∷ after)

-- The line is this command of this UPS, is answered so, and its session has given the name and the
-- password of a user who has the right.
pub record IsByRight (s : ServerState) (c : ℕ) (line : List ℕ) (of_ups : Option (List ℕ) → Command)
    (right : Right) (answer : List (List ℕ)) (u : UpsId) : Type 0 where
  pub ups : Option (List ℕ)
  pub name : List ℕ
  pub password : List ℕ
  pub known : KnownUps
  pub command : read_command line ≡ Ok (Some (of_ups ups))
  pub named : ups_named (seen s) ups ≡ Some known
  pub this : known.id ≡ u
  pub username_given : (asker c s).username ≡ Some name
  pub password_given : (asker c s).password ≡ Some password
  pub granted : may s.users name password right ≡ true
  pub answered : reply s c line ≡ text_line answer

-- It sets the forced shutdown of this UPS by right: `FSD u`, answered `OK FSD-SET`.
abbrev pub SetsShutdownByRight : UpsId → Execution → Type 0
SetsShutdownByRight u (of_line s c line) =
    IsByRight s c line commands.Fsd rights.Fsd (codes "OK" ∷ codes "FSD-SET" ∷ []) u
SetsShutdownByRight u (of_notice s c) = ⊥

-- It logs this client in to this UPS by right: its `LOGIN u`, answered `OK`.
abbrev pub LogsInByRight : ℕ → UpsId → Execution → Type 0
LogsInByRight c u (of_line s d line) =
    (d ≡ c) × IsByRight s d line commands.Login rights.Login (codes "OK" ∷ []) u
LogsInByRight c u (of_notice s d) = ⊥

-- The forced shutdown of the UPS is set.
abbrev pub is_shut_down : UpsId → ServerState → Bool
is_shut_down u s = option_map_or (λ x. x.fsd) (ups_at u.place s) false

abbrev pub is_logged_in_of : UpsId → SessionState → Bool
is_logged_in_of u x = is_logged_in_as_seen u (seen_client x)

-- The client is logged in to the UPS.
abbrev pub is_logged_in : ℕ → UpsId → ServerState → Bool
is_logged_in c u s = option_map_or (is_logged_in_of u) (session c s) false

-- The forced shutdown of the UPS was set before a run, or one of these lines of it set it by right.
abbrev pub WasShutDown : UpsId → ServerState → List Execution → Type 0
WasShutDown u old executed =
    (is_shut_down u old ≡ true) ⊎ ((x : Execution) × IsAmong x executed × SetsShutdownByRight u x)

-- After a run it is set exactly where that is so of all lines that the run executed. And the answer
-- to each of these lines, whoever asks, shows the status with `FSD` in front exactly where it is so
-- of the lines before. A listing has one answer, so what comes after its line isn't shown.
pub record AForcedShutdownReachesEverybody : Type 0 where
  pub set : (old new : ServerState) (events : List Event) (outcomes : List Outcome) (u : UpsId)
      → Run old events outcomes new
      → (is_shut_down u new ≡ true) ↔ WasShutDown u old (executions old events outcomes)
  pub shown : (old new : ServerState) (events : List Event) (outcomes : List Outcome)
      (before after : List Execution) (s : ServerState) (c : ℕ) (line : List ℕ)
      (ups : Option (List ℕ)) (known : KnownUps) (status : VariableState)
      → Run old events outcomes new
      → executions old events outcomes ≡ before ++ of_line s c line ∷ after
      → ups_named (seen s) ups ≡ Some known
      → (WasShutDown known.id old before
      × (shown known.state.fsd (codes "ups.status") status ≡ codes "FSD " ++ status.value))
      ⊎ ((WasShutDown known.id old before → ⊥)
      × (shown known.state.fsd (codes "ups.status") status ≡ status.value))

-- A login is by right: where a client is logged in after a run and wasn't before, one of the lines
-- that the run executed logged it in by right.
abbrev pub ALoginIsByRight : Type 0
ALoginIsByRight =
    (old new : ServerState) (events : List Event) (outcomes : List Outcome) (c : ℕ) (u : UpsId)
    → Run old events outcomes new → is_logged_in c u old ≡ false → is_logged_in c u new ≡ true
    → (x : Execution) × IsAmong x (executions old events outcomes) × LogsInByRight c u x

-- This line of the client gives this user name: `USERNAME name`, answered `OK`.
abbrev pub GivesUsername : ℕ → List ℕ → Execution → Type 0
GivesUsername c name (of_line s d line) =
    (d ≡ c) × (read_command line ≡ Ok (Some (commands.Username (Some name))))
    × (reply s d line ≡ text_line (codes "OK" ∷ []))
GivesUsername c name (of_notice s d) = ⊥

-- The same of a password.
abbrev pub GivesPassword : ℕ → List ℕ → Execution → Type 0
GivesPassword c password (of_line s d line) =
    (d ≡ c) × (read_command line ≡ Ok (Some (commands.Password (Some password))))
    × (reply s d line ≡ text_line (codes "OK" ∷ []))
GivesPassword c password (of_notice s d) = ⊥

-- The user name and the password with which a line is executed were given by lines of its client,
-- executed before it.
pub record WasGivenBefore (before : List Execution) (s : ServerState) (c : ℕ) : Type 0 where
  pub username : (name : List ℕ) → (asker c s).username ≡ Some name
      → (x : Execution) × IsAmong x before × GivesUsername c name x
  pub password : (word : List ℕ) → (asker c s).password ≡ Some word
      → (x : Execution) × IsAmong x before × GivesPassword c word x

-- What a session has given it gave by lines of the run: of every line that a run from a server
-- without sessions executed, whatever was executed before it.
abbrev pub CredentialsAreGivenByLines : Type 0
CredentialsAreGivenByLines =
    (old new : ServerState) (events : List Event) (outcomes : List Outcome)
    (before after : List Execution) (s : ServerState) (c : ℕ) (line : List ℕ) → old.sessions ≡ []
    → Run old events outcomes new
    → executions old events outcomes ≡ before ++ of_line s c line ∷ after
    → WasGivenBefore before s c

-- The open sessions that are logged in to the UPS, in the order of opening.
abbrev pub logged_in : UpsId → ServerState → List SessionState
logged_in u s = filter (is_logged_in_of u) s.sessions

-- This command is answered by the number of the sessions that are logged in to the UPS, in a line
-- that begins with this word.
abbrev pub AnswersHowManyAreLoggedIn : (Option (List ℕ) → Command) → List ℕ → Type 0
AnswersHowManyAreLoggedIn command word =
    (s : ServerState) (c : ℕ) (line : List ℕ) (ups : Option (List ℕ)) (known : KnownUps)
    → read_command line ≡ Ok (Some (command ups)) → ups_named (seen s) ups ≡ Some known
    → reply s c line
    ≡ text_line (word ∷ known.name ∷ decimal (length (logged_in known.id s)) ∷ [])

-- What is counted is who is there: `GET NUMLOGINS` and `GET NUMATTACH` answer the number of the
-- sessions that are logged in to the UPS, and `LIST CLIENT` lists exactly these, by their
-- addresses.
pub record WhatIsCountedIsWhoIsThere : Type 0 where
  pub counted : AnswersHowManyAreLoggedIn (λ ups. commands.GetNumLogins ups) (codes "NUMLOGINS")
  pub attached : AnswersHowManyAreLoggedIn (λ ups. commands.GetNumAttach ups) (codes "NUMATTACH")
  pub listed : (s : ServerState) (c : ℕ) (line : List ℕ) (ups : Option (List ℕ)) (known : KnownUps)
      → read_command line ≡ Ok (Some (commands.ListClient ups)) → ups_named (seen s) ups ≡
      Some known
      → reply s c line
      ≡ frame (codes "CLIENT") (known.name ∷ [])
      (map (λ x. client_item known.name x.address) (logged_in known.id s))
