-- Each change, with the command, the checks and the answer that it comes with.
use Rattle.std.specs.Prelude.{◌≡◌, ◌≤◌, ℕ, true, false, List, [], ◌∷◌, codes, length, Option, Some}
use Rattle.std.specs.Prelude.{None, ◌⊎◌}
use Rattle.nutwords.specs.Frame.{line_of}
use Rattle.nuttracking.specs.Tracking.{next_id}
use Rattle.nutdriver.specs.Variable.{VariableState}
use Rattle.nutdriver.specs.Tree.{variable_at, has_command}
use Rattle.nutusers.specs.Users.{may}
use Rattle.nutusers.specs.declared.rights.Right.{Right}
use Rattle.nutusers.specs.declared.rights.Right.TheVariants as rights
use Rattle.nutusers.specs.declared.ups_list.UpsId.{UpsId}
use Rattle.nutcommand.specs.declared.command.Command.{Command}
use Rattle.nutcommand.specs.declared.command.Command.TheVariants as commands
use Rattle.nutanswer.specs.declared.reply.Change.{Change}
use Rattle.nutanswer.specs.declared.reply.Change.TheVariants as changes
use Rattle.nutanswer.specs.View.{Seen, AskerSeen, readiness, usable}
use Rattle.nutanswer.specs.Checks.{KnownUps, ups_named}
use Rattle.nutanswer.specs.Orders.{is_short_enough, is_listed, is_in_ranges, right_to, set_line}
use Rattle.nutanswer.specs.Orders.{instcmd_line, order, ok_words}
use Rattle.nutanswer.specs.Answer.{ok, answer_to, text_of_answer, change_of_answer}

-- The session has given the name and the password of a user to whom the right is granted.
pub record HasRight (s : Seen) (asker : AskerSeen) (right : Right) : Type 0 where
  pub name : List ℕ
  pub password : List ℕ
  pub username_given : asker.username ≡ Some name
  pub password_given : asker.password ≡ Some password
  pub granted : may s.users name password right ≡ true

-- The command is this one of a UPS that is there, its session has the right, and these words answer
-- it.
pub record IsByRight
    (s : Seen) (asker : AskerSeen) (command : Command) (of_ups : Option (List ℕ) → Command)
    (right : Right) (words : List (List ℕ)) (u : UpsId) : Type 0 where
  pub ups : Option (List ℕ)
  pub known : KnownUps
  pub is : command ≡ of_ups ups
  pub named : ups_named s ups ≡ Some known
  pub this : known.id ≡ u
  pub has : HasRight s asker right
  pub text : text_of_answer (answer_to s asker command) ≡ line_of words

-- The command gives this word, of which the session had given none, and OK answers it.
pub record IsGiving
    (s : Seen) (asker : AskerSeen) (command : Command) (gives : Command)
    (before : Option (List ℕ)) : Type 0 where
  pub is : command ≡ gives
  pub fresh : before ≡ None
  pub text : text_of_answer (answer_to s asker command) ≡ line_of ok

-- LOGIN by right, of a session that isn't logged in.
pub record IsLogin (s : Seen) (asker : AskerSeen) (command : Command) (u : UpsId) : Type 0 where
  pub by_right : IsByRight s asker command commands.Login rights.Login ok u
  pub fresh : asker.login ≡ None

-- FSD by right.
abbrev pub IsShutdown : Seen → AskerSeen → Command → UpsId → Type 0
IsShutdown s asker command u =
    IsByRight s asker command commands.Fsd rights.Fsd (codes "OK" ∷ codes "FSD-SET" ∷ []) u

-- The id of an order: none where its session's orders aren't tracked, else the first available one.
abbrev pub IsIdOfOrder : Seen → AskerSeen → Option ℕ → Type 0
IsIdOfOrder s asker None = asker.tracking ≡ false
IsIdOfOrder s asker (Some id) = (asker.tracking ≡ true) × (next_id s.tracking ≡ Some id)

-- SET VAR by right: its UPS is usable, and has the variable, which clients may set, and which may
-- have the value. The line names the order's id, if it is tracked, and fits in what the driver may
-- still be owed.
pub record IsSet
    (s : Seen) (asker : AskerSeen) (command : Command) (u : UpsId) (id : Option ℕ) (line : List ℕ)
    : Type 0 where
  pub name : List ℕ
  pub value : List ℕ
  pub variable : VariableState
  pub by_right : IsByRight s asker command
      (λ ups. commands.SetVar ups (Some name) (Some value)) rights.Set (ok_words id) u
  pub ready : readiness s.moment s.max_age by_right.known.state.report ≡ usable
  pub there : variable_at by_right.known.state.report.tree name ≡ Some variable
  pub writable : variable.flags.rw ≡ true
  pub short : is_short_enough variable value ≡ true
  pub listed : is_listed variable.enum_values value ≡ true
  pub in_range : is_in_ranges variable.ranges value ≡ true
  pub id_is : IsIdOfOrder s asker id
  pub fits : length line ≤ by_right.known.state.free
  pub line_is : line ≡ set_line name value id

-- The value of a command as a line gives it, if it gives one.
abbrev pub value_given : Option (List ℕ) → Option (Option (List ℕ))
value_given None = None
value_given (Some value) = Some (Some value)

-- INSTCMD by right: its UPS is usable, and has the command. The line names the order's id, if it is
-- tracked, and fits in what the driver may still be owed.
pub record IsInstCmd
    (s : Seen) (asker : AskerSeen) (command : Command) (u : UpsId) (id : Option ℕ) (line : List ℕ)
    : Type 0 where
  pub name : List ℕ
  pub value : Option (List ℕ)
  pub by_right : IsByRight s asker command
      (λ ups. commands.InstCmd ups (Some name) (value_given value)) (right_to name)
      (ok_words id) u
  pub ready : readiness s.moment s.max_age by_right.known.state.report ≡ usable
  pub there : has_command by_right.known.state.report.tree name ≡ true
  pub id_is : IsIdOfOrder s asker id
  pub fits : length line ≤ by_right.known.state.free
  pub line_is : line ≡ instcmd_line name value id

-- What a change comes of.
abbrev pub ComesOf : Seen → AskerSeen → Command → Change → Type 0
ComesOf s asker command changes.Nothing = Unit {0}
ComesOf s asker command (changes.Username name) =
    IsGiving s asker command (commands.Username (Some name)) asker.username
ComesOf s asker command (changes.Password password) =
    IsGiving s asker command (commands.Password (Some password)) asker.password
ComesOf s asker command (changes.Login u) = IsLogin s asker command u
ComesOf s asker command changes.Ending = command ≡ commands.Logout
ComesOf s asker command (changes.Fsd u) = IsShutdown s asker command u
ComesOf s asker command (changes.Order u line) =
    IsSet s asker command u None line.items ⊎ IsInstCmd s asker command u None line.items
ComesOf s asker command (changes.Tracking on) = command ≡ commands.SetTracking on
ComesOf s asker command (changes.Tracked u id line) =
    IsSet s asker command u (Some id) line.items ⊎ IsInstCmd s asker command u (Some id) line.items

-- Each change comes of its own command, where the checks of its row held.
abbrev pub EachChangeComesOfItsCommand : Type 0
EachChangeComesOfItsCommand =
    (s : Seen) (asker : AskerSeen) (command : Command)
    → ComesOf s asker command (change_of_answer (answer_to s asker command))

-- An order that OK answers is given to the driver of its UPS. Where OK TRACKING and the first
-- available id answer it, it is given with that id.
pub record EachOrderAnsweredOkIsGiven : Type 0 where
  pub set : (s : Seen) (asker : AskerSeen) (ups : Option (List ℕ)) (name value : List ℕ)
      (known : KnownUps)
      → ups_named s ups ≡ Some known
      → text_of_answer (answer_to s asker (commands.SetVar ups (Some name) (Some value)))
      ≡ line_of ok
      → change_of_answer (answer_to s asker (commands.SetVar ups (Some name) (Some value)))
      ≡ order known.id (set_line name value None) None
  pub command : (s : Seen) (asker : AskerSeen) (ups : Option (List ℕ)) (name : List ℕ)
      (value : Option (List ℕ)) (known : KnownUps)
      → ups_named s ups ≡ Some known
      → text_of_answer (answer_to s asker (commands.InstCmd ups (Some name) (value_given value)))
      ≡ line_of ok
      → change_of_answer (answer_to s asker (commands.InstCmd ups (Some name) (value_given value)))
      ≡ order known.id (instcmd_line name value None) None
  pub tracked_set : (s : Seen) (asker : AskerSeen) (ups : Option (List ℕ)) (name value : List ℕ)
      (known : KnownUps) (id : ℕ)
      → ups_named s ups ≡ Some known → next_id s.tracking ≡ Some id
      → text_of_answer (answer_to s asker (commands.SetVar ups (Some name) (Some value)))
      ≡ line_of (ok_words (Some id))
      → change_of_answer (answer_to s asker (commands.SetVar ups (Some name) (Some value)))
      ≡ order known.id (set_line name value (Some id)) (Some id)
  pub tracked_command : (s : Seen) (asker : AskerSeen) (ups : Option (List ℕ)) (name : List ℕ)
      (value : Option (List ℕ)) (known : KnownUps) (id : ℕ)
      → ups_named s ups ≡ Some known → next_id s.tracking ≡ Some id
      → text_of_answer (answer_to s asker (commands.InstCmd ups (Some name) (value_given value)))
      ≡ line_of (ok_words (Some id))
      → change_of_answer (answer_to s asker (commands.InstCmd ups (Some name) (value_given value)))
      ≡ order known.id (instcmd_line name value (Some id)) (Some id)
