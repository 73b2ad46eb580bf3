-- The checks of commands, each named for the error word that it answers. A row of the table is a
-- `do` block of them: what comes after a check that fails isn't looked at.
use Rattle.std.specs.Prelude.{ℕ, Bool, ◌&&◌, nat_le, length, is_none, List, Option, Some, None}
use Rattle.std.specs.Prelude.{Result, Ok, Err, slice_get, if◌then◌else◌}
use Rattle.std.specs.Option.{ok_or, option_map, option_and_then}
use Rattle.nuttracking.specs.Tracking.{next_id, progress_of}
use Rattle.nuttracking.specs.declared.order.Progress.{Progress}
use Rattle.nutdriver.specs.Tree.{TreeState, variable_at, has_command}
use Rattle.nutdriver.specs.Variable.{VariableState}
use Rattle.nutusers.specs.UpsList.{place_of, id_at}
use Rattle.nutusers.specs.Users.{may}
use Rattle.nutusers.specs.declared.rights.Right.{Right}
use Rattle.nutusers.specs.declared.ups_list.UpsId.{UpsId}
use Rattle.nutcommand.specs.declared.err_word.ErrWord.{ErrWord}
use Rattle.nutcommand.specs.declared.err_word.ErrWord.TheVariants as errors
use Rattle.nutanswer.specs.View.{Seen, AskerSeen, UpsSeen, Readiness, not_connected, stale, usable}
use Rattle.nutanswer.specs.View.{readiness}
use Rattle.nutanswer.specs.Orders.{is_short_enough, is_listed, is_in_ranges}

-- What a check finds is handed on, where it doesn't fail.
infixl 10 ◌>>=◌
abbrev pub ◌>>=◌ : {A B : Type 0} → Result A ErrWord → (A → Result B ErrWord) → Result B ErrWord
(Err word) >>= next = Err word
(Ok a) >>= next = next a

-- The same of a check that finds nothing.
infixl 10 ◌>>◌
abbrev pub ◌>>◌ : {B : Type 0} → Result (Unit {0}) ErrWord → Result B ErrWord → Result B ErrWord
(Err word) >> next = Err word
(Ok none) >> next = next

-- The word, unless it holds.
abbrev pub unless : Bool → ErrWord → Result (Unit {0}) ErrWord
unless holds word = if holds then Ok tt else Err word

-- A UPS that is there: its name, the name that the server has for it, and what is known of it.
pub record KnownUps : Type 0 where
  pub name : List ℕ
  pub id : UpsId
  pub state : UpsSeen

abbrev pub known : List ℕ → ℕ → UpsSeen → KnownUps
known name place x = record { name = name; id = id_at place; state = x }

-- The UPS at this place of the list, where there is one.
abbrev pub ups_at : Seen → List ℕ → ℕ → Option KnownUps
ups_at s name place = option_map (known name place) (slice_get s.upses place)

-- The UPS of this name. Where the word is no lawful name, or the list has no such UPS, there is
-- none.
abbrev pub ups_named : Seen → Option (List ℕ) → Option KnownUps
ups_named s None = None
ups_named s (Some name) = option_and_then (ups_at s name) (place_of name s.list)

abbrev pub known_ups : Seen → Option (List ℕ) → Result KnownUps ErrWord
known_ups s name = ok_or (ups_named s name) errors.UnknownUps

abbrev pub driver_not_connected : Readiness → Result (Unit {0}) ErrWord
driver_not_connected not_connected = Err errors.DriverNotConnected
driver_not_connected stale = Ok tt
driver_not_connected usable = Ok tt

abbrev pub data_stale : Readiness → Result (Unit {0}) ErrWord
data_stale not_connected = Ok tt
data_stale stale = Err errors.DataStale
data_stale usable = Ok tt

-- Whether clients see what its driver has reported.
abbrev pub ready : Seen → KnownUps → Readiness
ready s u = readiness s.moment s.max_age u.state.report

-- Clients see what the driver has reported.
abbrev pub live : Seen → KnownUps → Result (Unit {0}) ErrWord
live s u = do
  driver_not_connected (ready s u)
  data_stale (ready s u)

-- The variable of this name, with its name.
abbrev pub variable_named : TreeState → Option (List ℕ) → Option (List ℕ × VariableState)
variable_named tree None = None
variable_named tree (Some name) = option_map (λ v. (name, v)) (variable_at tree name)

abbrev pub known_variable : KnownUps → Option (List ℕ) → Result (List ℕ × VariableState) ErrWord
known_variable u name = ok_or (variable_named u.state.report.tree name) errors.VarNotSupported

-- The word is no lawful name, as of GET DESC, which doesn't look for it in what the driver has
-- reported.
abbrev pub var_not_lawful : Option (List ℕ) → Result (List ℕ) ErrWord
var_not_lawful name = ok_or name errors.VarNotSupported

-- The same, of GET CMDDESC.
abbrev pub cmd_not_lawful : Option (List ℕ) → Result (List ℕ) ErrWord
cmd_not_lawful name = ok_or name errors.CmdNotSupported

abbrev pub username_required : AskerSeen → Result (List ℕ) ErrWord
username_required asker = ok_or asker.username errors.UsernameRequired

abbrev pub password_required : AskerSeen → Result (List ℕ) ErrWord
password_required asker = ok_or asker.password errors.PasswordRequired

abbrev pub access_denied : Seen → List ℕ → List ℕ → Right → Result (Unit {0}) ErrWord
access_denied s name password right = unless (may s.users name password right) errors.AccessDenied

-- The session has given the name and the password of a user to whom the right is granted.
abbrev pub user : Seen → AskerSeen → Right → Result (Unit {0}) ErrWord
user s asker right = do
  name ← username_required asker
  password ← password_required asker
  access_denied s name password right

abbrev pub already_set_username : AskerSeen → Result (Unit {0}) ErrWord
already_set_username asker = unless (is_none asker.username) errors.AlreadySetUsername

abbrev pub already_set_password : AskerSeen → Result (Unit {0}) ErrWord
already_set_password asker = unless (is_none asker.password) errors.AlreadySetPassword

abbrev pub already_logged_in : AskerSeen → Result (Unit {0}) ErrWord
already_logged_in asker = unless (is_none asker.login) errors.AlreadyLoggedIn

-- The word isn't as long as a user name or a password may be.
abbrev pub invalid_argument : Option (List ℕ) → Result (List ℕ) ErrWord
invalid_argument word = ok_or word errors.InvalidArgument

-- The name of a command that the driver has reported.
abbrev pub known_command : KnownUps → Option (List ℕ) → Result (List ℕ) ErrWord
known_command u name = do
  c ← cmd_not_lawful name
  unless (has_command u.state.report.tree c) errors.CmdNotSupported
  Ok c

-- Clients may set the variable.
abbrev pub readonly : VariableState → Result (Unit {0}) ErrWord
readonly x = unless x.flags.rw errors.Readonly

-- A value as long as the variable may have. The word is none where it has more than 512 bytes.
abbrev pub settable_value : VariableState → Option (List ℕ) → Result (List ℕ) ErrWord
settable_value x word = do
  value ← ok_or word errors.TooLong
  unless (is_short_enough x value) errors.TooLong
  Ok value

-- The value of a command, which may be left out. The word is none where it has more than 512 bytes.
abbrev pub command_value : Option (Option (List ℕ)) → Result (Option (List ℕ)) ErrWord
command_value None = Ok None
command_value (Some None) = Err errors.TooLong
command_value (Some (Some value)) = Ok (Some value)

-- The variable may have this value.
abbrev pub invalid_value : VariableState → List ℕ → Result (Unit {0}) ErrWord
invalid_value x value =
    unless (is_listed x.enum_values value && is_in_ranges x.ranges value) errors.InvalidValue

-- The available id that an order uses, or the word where there is none.
abbrev pub first_id : Option ℕ → ErrWord → Result (Option ℕ) ErrWord
first_id None word = Err word
first_id (Some id) word = Ok (Some id)

-- The id of an order, where its session's orders are tracked.
abbrev pub order_id : Seen → AskerSeen → ErrWord → Result (Option ℕ) ErrWord
order_id s asker word = if asker.tracking then first_id (next_id s.tracking) word else Ok None

-- The line fits in what the driver may still be owed.
abbrev pub set_failed : KnownUps → List ℕ → Result (Unit {0}) ErrWord
set_failed u line = unless (nat_le (length line) u.state.free) errors.SetFailed

-- The same, of INSTCMD.
abbrev pub instcmd_failed : KnownUps → List ℕ → Result (Unit {0}) ErrWord
instcmd_failed u line = unless (nat_le (length line) u.state.free) errors.InstcmdFailed

-- The id of an order that is kept, with how far the order has come. The word is none where it is no
-- id.
abbrev pub progress_at : Seen → Option ℕ → Option (ℕ × Progress)
progress_at s None = None
progress_at s (Some id) = option_map (λ progress. (id, progress)) (progress_of id s.tracking)

abbrev pub kept_progress : Seen → Option ℕ → Result (ℕ × Progress) ErrWord
kept_progress s id = ok_or (progress_at s id) errors.InvalidArgument
