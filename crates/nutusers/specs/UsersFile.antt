-- The file of users (upsd.users(5)).
use Rattle.std.specs.Prelude.{◌≡◌, ℕ, Bool, ◌||◌, not, List, map, reverse, codes, find, is_some}
use Rattle.std.specs.Prelude.{IsPermutation}
use Rattle.std.specs.Prelude.{Option, None, Some, if◌then◌else◌}
use Rattle.std.specs.List.{filter_map}
use Rattle.std.specs.Str.{bytes_eq}
use Rattle.nutusers.specs.ConfigLine.{ConfigLine, silent, malformed, section, setting, upsmon}
use Rattle.nutusers.specs.ConfigLine.{is_section, read_config_line}
use Rattle.nutusers.specs.File.{Format, AreAccepted, bad_value_unless, once_fault}
use Rattle.nutusers.specs.Rights.{grant_of, role_grant, action_grant, command_grant}
use Rattle.nutusers.specs.Sections.{sections, value_in, last_of, in_section}
use Rattle.nutusers.specs.Credentials.{is_user_name, is_password}
use Rattle.nutusers.specs.Users.{AreByName, user_named, may}
pub use Rattle.nutusers.specs.Users.{User}
use Rattle.nutusers.specs.declared.fault.Cause.{Cause}
use Rattle.nutusers.specs.declared.fault.Cause.TheVariants as causes
use Rattle.nutusers.specs.declared.rights.Right.{Right}

-- The user of a section.
abbrev pub user_of : List ℕ × List ConfigLine → User
user_of (name, lines) =
    record {
      name = name;
      password = value_in (codes "password") lines;
      grants = reverse (filter_map grant_of lines);
    }

-- The users that some lines mean, in the order of their sections. The lines are listed from the
-- last to the first.
abbrev pub users_of : List (List ℕ) → List User
users_of lines = reverse (map user_of (sections (map read_config_line lines)))

-- The section of this user, as the lines have it.
abbrev pub section_of : List ℕ → List (List ℕ) → Option (List ℕ × List ConfigLine)
section_of name lines =
    find (λ s. bytes_eq s.0 name) (reverse (sections (map read_config_line lines)))

-- Why a section line is refused after lines that mean these users.
abbrev pub section_fault : List User → List ℕ → Option Cause
section_fault users name =
    if not (is_user_name name) then Some causes.BadName
    else if is_some (user_named name users) then Some causes.Duplicate
    else None

-- Why `key = value` is refused in the section of this user.
abbrev pub setting_fault : List ℕ → List ℕ → User → Option Cause
setting_fault key value user =
    if bytes_eq key (codes "password") then once_fault (is_some user.password) (is_password value)
    else if bytes_eq key (codes "actions") then bad_value_unless (is_some (action_grant value))
    else if bytes_eq key (codes "instcmds") then bad_value_unless (is_some (command_grant value))
    else Some causes.UnknownKey

-- Why a line is refused after lines that mean these users.
abbrev pub user_line_fault : List User → ConfigLine → Option Cause
user_line_fault users silent = None
user_line_fault users malformed = Some causes.Malformed
user_line_fault users (section name) = section_fault users name
user_line_fault users (setting key value) = in_section (setting_fault key value) (last_of users)
user_line_fault users (upsmon role) =
    in_section (λ user. bad_value_unless (is_some (role_grant role))) (last_of users)

abbrev pub users_format : Format
users_format earlier line = user_line_fault (users_of earlier) (read_config_line line)

-- The lines that add a user or a grant. A password is kept in the user's own place.
abbrev pub adds_user_or_grant : ConfigLine → Bool
adds_user_or_grant line = is_section line || is_some (grant_of line)

abbrev pub adds_to_users : List ℕ → Bool
adds_to_users line = adds_user_or_grant (read_config_line line)

-- The file means these users: each of its lines is accepted, and they are exactly its users, by
-- name.
pub record AreUsers (lines : List (List ℕ)) (users : List User) : Type 0 where
  pub accepted : AreAccepted users_format (reverse lines)
  pub same : IsPermutation (users_of (reverse lines)) users
  pub by_name : AreByName users

-- Where two files have the same section of a user, this user may do the same.
abbrev pub RightsComeOfTheOwnSection : Type 0
RightsComeOfTheOwnSection =
    (lines other : List (List ℕ)) (users others : List User) (name password : List ℕ)
    (right : Right) → AreUsers lines users → AreUsers other others
    → section_of name (reverse lines) ≡ section_of name (reverse other)
    → may users name password right ≡ may others name password right
