-- The users of a file, and what they may do (upsd.users(5)).
use Rattle.std.specs.Prelude.{ℕ, Bool, false, ◌&&◌, List, find, Option, None, Some}
use Rattle.std.specs.List.{list_any}
use Rattle.std.specs.List.Sorted.{IsStrictlySortedBy}
use Rattle.std.specs.Option.{option_map_or}
use Rattle.std.specs.Str.{bytes_eq}
use Rattle.nutwords.specs.NameOrder.{byte_order}
use Rattle.nutusers.specs.Rights.{gives}
use Rattle.nutusers.specs.declared.rights.Right.{Right}
use Rattle.nutusers.specs.declared.rights.Grant.{Grant}

-- A user: the name, the password if the file sets one, and what the lines of the section grant.
pub record User : Type 0 where
  pub name : List ℕ
  pub password : Option (List ℕ)
  pub grants : List Grant

-- The names rise, so no name comes twice.
abbrev pub AreByName : List User → Type 0
AreByName users = IsStrictlySortedBy (λ a b. byte_order a.name b.name) users

-- The user of this name.
abbrev pub user_named : List ℕ → List User → Option User
user_named name users = find (λ user. bytes_eq user.name name) users

-- The user has a password, and it is this one.
abbrev pub has_password : Option (List ℕ) → List ℕ → Bool
has_password None given = false
has_password (Some password) given = bytes_eq password given

-- The user is there, has a password, gives it, and has been granted the right.
abbrev pub may : List User → List ℕ → List ℕ → Right → Bool
may users name password right =
    option_map_or
    (λ user. has_password user.password password
    && list_any (λ grant. gives grant right) user.grants) (user_named name users) false
