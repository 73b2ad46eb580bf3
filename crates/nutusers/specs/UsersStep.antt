-- What one more line makes of the users read so far, computed.
use Rattle.std.specs.Prelude.{ℕ, List, [], ◌∷◌, ◌++◌, codes, Option, None, Some}
use Rattle.std.specs.Option.{option_or}
use Rattle.nutusers.specs.ConfigLine.{ConfigLine}
use Rattle.nutusers.specs.Rights.{grant_of}
use Rattle.nutusers.specs.Sections.{value_of}
use Rattle.nutusers.specs.SectionsStep.{sections_with}
use Rattle.nutusers.specs.Users.{User}
use Rattle.nutusers.specs.declared.rights.Grant.{Grant}

abbrev pub new_user : List ℕ → User
new_user name = record { name = name; password = None; grants = [] }

abbrev pub with_grant : Option Grant → List Grant → List Grant
with_grant None grants = grants
with_grant (Some grant) grants = grants ++ grant ∷ []

-- the user with a line more
abbrev pub with_user_line : ConfigLine → User → User
with_user_line line user =
    record {
      name = user.name;
      password = option_or (value_of (codes "password") line) user.password;
      grants = with_grant (grant_of line) user.grants;
    }

abbrev pub users_with : List User → ConfigLine → List User
users_with = sections_with new_user with_user_line
