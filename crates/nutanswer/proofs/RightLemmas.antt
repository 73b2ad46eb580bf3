-- A right to a command is that of its bytes.
use Rattle.std.proofs.Common.{arith, ◌≡◌, ℕ, Bool, List, ap, Bor}
use Rattle.nutusers.specs.Rights.{gives}
use Rattle.nutusers.specs.declared.rights.Grant.{Grant}
use Rattle.nutusers.specs.declared.rights.Right.TheVariants.{Instcmd}
use Rattle.std.specs.List.{list_any}
use Rattle.std.specs.Option.{option_map_or}
use Rattle.std.specs.Prelude.{false, ◌&&◌, Result}
use Rattle.nutusers.specs.Users.{user_named, has_password}
use Rattle.nutcommand.specs.declared.err_word.ErrWord.{ErrWord}
use Rattle.nutcommand.specs.declared.err_word.ErrWord.TheVariants.{AccessDenied}
use Rattle.nutanswer.specs.View.{Seen, AskerSeen}
use Rattle.nutanswer.specs.Checks.{◌>>=◌, user, username_required, password_required, unless}
use Rattle.nutanswer.specs.Orders.{right_to}

module _ (command : Bor (List ℕ)) where
  gives_by_bytes : (grant : Grant) → gives grant (Instcmd command) ≡ gives grant (right_to command.now)
  gives_by_bytes grant = grind arith

  all_give : ◌≡◌ {A = Grant → Bool} (λ grant. gives grant (Instcmd command))
      (λ grant. gives grant (right_to command.now))
  all_give = λ i grant. gives_by_bytes grant i

-- the check of a user to whom one of the grants gives it
abbrev user_by : Seen → AskerSeen → (Grant → Bool) → Result (Unit {0}) ErrWord
user_by s asker is_given =
    username_required asker >>= (λ name. password_required asker >>=
    (λ password. unless (option_map_or
    (λ user. has_password user.password password && list_any is_given user.grants)
    (user_named name s.users) false) AccessDenied))

pub user_by_bytes : (s : Seen) (asker : AskerSeen) (command : Bor (List ℕ)) →
    user s asker (Instcmd command) ≡ user s asker (right_to command.now)
user_by_bytes s asker command = ap (user_by s asker) (all_give command)
