-- What the checks of a command find, where they hold.
use Rattle.std.proofs.Common.{arith, ◌≡◌, ℕ, Bool, true, false, List, Option, Some, None}
use Rattle.std.proofs.Common.{Result, Ok, Err, refl, ◌&&◌}
use Rattle.std.specs.Prelude.{is_none, if◌then◌else◌}
use Rattle.std.specs.Option.{ok_or, option_map}
use Rattle.nuttracking.specs.Tracking.{next_id}
use Rattle.nutdriver.specs.Variable.{VariableState}
use Rattle.nutdriver.specs.Tree.{variable_at}
use Rattle.nutusers.specs.Users.{may}
use Rattle.nutusers.specs.declared.rights.Right.{Right}
use Rattle.nutcommand.specs.declared.err_word.ErrWord.{ErrWord}
use Rattle.nutcommand.specs.declared.err_word.ErrWord.TheVariants as errors
use Rattle.nutanswer.specs.View.{Seen, AskerSeen, Readiness, usable, readiness}
use Rattle.nutanswer.specs.Checks.{◌>>=◌, ◌>>◌, unless, KnownUps, ups_named, known_ups}
use Rattle.nutanswer.specs.Checks.{ready, live, driver_not_connected, data_stale, user}
use Rattle.nutanswer.specs.Checks.{access_denied, known_variable, first_id, order_id}
use Rattle.nutanswer.specs.Answer.{Answer}
use Rattle.nutanswer.specs.Rows.{HasRight, IsIdOfOrder}
use Rattle.std.proofs.lemmas.Bool.{and_parts}

-- what a check that holds says
pub unless_ok : (b : Bool) (word : ErrWord) → unless b word ≡ Ok tt → b ≡ true
unless_ok b word e = grind arith

pub ok_found : {A : Type 0} (o : Option A) (word : ErrWord) (a : A) → ok_or o word ≡ Ok a → o ≡ Some a
ok_found o word a h = grind arith

pub none_given : {A : Type 0} (o : Option A) (word : ErrWord) → unless (is_none o) word ≡ Ok tt → o ≡ None
none_given o word h = grind arith

is_usable : (r : Readiness) → (driver_not_connected r >> data_stale r) ≡ Ok tt → r ≡ usable
is_usable r h = grind arith

pub has_right : (s : Seen) (asker : AskerSeen) (right : Right) → user s asker right ≡ Ok tt →
    HasRight s asker right
has_right s asker right e = by_given asker.username asker.password refl refl e
  where
    by_given : (name password : Option (List ℕ)) → asker.username ≡ name → asker.password ≡ password
        → (ok_or name errors.UsernameRequired >>=
        (λ n. ok_or password errors.PasswordRequired >>= (λ p. access_denied s n p right))) ≡ Ok tt →
        HasRight s asker right
    by_given (Some n) (Some p) f g h =
        record {
          name = n;
          password = p;
          username_given = f;
          password_given = g;
          granted = unless_ok (may s.users n p right) errors.AccessDenied h;
        }
    by_given name password f g h = cc h

-- what holds of each refusal, and of what the checks let through, holds of the row
module _ (P : Result Answer ErrWord → Type 0) (no : (word : ErrWord) → P (Err word)) where
  pub found : {A : Type 0} (r : Result A ErrWord) (next : A → Result Answer ErrWord) →
      ((a : A) → r ≡ Ok a → P (next a)) → P (r >>= next)
  found (Err word) next h = no word
  found (Ok a) next h = h a refl

  pub held : (r : Result (Unit {0}) ErrWord) (next : Result Answer ErrWord) →
      (r ≡ Ok tt → P next) → P (r >> next)
  held (Err word) next h = no word
  held (Ok none) next h = h refl

  -- of a value that is found only where a test of it holds
  pub tested : {A : Type 0} (b : Bool) (word : ErrWord) (a : A) (next : A → Result Answer ErrWord)
      → (b ≡ true → P (next a)) → P ((unless b word >> Ok a) >>= next)
  tested true word a next h = h refl
  tested false word a next h = no word

  -- of the id of an order, where there is one for it
  pub with_id : (s : Seen) (asker : AskerSeen) (word : ErrWord)
      (next : Option ℕ → Result Answer ErrWord) →
      ((id : Option ℕ) → IsIdOfOrder s asker id → P (next id)) → P (order_id s asker word >>= next)
  with_id s asker word next h = by_flag asker.tracking (next_id s.tracking) refl refl
    where
      by_flag : (on : Bool) (o : Option ℕ) → asker.tracking ≡ on → next_id s.tracking ≡
          o → P ((if on then first_id o word else Ok None) >>= next)
      by_flag true None e f = no word
      by_flag true (Some id) e f = h (Some id) (e, f)
      by_flag false o e f = h None e

  module _ (s : Seen) (ups : Option (List ℕ)) where
    -- of a UPS that is there
    pub of_ups : (next : KnownUps → Result Answer ErrWord) →
        ((u : KnownUps) → ups_named s ups ≡ Some u → P (next u)) → P (known_ups s ups >>= next)
    of_ups next h = found (known_ups s ups) next (λ u is. h u (ok_found (ups_named s ups) errors.UnknownUps u is))

    -- and is usable
    pub of_usable : (next : KnownUps → Result Answer ErrWord)
        → ((u : KnownUps) → ups_named s ups ≡ Some u →
        readiness s.moment s.max_age u.state.report ≡ usable → P (next u)) →
        P (known_ups s ups >>= (λ u. live s u >> next u))
    of_usable next h = of_ups (λ u. live s u >> next u)
        (λ u named. held (live s u) (next u) (λ going. h u named (is_usable (ready s u) going)))

    -- and has this variable
    pub of_variable : (name : List ℕ) (next : KnownUps → List ℕ × VariableState → Result Answer ErrWord)
        → ((u : KnownUps) (x : VariableState) → ups_named s ups ≡ Some u →
        readiness s.moment s.max_age u.state.report ≡ usable →
        variable_at u.state.report.tree name ≡ Some x → P (next u (name, x)))
        → P (known_ups s ups >>= (λ u. live s u >> (known_variable u (Some name) >>= next u)))
    of_variable name next h =
        of_usable (λ u. known_variable u (Some name) >>= next u)
        (λ u named going. looked_up u (variable_at u.state.report.tree name) (λ x there. h u x named going there))
      where
        looked_up : (u : KnownUps) (o : Option VariableState) →
            ((x : VariableState) → o ≡ Some x → P (next u (name, x))) →
            P (ok_or (option_map (λ (x : VariableState). (name, x)) o) errors.VarNotSupported >>= next u)
        looked_up u None h = no errors.VarNotSupported
        looked_up u (Some x) h = h x refl
