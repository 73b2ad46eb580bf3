-- The rows of the orders in the table of answers.
use Rattle.std.proofs.Common.{◌≡◌, ◌⊎◌, ℕ, true, false, List}
use Rattle.std.proofs.Common.{if◌then◌else◌, Bool}
use Rattle.std.proofs.Common.{Option, Some, None, Result, Ok, Err, refl, inl, inr}
use Rattle.std.specs.Option.{ok_or}
use Rattle.nutwords.specs.Frame.{line_of}
use Rattle.nuttracking.specs.Tracking.{next_id}
use Rattle.nutusers.specs.declared.rights.Right.TheVariants as rights
use Rattle.nutcommand.specs.declared.command.Command.TheVariants as commands
use Rattle.nutcommand.specs.declared.err_word.ErrWord.{ErrWord}
use Rattle.nutcommand.specs.declared.err_word.ErrWord.TheVariants.{UnknownUps, SetFailed, InstcmdFailed}
use Rattle.nutanswer.specs.declared.reply.Change.{Change}
use Rattle.nutanswer.specs.Checks.{◌>>=◌, ◌>>◌, KnownUps, ups_named, known_ups, user}
use Rattle.nutanswer.specs.Checks.{live, known_variable, readonly, settable_value, invalid_value}
use Rattle.nutanswer.specs.Checks.{first_id, order_id, set_failed, known_command}
use Rattle.nutanswer.specs.Checks.{command_value, instcmd_failed}
use Rattle.nutanswer.specs.Orders.{instcmd_right, set_line, instcmd_line, ok_words}
use Rattle.nutanswer.specs.Answer.{Answer, one_line, answer_to, text_of_answer}
use Rattle.nutanswer.specs.Rows.{IsIdOfOrder}
use Rattle.nutanswer.specs.View.{Seen, AskerSeen}

-- a row of an order is answered by an error, or its UPS is there and it is answered by OK,
-- followed by the id where the order is tracked
abbrev pub IsEither : Seen → AskerSeen → Option (List ℕ) → Result Answer ErrWord → Type 0
IsEither s a ups r = ((word : ErrWord) × (r ≡ Err word)) ⊎
    ((known : KnownUps) × (id : Option ℕ) × (ups_named s ups ≡ Some known) ×
    IsIdOfOrder s a id × (text_of_answer r ≡ line_of (ok_words id)))

module _ (s : Seen) (a : AskerSeen) (ups : Option (List ℕ)) where
  refused_so : (word : ErrWord) → IsEither s a ups (Err word)
  refused_so word = inl (word, refl)

  behind_check : (r : Result (Unit {0}) ErrWord) (next : Result Answer ErrWord) →
      IsEither s a ups next → IsEither s a ups (r >> next)
  behind_check (Err word) next h = refused_so word
  behind_check (Ok none) next h = h

  behind_found : {A : Type 0} (r : Result A ErrWord) (next : A → Result Answer ErrWord) →
      ((x : A) → IsEither s a ups (next x)) → IsEither s a ups (r >>= next)
  behind_found (Err word) next h = refused_so word
  behind_found (Ok x) next h = h x

  behind_ups : (next : KnownUps → Result Answer ErrWord) →
      ((known : KnownUps) → ups_named s ups ≡ Some known → IsEither s a ups (next known)) →
      IsEither s a ups (known_ups s ups >>= next)
  behind_ups next h = by_name (ups_named s ups) refl
    where
      by_name : (o : Option KnownUps) → ups_named s ups ≡ o → IsEither s a ups (ok_or o UnknownUps >>= next)
      by_name None e = refused_so UnknownUps
      by_name (Some known) e = h known e

  behind_id : (word : ErrWord) (next : Option ℕ → Result Answer ErrWord) →
      ((id : Option ℕ) → IsIdOfOrder s a id → IsEither s a ups (next id)) →
      IsEither s a ups (order_id s a word >>= next)
  behind_id word next h = by_flag a.tracking (next_id s.tracking) refl refl
    where
      by_flag : (on : Bool) (o : Option ℕ) → a.tracking ≡ on → next_id s.tracking ≡ o →
          IsEither s a ups ((if on then first_id o word else Ok None) >>= next)
      by_flag true None e f = refused_so word
      by_flag true (Some id) e f = h (Some id) (e, f)
      by_flag false o e f = h None e

  answered_ok : (known : KnownUps) (id : Option ℕ) (change : Change) → ups_named s ups ≡
      Some known → IsIdOfOrder s a id → IsEither s a ups (Ok (one_line (ok_words id) change))
  answered_ok known id change e is = inr (known, id, e, is, refl)

pub set_either : (s : Seen) (a : AskerSeen) (ups name word : Option (List ℕ)) →
    IsEither s a ups (answer_to s a (commands.SetVar ups name word))
set_either s a ups name word =
    behind_check s a ups (user s a rights.Set) _
    (behind_ups s a ups _ (λ u e. behind_check s a ups (live s u) _
    (behind_found s a ups (known_variable u name) _ (λ p. behind_check s a ups (readonly p.1) _
    (behind_found s a ups (settable_value p.1 word) _ (λ value. behind_check s a ups (invalid_value p.1 value) _
    (behind_id s a ups SetFailed _ (λ id is. behind_check s a ups
    (set_failed u (set_line p.0 value id)) _ (answered_ok s a ups u id _ e is)))))))))

pub command_either : (s : Seen) (a : AskerSeen) (ups name : Option (List ℕ))
    (word : Option (Option (List ℕ))) → IsEither s a ups (answer_to s a (commands.InstCmd ups name word))
command_either s a ups name word =
    behind_check s a ups (user s a (instcmd_right name)) _
    (behind_ups s a ups _ (λ u e. behind_check s a ups (live s u) _
    (behind_found s a ups (known_command u name) _ (λ c.
    behind_found s a ups (command_value word) _ (λ value.
    behind_id s a ups InstcmdFailed _
    (λ id is. behind_check s a ups (instcmd_failed u (instcmd_line c value id)) _
    (answered_ok s a ups u id _ e is)))))))

-- what a change does to the kept orders, whether or not its session is there
