-- The words of a command that are read are lawful names and values.
use Rattle.std.proofs.Common.{arith, ◌≡◌, ◌∙◌, ℕ, Bool, true, false, not, ◌&&◌}
use Rattle.std.proofs.Common.{List, [], ◌∷◌, Option, Some, None, Result, Ok, Err, refl, sym}
use Rattle.std.proofs.Common.{ap, subst, cond, eqb, length}
use Rattle.std.specs.Prelude.{IsTrue, is_ok, nat_lt}
use Rattle.std.specs.Result.{result_ok}
use Rattle.std.specs.List.{list_all}
use Rattle.nutwords.specs.declared.faults.BadName.{BadName}
use Rattle.nutwords.specs.declared.faults.BadName.TheVariants.{Empty, TooLong, AnotherByte}
use Rattle.nutwords.specs.Bytes.{is_name_byte, is_lawful}
use Rattle.nutwords.specs.Reading.{read_text, is_value}
use Rattle.nutcommand.specs.declared.command.Command.{Command}
use Rattle.nutcommand.specs.declared.command.Command.TheVariants.{SetVar}
use Rattle.nutcommand.specs.declared.err_word.ErrWord.{ErrWord}
use Rattle.nutcommand.specs.Command.{command_with, alone, ups_alone, ups_and_name, Names, value_of}
use Rattle.nutcommand.specs.Command.{ups_name_and_value_if_any, set_var_with, HasLawfulName}
use Rattle.nutcommand.specs.Command.{HasLawfulUpsName, HasLawfulValueIfAny, IsLawfulCommand}
use Rattle.nutcommand.specs.Promises.{IsCommandWith}
use Rattle.nutwords.specs.declared.limits.TheConstants.{NAME_LIMIT, VALUE_LIMIT, UPS_NAME_LIMIT}

-- a text that is read stands for itself
read_is : (allowed : ℕ → Bool) (may_be_empty : Bool) (most : ℕ) (bytes text : List ℕ) →
    result_ok (read_text allowed may_be_empty most bytes) ≡ Some text →
    is_ok (read_text allowed may_be_empty most text) ≡ true
read_is allowed may_be_empty most bytes text h =
    let ok : read_text allowed may_be_empty most bytes ≡ Ok text =
    by_result (read_text allowed may_be_empty most bytes) h in
    let same : bytes ≡ text = by_checks (eqb (length bytes) 0 && not may_be_empty)
    (nat_lt most (length bytes)) (list_all allowed bytes) ok in
    ap (λ (b : List ℕ). is_ok (read_text allowed may_be_empty most b)) (sym same) ∙ ap is_ok ok
  where
    by_result : (r : Result (List ℕ) BadName) → result_ok r ≡ Some text → r ≡ Ok text
    by_result r e = grind arith

    by_checks : (a b c : Bool) → cond a (Err Empty)
        (cond b (Err TooLong) (cond c (Ok bytes) (Err AnotherByte))) ≡ Ok text → bytes ≡ text
    by_checks a b c e = grind arith

pub record IsLawfulResult (r : Result Command ErrWord) : Type 0 where
  pub lawful : (command : Command) → r ≡ Ok command → IsLawfulCommand command

pub none_lawful : (word : ErrWord) → IsLawfulResult (Err word)
none_lawful word = record { lawful = λ command e. cc e }

abbrev pub read_as : Command → Result Command ErrWord
read_as command = Ok command

pub one_lawful : (command : Command) → IsLawfulCommand command → IsLawfulResult (read_as command)
one_lawful command h = record { lawful = λ other e. subst IsLawfulCommand (same other e) h }
  where
    same : (other : Command) → read_as command ≡ read_as other → command ≡ other
    same other e = cc e

pub with_lawful : {X : Type 0} (f : X → Command) (r : Result X ErrWord) →
    ((x : X) → r ≡ Ok x → IsLawfulCommand (f x)) → IsLawfulResult (command_with f r)
with_lawful f (Err word) h = none_lawful word
with_lawful f (Ok x) h = one_lawful (f x) (h x refl)

pub alone_lawful : (command : Command) (words : List (List ℕ)) → IsLawfulCommand command →
    IsLawfulResult (alone command words)
alone_lawful command [] h = one_lawful command h
alone_lawful command (w ∷ words) h = none_lawful _

pub either_lawful : (b : Bool) {x y : Result Command ErrWord} → IsLawfulResult x →
    IsLawfulResult y → IsLawfulResult (cond b x y)
either_lawful true h k = h
either_lawful false h k = k

pub instcmd_words : (words : List (List ℕ)) (a : Names (Option (Option (List ℕ)))) →
    ups_name_and_value_if_any words ≡ Ok a → HasLawfulName a.1 × HasLawfulValueIfAny a.2
instcmd_words [] a e = cc e
instcmd_words (ups ∷ []) a e = cc e
instcmd_words (ups ∷ v ∷ []) a e =
    let first : result_ok (read_text is_name_byte false NAME_LIMIT v) ≡ a.1 = cc e in
    let second : None ≡ a.2 = cc e in (
      λ name is. read_is is_name_byte false NAME_LIMIT v name (first ∙ is),
      λ value is. no_value value (second ∙ is),
    )
  where
    no_value : (value : List ℕ) → None ≡ Some (Some value) → IsTrue (is_value value)
    no_value value k = cc k
instcmd_words (ups ∷ v ∷ w ∷ []) a e =
    let first : result_ok (read_text is_name_byte false NAME_LIMIT v) ≡ a.1 = cc e in
    let second : Some (value_of w) ≡ a.2 = cc e in (
      λ name is. read_is is_name_byte false NAME_LIMIT v name (first ∙ is),
      λ value is. read_is is_lawful true VALUE_LIMIT w value (one value (second ∙ is)),
    )
  where
    one : (value : List ℕ) → Some (value_of w) ≡ Some (Some value) → value_of w ≡ Some value
    one value k = cc k
instcmd_words (ups ∷ v ∷ w ∷ x ∷ words) a e = cc e

pub set_var_lawful : (r : Result (Names (Option (Option (List ℕ)))) ErrWord)
    → ((a : Names (Option (Option (List ℕ)))) → r ≡ Ok a → HasLawfulName a.1 ×
    HasLawfulValueIfAny a.2) → IsLawfulResult (set_var_with r)
set_var_lawful (Err word) h = none_lawful word
set_var_lawful (Ok (ups, name, None)) h = none_lawful _
set_var_lawful (Ok (ups, name, Some value)) h =
    one_lawful (SetVar ups name value) ((h _ refl).0, λ v is. (h _ refl).1 v (ap Some is))

pub ups_lawful : (f : Option (List ℕ) → Command) (words : List (List ℕ)) →
    ((ups : Option (List ℕ)) → IsLawfulCommand (f ups)) → IsLawfulResult (command_with f (ups_alone words))
ups_lawful f words h = with_lawful f (ups_alone words) (λ ups e. h ups)

pub ups_words : (words : List (List ℕ)) (ups : Option (List ℕ)) → ups_alone words ≡
    Ok ups → HasLawfulUpsName ups
ups_words [] ups e = cc e
ups_words (u ∷ []) ups e =
    let named : result_ok (read_text is_name_byte false UPS_NAME_LIMIT u) ≡ ups = cc e in
    λ name is. read_is is_name_byte false UPS_NAME_LIMIT u name (named ∙ is)
ups_words (u ∷ w ∷ words) ups e = cc e

pub two_words : (words : List (List ℕ)) (a : Option (List ℕ) × Option (List ℕ)) →
    ups_and_name words ≡ Ok a → HasLawfulUpsName a.0 × HasLawfulName a.1
two_words [] a e = cc e
two_words (u ∷ []) a e = cc e
two_words (u ∷ v ∷ []) a e =
    let first : result_ok (read_text is_name_byte false UPS_NAME_LIMIT u) ≡ a.0 = cc e in
    let second : result_ok (read_text is_name_byte false NAME_LIMIT v) ≡ a.1 = cc e in (
      λ name is. read_is is_name_byte false UPS_NAME_LIMIT u name (first ∙ is),
      λ name is. read_is is_name_byte false NAME_LIMIT v name (second ∙ is),
    )
two_words (u ∷ v ∷ w ∷ words) a e = cc e

-- what is made of the arguments is the command with them
pub made_of : {X : Type 0} (f : X → Command) (arguments : Result X ErrWord) (result : Result Command ErrWord)
    → IsCommandWith (λ a command. Unit {0} × Unit {0} × (command ≡ f a)) arguments result →
    result ≡ command_with f arguments
made_of f (Err word) result h = h
made_of f (Ok a) result h = h.1 ∙ ap Ok h.2.2
