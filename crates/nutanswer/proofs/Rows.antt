-- A row of the table, by what its checks find together.
use Rattle.std.proofs.Common.{arith, ◌≡◌, ℕ, List, Option, Some, Result, Ok, Err, refl, sym}
use Rattle.std.proofs.Common.{ap, ◌∙◌, subst}
use Rattle.nutdriver.specs.Variable.{VariableState}
use Rattle.nutcommand.specs.declared.err_word.ErrWord.{ErrWord}
use Rattle.nutusers.specs.declared.rights.Right.TheVariants.{Set}
use Rattle.nutanswer.specs.View.{Seen, AskerSeen}
use Rattle.nutcommand.specs.declared.command.Command.TheVariants.{SetVar, InstCmd}
use Rattle.nutanswer.specs.Answer.{Answer, answer_to, one_line}
use Rattle.nutanswer.specs.Checks.{◌>>=◌, ◌>>◌, KnownUps, user, known_ups, live}
use Rattle.nutanswer.specs.Checks.{known_variable, known_command, readonly, settable_value}
use Rattle.nutanswer.specs.Checks.{command_value, invalid_value, order_id, set_failed}
use Rattle.nutanswer.specs.Checks.{instcmd_failed}
use Rattle.nutanswer.specs.Orders.{set_line, instcmd_line, instcmd_right, order, ok_words}
use Rattle.nutanswer.specs.Promises.{live_ups, live_variable, live_command, settable, Gives, GivesLine, GivesListing}
use Rattle.nutlisting.specs.Items.{ListingState}
use Rattle.nutanswer.specs.declared.reply.Reply.{Reply}
use Rattle.nutcommand.specs.declared.err_word.ErrWord.TheVariants.{SetFailed, InstcmdFailed}
use Rattle.std.specs.Prelude.{◌≤◌, ◌<◌, length}
use Rattle.std.proofs.lemmas.Bool.{le-leb, lt-leb}

-- a row that is refused by this word is answered so
pub refused_by : (answer : Result Answer ErrWord) (word : ErrWord) (r : Result Reply ErrWord) →
    answer ≡ Err word → r ≡ Err word → Gives answer r
refused_by answer word r h is = subst (λ (r : Result Reply ErrWord). Gives answer r) (sym is) h

pub refused_line : (answer : Result Answer ErrWord) (word : ErrWord) (r : Result (Unit {0}) ErrWord)
    (line : List ℕ) → answer ≡ Err word → r ≡ Err word → GivesLine answer r line
refused_line answer word r line h is = subst (λ (r : Result (Unit {0}) ErrWord). GivesLine answer r line) (sym is) h

pub refused_listing : {E : Type 0} (answer : Result Answer ErrWord) (word : ErrWord)
    (r : Result (Result ListingState E) ErrWord) → answer ≡ Err word → r ≡ Err word → GivesListing answer r
refused_listing {E} answer word r h is =
    subst (λ (r : Result (Result ListingState E) ErrWord). GivesListing answer r) (sym is) h

-- what comes after a check, in two parts
after_check : {A B C : Type 0} (m : Result A ErrWord) (both : A → Result C ErrWord)
    (first : A → Result B ErrWord) (next : B → Result C ErrWord)
    → ((a : A) → both a ≡ (first a >>= next)) → (m >>= both) ≡ ((m >>= first) >>= next)
after_check m both first next h = grind arith

-- the same of a check that finds nothing
after_test : {B C : Type 0} (m : Result (Unit {0}) ErrWord) (both : Result C ErrWord)
    (first : Result B ErrWord) (next : B → Result C ErrWord)
    → both ≡ (first >>= next) → (m >> both) ≡ ((m >> first) >>= next)
after_test m both first next h = grind arith

-- the checks of a variable of a live UPS
row_of_variable : {A : Type 0} (s : Seen) (ups name : Option (List ℕ))
    (next : KnownUps → List ℕ → VariableState → Result A ErrWord)
    →
    (known_ups s ups >>= (λ u. live s u >>
    (known_variable u name >>= (λ v. next u v.0 v.1)))) ≡ (live_variable s ups name >>= (λ k. next k.0 k.1 k.2))
row_of_variable s ups name next =
    after_check (known_ups s ups) (λ u. live s u >>
    (known_variable u name >>= (λ v. next u v.0 v.1)))
    (λ u. live s u >> (known_variable u name >>= (λ v. Ok (u, v.0, v.1)))) (λ k. next k.0 k.1 k.2)
    (λ u. after_test (live s u) (known_variable u name >>= (λ v. next u v.0 v.1))
    (known_variable u name >>= (λ v. Ok (u, v.0, v.1))) (λ k. next k.0 k.1 k.2)
    (after_check (known_variable u name) (λ v. next u v.0 v.1) (λ v. Ok (u, v.0, v.1))
    (λ k. next k.0 k.1 k.2) (λ v. refl)))

module _ {A : Type 0} (s : Seen) (ups name : Option (List ℕ))
    (next : KnownUps → List ℕ → VariableState → Result A ErrWord) where
  -- what comes after these checks gets what they found
  pub with_variable : (k : KnownUps × List ℕ × VariableState) → Ok k ≡ live_variable s ups name
      →
      (known_ups s ups >>= (λ u. live s u >>
      (known_variable u name >>= (λ v. next u v.0 v.1)))) ≡ next k.0 k.1 k.2
  with_variable k e = row_of_variable s ups name next ∙ ap (λ r. r >>= (λ k. next k.0 k.1 k.2)) (sym e)

  -- and where one of them fails, the row fails so
  pub without_variable : (word : ErrWord) → Err word ≡ live_variable s ups name
      → (known_ups s ups >>= (λ u. live s u >> (known_variable u name >>= (λ v. next u v.0 v.1)))) ≡ Err word
  without_variable word e = row_of_variable s ups name next ∙ ap (λ r. r >>= (λ k. next k.0 k.1 k.2)) (sym e)

-- the checks of a live UPS: where one of them fails, the row fails so
pub without_ups : {A : Type 0} (s : Seen) (ups : Option (List ℕ))
    (next : KnownUps → Result A ErrWord) (word : ErrWord) → Err word ≡ live_ups s ups
    → (known_ups s ups >>= (λ u. live s u >> next u)) ≡ Err word
without_ups s ups next word e =
    after_check (known_ups s ups) (λ u. live s u >> next u) (λ u. live s u >> Ok u) next
    (λ u. after_test (live s u) (next u) (Ok u) next refl)
    ∙ ap (λ r. r >>= next) (sym e)

-- the checks of a command of a live UPS
row_of_command : {A : Type 0} (s : Seen) (ups name : Option (List ℕ))
    (next : KnownUps → List ℕ → Result A ErrWord)
    → (known_ups s ups >>= (λ u. live s u >> (known_command u name >>= (λ c. next u c))))
    ≡ (live_command s ups name >>= (λ k. next k.0 k.1))
row_of_command s ups name next =
    after_check (known_ups s ups) (λ u. live s u >>
    (known_command u name >>= (λ c. next u c)))
    (λ u. live s u >> (known_command u name >>= (λ c. Ok (u, c)))) (λ k. next k.0 k.1)
    (λ u. after_test (live s u) (known_command u name >>= (λ c. next u c))
    (known_command u name >>= (λ c. Ok (u, c))) (λ k. next k.0 k.1)
    (after_check (known_command u name) (λ c. next u c) (λ c. Ok (u, c)) (λ k. next k.0 k.1) (λ c. refl)))

-- the checks of a value that a variable is to be set to
row_of_value : {A : Type 0} (x : VariableState) (word : Option (List ℕ)) (next : List ℕ → Result A ErrWord)
    → (readonly x >> (settable_value x word >>= (λ value. invalid_value x value >> next value))) ≡
    (settable x word >>= next)
row_of_value x word next =
    after_test (readonly x) (settable_value x word >>= (λ value. invalid_value x value >> next value))
    (settable_value x word >>= (λ value. invalid_value x value >> Ok value)) next
    (after_check (settable_value x word) (λ value. invalid_value x value >> next value)
    (λ value. invalid_value x value >> Ok value) next
    (λ value. after_test (invalid_value x value) (next value) (Ok value) next refl))

-- such a value is that of the word
pub settable_is : (x : VariableState) (word : Option (List ℕ)) (value : List ℕ) → Ok value ≡
    settable x word → word ≡ Some value
settable_is x word value h = given (readonly x) (λ v. invalid_value x v) h
  where
    given : (first : Result (Unit {0}) ErrWord) (last : List ℕ → Result (Unit {0}) ErrWord) →
        Ok value ≡ (first >> (settable_value x word >>= (λ v. last v >> Ok v))) → word ≡ Some value
    given first last h = grind arith

-- the end of SET VAR: the id that it uses, and the line, which fits and is owed
abbrev pub set_end : Seen → AskerSeen → KnownUps → List ℕ → List ℕ → Result Answer ErrWord
set_end s asker u v value =
    order_id s asker SetFailed >>= (λ id. set_failed u (set_line v value id) >> Ok
    (one_line (ok_words id) (order u.id (set_line v value id) id)))

-- and of INSTCMD
abbrev pub instcmd_end : Seen → AskerSeen → KnownUps → List ℕ → Option (List ℕ) → Result Answer ErrWord
instcmd_end s asker u c value =
    order_id s asker InstcmdFailed >>= (λ id. instcmd_failed u (instcmd_line c value id) >> Ok
    (one_line (ok_words id) (order u.id (instcmd_line c value id) id)))

module _ (s : Seen) (asker : AskerSeen) (ups name : Option (List ℕ)) where
  -- SET VAR, by the user's right and the checks of a variable
  pub set_row : (word : Option (List ℕ)) (k : KnownUps × List ℕ × VariableState) → Ok tt ≡
      user s asker Set → Ok k ≡ live_variable s ups name
      → answer_to s asker (SetVar ups name word) ≡ (settable k.2 word >>= (λ value. set_end s asker k.0 k.1 value))
  set_row word k h e =
      let next : KnownUps → List ℕ → VariableState → Result Answer ErrWord =
      λ u v x. readonly x >> (settable_value x word >>=
      (λ value. invalid_value x value >> set_end s asker u v value)) in
      cc (h, with_variable s ups name next k e, row_of_value k.2 word (λ value. set_end s asker k.0 k.1 value))

  -- a variable that isn't there
  pub set_without : (word : Option (List ℕ)) → Ok tt ≡ user s asker Set →
      (why : ErrWord) → Err why ≡ live_variable s ups name
      → (r : Result Reply ErrWord) → r ≡ Err why → Gives (answer_to s asker (SetVar ups name word)) r
  set_without word h why e r is =
      let next : KnownUps → List ℕ → VariableState → Result Answer ErrWord =
      λ u v x. readonly x >> (settable_value x word >>=
      (λ value. invalid_value x value >> set_end s asker u v value)) in
      refused_by (answer_to s asker (SetVar ups name word)) why r (cc (h, without_variable s ups name next why e)) is

  -- INSTCMD, by the user's right and the checks of a command
  pub instcmd_row : (word : Option (Option (List ℕ))) → Ok tt ≡ user s asker (instcmd_right name)
      → answer_to s asker (InstCmd ups name word) ≡
      (live_command s ups name >>= (λ k. command_value word >>= (λ value. instcmd_end s asker k.0 k.1 value)))
  instcmd_row word h =
      let next : KnownUps → List ℕ → Result Answer ErrWord =
      λ u c. command_value word >>= (λ value. instcmd_end s asker u c value) in
      cc (h, row_of_command s ups name next)

  module _ (word : Option (List ℕ)) (k : KnownUps × List ℕ × VariableState)
      (h : Ok tt ≡ user s asker Set) (e : Ok k ≡ live_variable s ups name) where
    -- the variable isn't to have this value
    pub set_refused : (why : ErrWord) → Err why ≡ settable k.2 word → (r : Result Reply ErrWord) → r ≡ Err why
        → Gives (answer_to s asker (SetVar ups name word)) r
    set_refused why f r is =
        refused_by (answer_to s asker (SetVar ups name word)) why r (cc (set_row word k h e, f)) is

    set_using : (value : List ℕ) → Ok value ≡ settable k.2 word →
        (id : Result (Option ℕ) ErrWord) → id ≡ order_id s asker SetFailed
        → answer_to s asker (SetVar ups name word) ≡
        (id >>= (λ id. set_failed k.0 (set_line k.1 value id) >> Ok
        (one_line (ok_words id) (order k.0.id (set_line k.1 value id) id))))
    set_using value f id g = cc (set_row word k h e, f, g)

    -- there is no id
    pub set_without_id : (value : List ℕ) → Ok value ≡ settable k.2 word →
        (why : ErrWord) → Err why ≡ order_id s asker SetFailed → (r : Result Reply ErrWord) → r ≡ Err why
        → Gives (answer_to s asker (SetVar ups name word)) r
    set_without_id value f why g r is =
        refused_by (answer_to s asker (SetVar ups name word)) why r (set_using value f (Err why) g) is

    -- the line doesn't fit
    pub set_full : (value : List ℕ) → Ok value ≡ settable k.2 word → (id : Option ℕ) →
        Ok id ≡ order_id s asker SetFailed → k.0.state.free < length (set_line k.1 value id)
        → answer_to s asker (SetVar ups name word) ≡ Err SetFailed
    set_full value f id g more = cc (
      set_using value f (Ok id) g,
      lt-leb (length (set_line k.1 value id)) k.0.state.free more,
    )

    -- the driver is owed the line
    pub set_done : (value : List ℕ) → Ok value ≡ settable k.2 word → (id : Option ℕ) →
        Ok id ≡ order_id s asker SetFailed → length (set_line k.1 value id) ≤ k.0.state.free
        → answer_to s asker (SetVar ups name word) ≡
        Ok (one_line (ok_words id) (order k.0.id (set_line k.1 value id) id))
    set_done value f id g fits = cc (
      set_using value f (Ok id) g,
      le-leb (length (set_line k.1 value id)) k.0.state.free fits,
    )

  -- a command that isn't there
  pub instcmd_refused : (word : Option (Option (List ℕ))) → Ok tt ≡
      user s asker (instcmd_right name) → (why : ErrWord) → Err why ≡ live_command s ups name
      → (r : Result Reply ErrWord) → r ≡ Err why → Gives (answer_to s asker (InstCmd ups name word)) r
  instcmd_refused word h why f r is =
      refused_by (answer_to s asker (InstCmd ups name word)) why r (cc (instcmd_row word h, f)) is
