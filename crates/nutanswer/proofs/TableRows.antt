-- What is said of a row of the table of answers, whichever its command: its change comes of the
-- command, what changes something is answered by OK, and where what is seen and the command are
-- lawful, its text is one line, or a listing to its END.
use Rattle.std.proofs.Common.{◌≡◌, ◌∙◌, ℕ, true, false, List, Option, Some, None}
use Rattle.std.proofs.Common.{Result, Ok, Err, refl, sym, ◌⊎◌}
use Rattle.std.specs.List.{join_with_byte}
use Rattle.nutwords.specs.Answers.{begins_listing, IsAnswer}
use Rattle.nutwords.specs.Frame.{line_of}
use Rattle.nutdriver.specs.Variable.{VariableState}
use Rattle.nutlisting.specs.Items.{ListingState, text_of}
use Rattle.nutusers.specs.declared.ups_list.UpsId.{UpsId}
use Rattle.nutcommand.specs.declared.command.Command.{Command}
use Rattle.nutcommand.specs.declared.err_word.ErrWord.{ErrWord}
use Rattle.nutanswer.specs.declared.reply.Change.{Change}
use Rattle.nutanswer.specs.declared.reply.Change.TheVariants.{Nothing}
use Rattle.nutanswer.specs.View.{Seen, AskerSeen}
use Rattle.nutanswer.specs.Checks.{◌>>=◌, ◌>>◌, KnownUps, ups_named, known_ups, live, known_variable}
use Rattle.nutanswer.specs.Orders.{order, ok_words}
use Rattle.nutanswer.specs.Answer.{Answer, one_line, listing, listing_of_clients, in_one_line}
use Rattle.nutanswer.specs.Answer.{answer_to, change_of_answer, text_of_answer}
use Rattle.nutcommand.specs.Command.{IsLawfulCommand}
use Rattle.nutanswer.specs.Laws.{IsLawfulSeen, begins_with_ok, is_ok_line}
use Rattle.nutanswer.specs.Rows.{IsSet, IsInstCmd, ComesOf}
use Rattle.nutanswer.proofs.CheckLemmas as checks
use Rattle.nutanswer.proofs.Plain.{ArePlain}
use Rattle.nutanswer.proofs.Shapes.{IsShaped, refused_shaped, line_shaped, ok_shaped, order_shaped}

pub record IsRow (s : Seen) (asker : AskerSeen) (command : Command) (answer : Result Answer ErrWord) : Type 0 where
  pub comes : text_of_answer (answer_to s asker command) ≡ text_of_answer answer →
      ComesOf s asker command (change_of_answer answer)
  pub by_ok : is_ok_line answer ≡ false → change_of_answer answer ≡ Nothing
  pub shape : IsLawfulSeen s → IsLawfulCommand command → IsShaped answer

module _ {s : Seen} {asker : AskerSeen} {command : Command} where
  -- what changes nothing: an error, a line, a listing
  pub refused : (word : ErrWord) → IsRow s asker command (Err word)
  refused word = record { comes = λ e. tt; by_ok = λ e. refl; shape = λ seen h. refused_shaped word }

  pub tells : (words : List (List ℕ)) → begins_listing (join_with_byte 32 words) ≡ false →
      (IsLawfulSeen s → IsLawfulCommand command → ArePlain words) → IsRow s asker command (in_one_line words)
  tells words alone plain = record
      { comes = λ e. tt; by_ok = λ e. refl; shape = λ seen h. line_shaped words (plain seen h) alone }

  pub lists : (l : ListingState) →
      (IsLawfulSeen s → IsLawfulCommand command → IsAnswer (text_of l)) → IsRow s asker command (Ok (listing l))
  lists l its = record { comes = λ e. tt; by_ok = λ e. refl; shape = its }

  pub lists_clients : (l : ListingState) →
      (IsLawfulSeen s → IsLawfulCommand command → IsAnswer (text_of l)) →
      IsRow s asker command (Ok (listing_of_clients l))
  lists_clients l its = record { comes = λ e. tt; by_ok = λ e. refl; shape = its }

  -- what changes something, and is answered by these words
  pub does : (words : List (List ℕ)) (change : Change) → begins_with_ok words ≡ true → IsAnswer (line_of words)
      → (text_of_answer (answer_to s asker command) ≡ line_of words →
      ComesOf s asker command change) → IsRow s asker command (Ok (one_line words change))
  does words change ok its comes =
      record {
        comes = comes;
        by_ok = λ e. (let never : true ≡ false = sym ok ∙ e in cc never);
        shape = λ seen h. its;
      }

  -- an order, tracked or not
  pub orders : (u : UpsId) (line : List ℕ) (id : Option ℕ) →
      (text_of_answer (answer_to s asker command) ≡ line_of (ok_words id) →
      IsSet s asker command u id line ⊎ IsInstCmd s asker command u id line)
      → IsRow s asker command (Ok (one_line (ok_words id) (order u line id)))
  orders u line None comes = does (ok_words None) (order u line None) refl ok_shaped comes
  orders u line (Some id) comes = does (ok_words (Some id)) (order u line (Some id)) refl (order_shaped (Some id)) comes

  -- what a row says after its checks, it says
  pub held : (r : Result (Unit {0}) ErrWord) {next : Result Answer ErrWord} →
      (r ≡ Ok tt → IsRow s asker command next) → IsRow s asker command (r >> next)
  held r {next} h = checks.held (IsRow s asker command) refused r next h

  pub found : {A : Type 0} (r : Result A ErrWord) {next : A → Result Answer ErrWord} →
      ((a : A) → r ≡ Ok a → IsRow s asker command (next a)) → IsRow s asker command (r >>= next)
  found r {next} h = checks.found (IsRow s asker command) refused r next h

  pub of_ups : (ups : Option (List ℕ)) {next : KnownUps → Result Answer ErrWord} →
      ((u : KnownUps) → ups_named s ups ≡ Some u → IsRow s asker command (next u)) →
      IsRow s asker command (known_ups s ups >>= next)
  of_ups ups {next} h = checks.of_ups (IsRow s asker command) refused s ups next h

  pub of_usable : (ups : Option (List ℕ)) {next : KnownUps → Result Answer ErrWord} →
      ((u : KnownUps) → ups_named s ups ≡ Some u → IsRow s asker command (next u)) →
      IsRow s asker command (known_ups s ups >>= (λ u. live s u >> next u))
  of_usable ups {next} h = checks.of_usable (IsRow s asker command) refused s ups next (λ u named going. h u named)

  pub of_variable : (ups name : Option (List ℕ))
      {next : KnownUps → List ℕ × VariableState → Result Answer ErrWord}
      → ((u : KnownUps) (v : List ℕ × VariableState) → ups_named s ups ≡ Some u →
      known_variable u name ≡ Ok v → IsRow s asker command (next u v))
      → IsRow s asker command (known_ups s ups >>= (λ u. live s u >> (known_variable u name >>= next u)))
  of_variable ups name {next} h = of_usable ups (λ u named. found (known_variable u name) (λ v is. h u v named is))
