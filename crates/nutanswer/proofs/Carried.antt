-- A reply that carries its answer gives it, whatever is seen.
use Rattle.std.proofs.Common.{◌≡◌, ℕ, true, List, [], ◌∷◌, ◌++◌, length, leb}
use Rattle.std.proofs.Common.{refl, sym, subst, ap, ◌∙◌}
use Rattle.std.proofs.lemmas.Bool.{leb-true}
use Rattle.std.specs.Prelude.{Result, Ok, Err, IfOk}
use Rattle.std.specs.List.{list_all}
use Rattle.nutwords.specs.Bytes.{is_lawful}
use Rattle.nutwords.specs.Frame.{line_of}
use Rattle.nutwords.specs.declared.limits.TheConstants.{LINE_LIMIT}
use Rattle.nutlisting.specs.Items.{ListingState, ups_listing}
use Rattle.nutlisting.specs.Lines.{IsWholeLine}
use Rattle.nutusers.specs.UpsList.{Ups}
use Rattle.nutcommand.specs.declared.err_word.ErrWord.{ErrWord}
use Rattle.nutanswer.specs.declared.reply.Reply.{Reply}
use Rattle.nutanswer.specs.declared.reply.Reply.TheVariants.{Refused, One, Many, Clients}
use Rattle.nutcommand.specs.declared.command.Command.{Command}
use Rattle.nutcommand.specs.declared.command.Command.TheVariants.{ListUps}
use Rattle.nutanswer.specs.View.{Seen, AskerSeen}
use Rattle.nutanswer.specs.declared.reply.Change.{Change}
use Rattle.nutanswer.specs.Answer.{Answer, one_line, listing, answer_to, IsOneLine, IsReply}
use Rattle.nutanswer.specs.Promises.{CarriesAnswer, Gives, GivesReply, GivesListing}

pub carried : (s : Seen) (answer : Result Answer ErrWord) (reply : Reply) →
    CarriesAnswer answer reply → IsReply s answer reply
carried s answer (Refused word) h = h
carried s answer (One line change) h = h
carried s answer (Many l) h = h
carried s answer (Clients name u) h = absurd h

gives : (s : Seen) (answer : Result Answer ErrWord) (r : Result Reply ErrWord) →
    Gives answer r → GivesReply s answer r
gives s answer (Ok reply) h = carried s answer reply h
gives s answer (Err word) h = h

-- what the row of a command gives is the answer to the command
module _ (s : Seen) (asker : AskerSeen) (command its_row : Command)
    (r result : Result Reply ErrWord) (is : command ≡ its_row) (same : r ≡ result) where
  pub given_seen : GivesReply s (answer_to s asker its_row) result → GivesReply s (answer_to s asker command) r
  given_seen h =
      subst (λ (r : Result Reply ErrWord). GivesReply s (answer_to s asker command) r) (sym same)
      (subst (λ (c : Command). GivesReply s (answer_to s asker c) result) (sym is) h)

  pub given : Gives (answer_to s asker its_row) result → GivesReply s (answer_to s asker command) r
  given h = given_seen (gives s (answer_to s asker its_row) result h)

-- and so is the listing that it gives
pub given_listing : {E : Type 0} (s : Seen) (asker : AskerSeen) (command its_row : Command)
    (row : Result (Result ListingState E) ErrWord) → command ≡ its_row
    → GivesListing (answer_to s asker its_row) row → GivesListing (answer_to s asker command) row
given_listing {E} s asker command its_row row is h =
    subst (λ (c : Command). GivesListing (answer_to s asker c) row) (sym is) h

-- the listing of all UPSs
pub ups_listed : {E : Type 0} (s : Seen) (asker : AskerSeen) (list : List Ups)
    (r : Result ListingState E) → list ≡ s.list → IfOk r (λ l. l ≡ ups_listing list) →
    GivesListing (answer_to s asker ListUps) (Ok r)
ups_listed s asker list (Ok l) is h =
    ap (λ (l : ListingState). let a : Result Answer ErrWord = Ok (listing l) in a) (sym (h ∙ ap ups_listing is))
ups_listed s asker list (Err memory) is h = refl

-- a line of the program's own
pub own_line : (line : List ℕ) → list_all is_lawful line ≡ true →
    leb (length line) LINE_LIMIT ≡ true → IsWholeLine (line ++ 10 ∷ [])
own_line line lawful short = record
    { line = line; whole = refl; answer = record { fits = leb-true _ _ short; lawful = lawful } }

-- answers its command
pub own : (line : List ℕ) (words : List (List ℕ)) (change : Change) → line ++ 10 ∷ [] ≡
    line_of words → IsWholeLine (line ++ 10 ∷ [])
    → IsOneLine (Ok (one_line words change)) (line ++ 10 ∷ []) change
own line words change text whole =
    record { text = text; changes = refl; one = refl; granted = refl; whole_line = whole }
