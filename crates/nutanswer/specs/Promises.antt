-- What the private parts of the code promise one another. A reader of the public contracts needs
-- none of it.
use denote.Ref.{Bor}
use Rattle.std.specs.Prelude.{◌≡◌, ℕ, false, List, Option, None, Result, Ok, Err, IsTrue}
use Rattle.nutdriver.specs.Variable.{VariableState}
use Rattle.nutcommand.specs.declared.err_word.ErrWord.{ErrWord}
use Rattle.nutanswer.specs.declared.checks.Known.{Known}
use Rattle.nutcommand.specs.declared.command.Command.{Command}
use Rattle.nutanswer.specs.declared.reply.Change.TheVariants.{Nothing}
use Rattle.nutanswer.specs.declared.reply.Reply.{Reply}
use Rattle.nutanswer.specs.declared.reply.Reply.TheVariants.{Refused, One, Many, Clients}
use Rattle.nutanswer.specs.View.{Seen, AskerSeen, ups_seen}
use Rattle.nutanswer.specs.Checks.{◌>>=◌, ◌>>◌, KnownUps, known_ups, live, known_variable}
use Rattle.nutanswer.specs.Checks.{known_command, readonly, settable_value, invalid_value}
use Rattle.nutlisting.specs.Items.{ListingState}
use Rattle.nutanswer.specs.Answer.{Answer, listing, answer_to, shares_version, IsOneLine, IsReply}

-- The UPS that was found.
abbrev pub ups_of_known : Known → KnownUps
ups_of_known k = record { name = k.name.now; id = k.id; state = ups_seen k.state }

-- The UPS and the variable that were found.
abbrev pub variable_of_known
    : Known × Bor (List ℕ) × Bor VariableState → KnownUps × List ℕ × VariableState
variable_of_known k = (ups_of_known k.0, k.1.now, k.2.now)

-- What was found, or the word of the check that failed.
abbrev pub found : {A B : Type 0} → (A → B) → Result A ErrWord → Result B ErrWord
found f result = result >>= (λ a. Ok (f a))

-- The live UPS of this name.
abbrev pub live_ups : Seen → Option (List ℕ) → Result KnownUps ErrWord
live_ups s ups = do
  u ← known_ups s ups
  live s u
  Ok u

-- The variable of this name, of a live UPS.
abbrev pub live_variable : Seen → Option (List ℕ) → Option (List ℕ)
    → Result (KnownUps × List ℕ × VariableState) ErrWord
live_variable s ups name = do
  u ← known_ups s ups
  live s u
  (v, x) ← known_variable u name
  Ok (u, v, x)

-- The UPS and the command that were found.
abbrev pub command_of_known : Known × Bor (List ℕ) → KnownUps × List ℕ
command_of_known k = (ups_of_known k.0, k.1.now)

-- The command of this name, of a live UPS.
abbrev pub live_command
    : Seen → Option (List ℕ) → Option (List ℕ) → Result (KnownUps × List ℕ) ErrWord
live_command s ups name = do
  u ← known_ups s ups
  live s u
  c ← known_command u name
  Ok (u, c)

-- The value of this word, where the variable may be set to it.
abbrev pub settable : VariableState → Option (List ℕ) → Result (List ℕ) ErrWord
settable x word = do
  readonly x
  value ← settable_value x word
  invalid_value x value
  Ok value

-- The reply carries the whole answer, as each does but that of a listing of clients.
abbrev pub CarriesAnswer : Result Answer ErrWord → Reply → Type 0
CarriesAnswer answer (Refused word) = answer ≡ Err word
CarriesAnswer answer (One line change) = IsOneLine answer line.now change
CarriesAnswer answer (Many l) = answer ≡ Ok (listing l)
CarriesAnswer answer (Clients name u) = ⊥

-- The reply gives this answer, or the word of its error.
abbrev pub Gives : Result Answer ErrWord → Result Reply ErrWord → Type 0
Gives answer (Ok reply) = CarriesAnswer answer reply
Gives answer (Err word) = answer ≡ Err word

-- The same of a reply that may list the clients that are seen.
abbrev pub GivesReply : Seen → Result Answer ErrWord → Result Reply ErrWord → Type 0
GivesReply s answer (Ok reply) = IsReply s answer reply
GivesReply s answer (Err word) = answer ≡ Err word

-- The line of the row is the answer, and changes nothing; or the row gives the word of its error.
abbrev pub GivesLine : Result Answer ErrWord → Result (Unit {0}) ErrWord → List ℕ → Type 0
GivesLine answer (Ok none) line = IsOneLine answer line Nothing
GivesLine answer (Err word) line = answer ≡ Err word

-- The row gives this listing, the refusal of its memory, or the word of its error.
abbrev pub GivesListing
    : {E : Type 0} → Result Answer ErrWord → Result (Result ListingState E) ErrWord → Type 0
GivesListing answer (Ok (Ok l)) = answer ≡ Ok (listing l)
GivesListing answer (Ok (Err memory)) = IsTrue (shares_version answer)
GivesListing answer (Err word) = answer ≡ Err word

-- A session that has given nothing.
abbrev pub nobody : AskerSeen
nobody = record { username = None; password = None; login = None; tracking = false }

-- The answer to a command that is the same whoever asks.
abbrev pub row : Seen → Command → Result Answer ErrWord
row s command = answer_to s nobody command
