-- What holds of every row of the table of answers.
use Rattle.std.specs.Prelude.{◌≡◌, ◌≤◌, ◌-◌, ℕ, Bool, true, false, List, [], ◌∷◌, codes, length}
use Rattle.std.specs.Prelude.{slice_get, Option, Some, Result, Ok, Err, All, IsTrue, IfSome}
use Rattle.std.specs.Str.{bytes_eq}
use Rattle.nutwords.specs.Answers.{IsAnswer}
use Rattle.nutwords.specs.Reading.{is_name, is_value, is_address}
use Rattle.nuttracking.specs.Sound.{HaveLawfulNumbers}
use Rattle.nutdriver.specs.Sound.{IsSoundTree}
use Rattle.nutusers.specs.UpsList.{IsLawfulUps, place_of}
use Rattle.nutusers.specs.Descriptions.{AreLawful}
use Rattle.nutusers.specs.declared.ups_list.UpsId.{UpsId}
use Rattle.nutcommand.specs.declared.command.Command.{Command}
use Rattle.nutcommand.specs.declared.err_word.ErrWord.{ErrWord}
use Rattle.nutanswer.specs.declared.reply.Change.TheVariants.{Nothing}
use Rattle.nutlisting.specs.Lines.{IsWholeLine}
use Rattle.nutusers.specs.declared.limits.TheConstants.{SESSION_LIMIT}
use Rattle.nutcommand.specs.ErrWord.{error_line}
use Rattle.nutanswer.specs.View.{Seen, AskerSeen, UpsSeen}
use Rattle.nutanswer.specs.Checks.{KnownUps, ups_named}
use Rattle.nutanswer.specs.Orders.{order, set_line, instcmd_line}
use Rattle.nutanswer.specs.Answer.{Answer, one_line, listing, listing_of_clients, answer_to}
use Rattle.nutanswer.specs.Answer.{change_of_answer, text_of_answer}
use Rattle.nutcommand.specs.Command.{asks_data_of, IsLawfulCommand}

-- The first word is OK.
abbrev pub begins_with_ok : List (List ℕ) → Bool
begins_with_ok [] = false
begins_with_ok (first ∷ words) = bytes_eq first (codes "OK")

-- The answer is a line whose first word is OK.
abbrev pub is_ok_line : Result Answer ErrWord → Bool
is_ok_line (Err word) = false
is_ok_line (Ok (one_line words change)) = begins_with_ok words
is_ok_line (Ok (listing l)) = false
is_ok_line (Ok (listing_of_clients l)) = false

-- A refused line changes nothing.
abbrev pub RefusedLinesChangeNothing : Type 0
RefusedLinesChangeNothing =
    (s : Seen) (asker : AskerSeen) (command : Command) (word : ErrWord)
    → answer_to s asker command ≡ Err word → change_of_answer (answer_to s asker command) ≡ Nothing

-- What isn't answered by a line of OK changes nothing: refusals, data, and listings.
abbrev pub OnlyOkChanges : Type 0
OnlyOkChanges =
    (s : Seen) (asker : AskerSeen) (command : Command)
    → is_ok_line (answer_to s asker command) ≡ false
    → change_of_answer (answer_to s asker command) ≡ Nothing

-- The UPS has this name, and is at the place of its name in the list, and at the same among those
-- seen.
pub record IsSeen (s : Seen) (ups : Option (List ℕ)) (u : KnownUps) : Type 0 where
  pub name_is : ups ≡ Some u.name
  pub in_list : place_of u.name s.list ≡ Some u.id.place
  pub stands : slice_get s.upses u.id.place ≡ Some u.state

-- A UPS that is named is one of those seen.
abbrev pub ANamedUpsIsSeen : Type 0
ANamedUpsIsSeen =
    (s : Seen) (ups : Option (List ℕ)) (u : KnownUps) → ups_named s ups ≡ Some u → IsSeen s ups u

-- The driver of this UPS is connected, and the line fits in what it may still be owed.
pub record TakesOrder (line : List ℕ) (x : UpsSeen) : Type 0 where
  pub connected : x.report.connected ≡ true
  pub fits : length line ≤ x.free

-- An order, tracked or not, is for a driver that is connected, and fits in what it may still be
-- owed.
abbrev pub OrdersFit : Type 0
OrdersFit =
    (s : Seen) (asker : AskerSeen) (command : Command) (u : UpsId) (line : List ℕ) (id : Option ℕ)
    (x : UpsSeen)
    → change_of_answer (answer_to s asker command) ≡ order u line id
    → slice_get s.upses u.place ≡ Some x → TakesOrder line x

-- The line of an error is one whole line.
abbrev pub ErrorLinesAreWhole : Type 0
ErrorLinesAreWhole = (word : ErrWord) → IsWholeLine (error_line word)

-- The line of an order to a driver is one whole line, where the name is lawful, and the value, if
-- it has one.
pub record OrderLinesAreWhole : Type 0 where
  pub set : (name value : List ℕ) (id : Option ℕ) → IsTrue (is_name name) → IsTrue (is_value value)
      → IsWholeLine (set_line name value id)
  pub command : (name : List ℕ) (value : Option (List ℕ)) (id : Option ℕ) → IsTrue (is_name name)
      → IfSome value (λ text. IsTrue (is_value text)) → IsWholeLine (instcmd_line name value id)

-- What an answer may look at is lawful: the UPSs of the list, the trees that drivers reported, the
-- descriptions, the addresses of clients, of which there are no more than there may be, and the
-- numbers that tracked orders are done with.
pub record IsLawfulSeen (s : Seen) : Type 0 where
  pub list : All IsLawfulUps s.list
  pub trees : All (λ u. IsSoundTree u.report.tree) s.upses
  pub descriptions : AreLawful s.descriptions
  pub addresses : All (λ client. IsTrue (is_address client.address)) s.clients
  pub few : length s.clients ≤ SESSION_LIMIT
  pub numbers : HaveLawfulNumbers s.tracking.orders

-- Then the answer to a lawful command, as each that was read is, has the shape of one answer: it is
-- one line, which begins no listing, or a listing to its END.
abbrev pub EachAnswerIsALineOrAListing : Type 0
EachAnswerIsALineOrAListing =
    (s : Seen) (asker : AskerSeen) (command : Command) → IsLawfulSeen s → IsLawfulCommand command
    → IsAnswer (text_of_answer (answer_to s asker command))

-- The line of an error is one too.
abbrev pub EachErrorIsALine : Type 0
EachErrorIsALine = (word : ErrWord) → IsAnswer (error_line word)

-- The driver of the UPS is connected, has reported all that it knows, says that its data are right,
-- and was heard, by a whole line, at most the greatest age ago.
pub record IsFresh (s : Seen) (u : KnownUps) : Type 0 where
  pub connected : u.state.report.connected ≡ true
  pub dumped : u.state.report.dumped ≡ true
  pub ok : u.state.report.ok ≡ true
  pub heard : s.moment - u.state.report.heard ≤ s.max_age

-- Where such a command isn't refused, its UPS is there, and fresh.
abbrev pub WhatIsAnsweredIsFresh : Type 0
WhatIsAnsweredIsFresh =
    (s : Seen) (asker : AskerSeen) (command : Command) (ups : Option (List ℕ)) (answer : Answer)
    → asks_data_of command ≡ Some ups → answer_to s asker command ≡ Ok answer
    → (known : KnownUps) × (ups_named s ups ≡ Some known) × IsFresh s known
