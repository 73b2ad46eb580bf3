-- What a client prints of a reply.
use Rattle.std.specs.Prelude.{◌≡◌, ℕ, Bool, List, [], ◌∷◌, ◌++◌, ◌⊎◌, Option, Result, Ok, Err}
use Rattle.std.specs.Prelude.{codes}
use Rattle.std.specs.List.{flat_map}
use Rattle.std.specs.Io.KnownBytes.{Appends}
use Rattle.nutrequest.specs.Reply.{Reply, Whole, Bad, Unfinished, Refused}
use Rattle.nutio.specs.Ends.{Written, WriteFailed}
use Rattle.nutrequest.specs.declared.item.Item.{Item}
use Rattle.nutrequest.specs.declared.request.Request.{Request}
use Rattle.nutrequest.specs.declared.faults.ClientFault.{ClientFault}
use Rattle.nutrequest.specs.declared.faults.ClientFault.TheVariants as faults
use Rattle.nutclient.specs.Requests.{RequestsGive, last_reply}
use Rattle.nutclient.specs.Shown.{shown}
use Rattle.nutclient.specs.declared.form.Form.{Form}
use Rattle.nutclient.specs.declared.form.Form.TheVariants.{Name, Value, Colon, Equals}

-- An item as it is printed.
abbrev pub item_text : Form → Item → List ℕ
item_text Name item = item.name
item_text Value item = item.value
item_text Colon item = item.name ++ codes ": " ++ item.value
item_text Equals item = item.name ++ codes "=" ++ item.value

abbrev pub item_line : Form → Item → List ℕ
item_line form item = item_text form item ++ 10 ∷ []

-- A line an item.
abbrev pub text_of : Form → List Item → List ℕ
text_of form items = flat_map (item_line form) items

-- A text that is written, or a fault.
pub data Printed : Type 0 where
  Prints : (text : List ℕ) → Printed
  Faults : (fault : ClientFault) → Printed

abbrev pub printed_of : Form → Reply → Printed
printed_of form (Whole items rest) = Prints (text_of form items)
printed_of form (Refused word) = Faults (faults.ErrWord word)
printed_of form Bad = Faults faults.BadReply
printed_of form Unfinished = Faults faults.EarlyEnd

-- What is printed for these requests of these bytes.
abbrev pub printed : List Request → Form → List ℕ → Printed
printed requests form bytes = printed_of form (last_reply requests bytes)

-- What the output took of a text, for each result of its printing: all of it; or a beginning of it,
-- and then a write failed; or nothing, memory being refused. No other fault comes.
abbrev pub PrintGives : {O : Type 0} → (O → Option (List ℕ)) → (O → ℕ) → List ℕ → O
    → Result (Unit {0}) ClientFault → O → Type 0
PrintGives contents failures text out (Ok done) after = Written contents failures out text after
PrintGives contents failures text out (Err faults.Write) after =
    WriteFailed contents failures out text after
PrintGives contents failures text out (Err faults.Memory) after = after ≡ out
PrintGives contents failures text out result after = ⊥

-- What was sent, what came and what was printed, for each result of a job: the replies are whole,
-- and what is printed is the text of the last one's items, for a terminal or not; or the requests
-- end with the fault, and nothing is printed.
abbrev pub RunGives : {R W O : Type 0} → (R → Option (List ℕ)) → (R → ℕ) → (W → Option (List ℕ))
    → (W → ℕ) → (O → Option (List ℕ)) → (O → ℕ) → List Request → Form → Bool → List ℕ → R → W → O
    → Result (Unit {0}) ClientFault → List ℕ → R → W → O → Type 0
RunGives remaining failures contents write_failures printed_so_far print_failures requests form
    is_terminal old reader writer out (Ok done) new after sent then =
    (items : List Item)
    × RequestsGive remaining failures contents write_failures requests old reader writer
    (Ok items) new after sent
    × PrintGives printed_so_far print_failures (shown is_terminal (text_of form items)) out
    (Ok done) then
RunGives remaining failures contents write_failures printed_so_far print_failures requests form
    is_terminal old reader writer out (Err fault) new after sent then =
    (RequestsGive remaining failures contents write_failures requests old reader writer
    (Err fault) new after sent × (then ≡ out))
    ⊎ ((items : List Item)
    × RequestsGive remaining failures contents write_failures requests old reader writer
    (Ok items) new after sent
    × PrintGives printed_so_far print_failures (shown is_terminal (text_of form items)) out
    (Err fault) then)

-- The result and what the output took, by what is to be printed.
abbrev pub Answers : {O : Type 0} → (O → Option (List ℕ)) → Bool → Printed → O
    → Result (Unit {0}) ClientFault → O → Type 0
Answers contents is_terminal (Prints text) out result after =
    (result ≡ Ok tt) × Appends (contents out) (contents after) (shown is_terminal text)
Answers contents is_terminal (Faults fault) out result after = (result ≡ Err fault) × (after ≡ out)
