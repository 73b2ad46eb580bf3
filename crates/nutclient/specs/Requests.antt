-- Requests one after another, each sent after the one before is granted.
use Rattle.std.specs.Prelude.{◌≡◌, ℕ, Bool, List, [], ◌∷◌, ◌++◌, ◌||◌, Option, Result, Ok}
use Rattle.std.specs.Prelude.{Err}
use Rattle.std.specs.Io.KnownBytes.{Appends}
use Rattle.nutio.specs.Ends.{Received, Written, WriteFailed, IsBeginning}
use Rattle.nutrequest.specs.Orders.{has_order_in}
use Rattle.nutrequest.specs.Request.{request_line}
use Rattle.nutrequest.specs.Reply.{Reply, Refused, Whole, Bad, Unfinished, reply}
use Rattle.nutrequest.specs.Session.{Fails}
use Rattle.nutrequest.specs.declared.item.Item.{Item}
use Rattle.nutrequest.specs.declared.request.Request.{Request}
use Rattle.nutrequest.specs.declared.faults.ClientFault.{ClientFault}
use Rattle.nutrequest.specs.declared.faults.ClientFault.TheVariants.{Write, Memory}

-- The lines after a reply that is whole; after another none.
abbrev pub lines_behind : Reply → (List ℕ → List ℕ) → List ℕ
lines_behind (Whole items rest) lines = lines rest
lines_behind (Refused word) lines = []
lines_behind Bad lines = []
lines_behind Unfinished lines = []

-- The lines that are sent: those of the requests up to and including the first whose reply isn't
-- whole in these bytes, or of all.
abbrev pub sent_lines : List Request → List ℕ → List ℕ
sent_lines [] bytes = []
sent_lines (request ∷ requests) bytes =
    request_line request ++ lines_behind (reply request bytes) (λ rest. sent_lines requests rest)

abbrev pub reply_behind : Reply → (List Item → List ℕ → Reply) → Reply
reply_behind (Whole items rest) later = later items rest
reply_behind (Refused word) later = Refused word
reply_behind Bad later = Bad
reply_behind Unfinished later = Unfinished

-- The last reply, these being the items of the reply before.
abbrev pub last_reply_after : List Item → List Request → List ℕ → Reply
last_reply_after items [] bytes = Whole items bytes
last_reply_after items (request ∷ requests) bytes =
    reply_behind (reply request bytes) (λ more rest. last_reply_after more requests rest)

-- The bytes as the replies to the requests, each on the rest that the one before left: the last
-- one, or the first that isn't whole.
abbrev pub last_reply : List Request → List ℕ → Reply
last_reply requests bytes = last_reply_after [] requests bytes

-- What was sent, and what came, for each result of the requests in turn. What came decides them,
-- whatever follows; at an end and at a failed read it is unfinished. No other fault comes.
abbrev pub RequestsGive : {R W : Type 0} → (R → Option (List ℕ)) → (R → ℕ) → (W → Option (List ℕ))
    → (W → ℕ) → List Request → List ℕ → R → W → Result (List Item) ClientFault → List ℕ → R → W
    → Type 0
RequestsGive remaining failures contents write_failures requests old reader writer
    (Ok items) new after sent =
    (came : List ℕ) × (text : List ℕ) × Received remaining failures reader came after
    × Written contents write_failures writer text sent
    × ((more : List ℕ) → sent_lines requests (old ++ (came ++ more)) ≡ text)
    × ((more : List ℕ) → last_reply requests (old ++ (came ++ more)) ≡ Whole items (new ++ more))
RequestsGive remaining failures contents write_failures requests old reader writer
    (Err Write) new after sent =
    (came : List ℕ) × (text : List ℕ) × Received remaining failures reader came after
    × WriteFailed contents write_failures writer text sent
    × ((more : List ℕ) → IsBeginning text (sent_lines requests (old ++ (came ++ more))))
RequestsGive remaining failures contents write_failures requests old reader writer
    (Err Memory) new after sent =
    (came : List ℕ) × (text : List ℕ) × Received remaining failures reader came after
    × Written contents write_failures writer text sent
    × ((more : List ℕ) → IsBeginning text (sent_lines requests (old ++ (came ++ more))))
RequestsGive remaining failures contents write_failures requests old reader writer
    (Err fault) new after sent =
    (text : List ℕ) × Written contents write_failures writer text sent
    × Fails remaining failures (λ came r. (sent_lines requests (old ++ came) ≡ text)
    × (last_reply requests (old ++ came) ≡ r)) reader fault after

-- What the writer took of these requests, and by that whether the line of an order stands whole in
-- what it took, if not before.
abbrev pub TakesOrders : {W : Type 0} → (W → Option (List ℕ)) → List Request → W → W → Bool → Bool
    → Type 0
TakesOrders contents requests writer sent before now = (bytes : List ℕ)
    × Appends (contents writer) (contents sent) bytes
    × (now ≡ (before || has_order_in requests bytes))
