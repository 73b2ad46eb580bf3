-- What the calls of a client's session give. `remaining` and `failures` are the reader's,
-- `contents` and `write_failures` the writer's.
use Rattle.std.specs.Prelude.{◌≡◌, ℕ, List, ◌++◌, Option, Result, Ok, Err}
use Rattle.std.specs.Io.KnownBytes.{IsAtEnd}
use Rattle.nutio.specs.Ends.{Received, ReadFailed, Written, WriteFailed}
use Rattle.nutrequest.specs.Request.{request_line}
use Rattle.nutrequest.specs.Reply.{Reply, Refused, Whole, Bad, Unfinished, reply}
use Rattle.nutrequest.specs.declared.item.Item.{Item}
use Rattle.nutrequest.specs.declared.request.Request.{Request}
use Rattle.nutrequest.specs.declared.faults.ClientFault.{ClientFault}
use Rattle.nutrequest.specs.declared.faults.ClientFault.TheVariants as faults
use Rattle.nutrequest.specs.Inbox.{unread}
use Rattle.nutrequest.specs.declared.session.Session.{Session}

-- The bytes read past the last reply.
abbrev pub unread_of : {R W : Type 0} → Session R W → List ℕ
unread_of session = unread session.inbox

abbrev pub reader_of : {R W : Type 0} → Session R W → R
reader_of session = session.reader

abbrev pub writer_of : {R W : Type 0} → Session R W → W
writer_of session = session.writer

-- Why no reply is given, the bytes that come being read so: what came decides it, whatever follows;
-- or what came is unfinished, and the reader ended or failed; or memory was refused. No
-- other fault comes.
abbrev pub Fails : {R : Type 0} → (R → Option (List ℕ)) → (R → ℕ) → (List ℕ → Reply → Type 0) → R
    → ClientFault → R → Type 0
Fails remaining failures Reads reader (faults.ErrWord word) after =
    (came : List ℕ) × Received remaining failures reader came after
    × ((more : List ℕ) → Reads (came ++ more) (Refused word))
Fails remaining failures Reads reader faults.BadReply after =
    (came : List ℕ) × Received remaining failures reader came after
    × ((more : List ℕ) → Reads (came ++ more) Bad)
Fails remaining failures Reads reader faults.EarlyEnd after =
    (came : List ℕ) × Received remaining failures reader came after × IsAtEnd (remaining after)
    × Reads came Unfinished
Fails remaining failures Reads reader faults.Read after =
    (came : List ℕ) × ReadFailed remaining failures reader came after × Reads came Unfinished
Fails remaining failures Reads reader faults.Memory after =
    (came : List ℕ) × Received remaining failures reader came after
Fails remaining failures Reads reader fault after = ⊥

-- What some bytes give that are read so: a value, whatever follows them, and what is kept of
-- them for the next; or why none is given.
abbrev pub ReadGives : {R A : Type 0} → (R → Option (List ℕ)) → (R → ℕ) → (List ℕ → Reply)
    → (A → List ℕ → Reply) → R → Result A ClientFault → List ℕ → R → Type 0
ReadGives remaining failures reading whole reader (Ok value) new after =
    (came : List ℕ) × Received remaining failures reader came after
    × ((more : List ℕ) → reading (came ++ more) ≡ whole value (new ++ more))
ReadGives remaining failures reading whole reader (Err fault) new after =
    Fails remaining failures (λ came r. reading came ≡ r) reader fault after

-- The reply to the request, from the bytes kept and those that came.
abbrev pub ReplyGives : {R : Type 0} → (R → Option (List ℕ)) → (R → ℕ) → Request → List ℕ → R
    → Result (List Item) ClientFault → List ℕ → R → Type 0
ReplyGives remaining failures request old =
    ReadGives remaining failures (λ came. reply request (old ++ came)) Whole

-- The request's line is sent whole, and its reply read; or the writer failed, and nothing was read.
abbrev pub AskGives : {R W : Type 0} → (R → Option (List ℕ)) → (R → ℕ) → (W → Option (List ℕ))
    → (W → ℕ) → Request → List ℕ → R → W → Result (List Item) ClientFault → List ℕ → R → W → Type 0
AskGives remaining failures contents write_failures request old reader writer
    (Err faults.Write) new after sent =
    WriteFailed contents write_failures writer (request_line request) sent × (after ≡ reader)
    × (new ≡ old)
AskGives remaining failures contents write_failures request old reader writer result new after sent
    =
    Written contents write_failures writer (request_line request) sent
    × ReplyGives remaining failures request old reader result new after
