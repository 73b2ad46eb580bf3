-- Bytes that a client has read, cut into lines.
use Rattle.std.specs.Prelude.{◌≡◌, ℕ, ◌<◌, List, [], ◌∷◌, ◌++◌, length, drop}
use Rattle.std.specs.Prelude.{Option, Result, Ok, Err}
use Rattle.std.specs.Io.KnownBytes.{IsAtEnd}
use Rattle.nutwords.specs.declared.limits.TheConstants.{LINE_ROOM}
use Rattle.nutio.specs.Ends.{Received, ReadFailed}
use Rattle.nutrequest.specs.Lines.{lines, Line, TooLong}
use Rattle.nutrequest.specs.declared.faults.ClientFault.{ClientFault}
use Rattle.nutrequest.specs.declared.faults.ClientFault.TheVariants.{Read, EarlyEnd, BadReply}
use Rattle.nutrequest.specs.declared.inbox.Inbox.{Inbox}
use Rattle.arrayvec.specs.declared.array_vec.ArrayVec.{ArrayVec}

-- the bytes read and not used
abbrev pub unread : Inbox → List ℕ
unread i = i.cut ++ drop i.used i.kept.items

-- Some bytes more; or the reader ended or failed, and nothing came. No other fault comes.
abbrev pub FillGives : {R : Type 0} → (R → Option (List ℕ)) → (R → ℕ) → List ℕ → R
    → Result (Unit {0}) ClientFault → List ℕ → R → Type 0
FillGives remaining failures old reader (Ok u) new after =
    (came : List ℕ) × Received remaining failures reader came after × (0 < length came)
    × (new ≡ old ++ came)
FillGives remaining failures old reader (Err EarlyEnd) new after =
    Received remaining failures reader [] after × IsAtEnd (remaining after)
FillGives remaining failures old reader (Err Read) new after =
    ReadFailed remaining failures reader [] after
FillGives remaining failures old reader result new after = ⊥

-- The next line of what was kept and what came, whatever follows; no line can follow; or no
-- line is whole. No other fault comes.
abbrev pub LineGives : {R : Type 0} → (R → Option (List ℕ)) → (R → ℕ) → List ℕ → R
    → Result (ArrayVec ℕ LINE_ROOM (Unit {0})) ClientFault → List ℕ → R → Type 0
LineGives remaining failures old reader (Ok line) new after =
    (came : List ℕ) × Received remaining failures reader came after
    × (length line.items < LINE_ROOM)
    × ((more : List ℕ)
    → lines (old ++ (came ++ more)) ≡ Line line.items (new ++ more) ∷ lines (new ++ more))
LineGives remaining failures old reader (Err BadReply) new after =
    (came : List ℕ) × Received remaining failures reader came after
    × ((more : List ℕ) → lines (old ++ (came ++ more)) ≡ TooLong ∷ [])
LineGives remaining failures old reader (Err EarlyEnd) new after =
    (came : List ℕ) × Received remaining failures reader came after × IsAtEnd (remaining after)
    × (lines (old ++ came) ≡ [])
LineGives remaining failures old reader (Err Read) new after =
    (came : List ℕ) × ReadFailed remaining failures reader came after × (lines (old ++ came) ≡ [])
LineGives remaining failures old reader result new after = ⊥
