-- Reads in a row are one read, writes in a row are one write.
use Rattle.std.specs.Prelude.{ℕ, List, [], ◌++◌, Option}
use Rattle.nutio.specs.Ends.{Received, ReadFailed, Written, WriteFailed}

-- Where nothing was read, nothing came.
abbrev pub NothingIsReceived : {R : Type 0} → (R → Option (List ℕ)) → (R → ℕ) → Type 0
NothingIsReceived {R} remaining failures =
    (reader : R) → Received remaining failures reader [] reader

abbrev pub ReceivedJoins : {R : Type 0} → (R → Option (List ℕ)) → (R → ℕ) → Type 0
ReceivedJoins {R} remaining failures = (reader middle after : R) (front back : List ℕ)
    → Received remaining failures reader front middle
    → Received remaining failures middle back after
    → Received remaining failures reader (front ++ back) after

abbrev pub ReadFailedJoins : {R : Type 0} → (R → Option (List ℕ)) → (R → ℕ) → Type 0
ReadFailedJoins {R} remaining failures = (reader middle after : R) (front back : List ℕ)
    → Received remaining failures reader front middle
    → ReadFailed remaining failures middle back after
    → ReadFailed remaining failures reader (front ++ back) after

-- Where nothing was written, nothing was taken.
abbrev pub NothingIsWritten : {W : Type 0} → (W → Option (List ℕ)) → (W → ℕ) → Type 0
NothingIsWritten {W} contents failures = (writer : W) → Written contents failures writer [] writer

abbrev pub WrittenJoins : {W : Type 0} → (W → Option (List ℕ)) → (W → ℕ) → Type 0
WrittenJoins {W} contents failures = (writer middle after : W) (front back : List ℕ)
    → Written contents failures writer front middle
    → Written contents failures middle back after
    → Written contents failures writer (front ++ back) after

abbrev pub WriteFailedJoins : {W : Type 0} → (W → Option (List ℕ)) → (W → ℕ) → Type 0
WriteFailedJoins {W} contents failures = (writer middle after : W) (front back : List ℕ)
    → Written contents failures writer front middle
    → WriteFailed contents failures middle back after
    → WriteFailed contents failures writer (front ++ back) after
