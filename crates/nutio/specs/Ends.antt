-- What reads and writes do at the ends of a connection, and how failed ones are counted.
use Rattle.std.specs.Prelude.{◌≡◌, ℕ, ◌+◌, ◌-◌, ◌^◌, ◌<◌, List, ◌++◌, length, min, Option, Result}
use Rattle.std.specs.Prelude.{MatchResult, IfOk, Ok, Err}
use Rattle.std.specs.Io.KnownBytes.{Consumes, Appends}
use Rattle.nutio.specs.declared.ends.Failed.{Failed}

-- A count after one more failure. It stops at its greatest number.
abbrev pub counted : ℕ → ℕ
counted n = min (n + 1) (2 ^ 64 - 1)

-- A failure is counted, and nothing else is.
abbrev pub IsCounted : {T E : Type 0} → ℕ → ℕ → Result T E → Type 0
IsCounted before now result = MatchResult result (λ _. now ≡ before) (λ _. now ≡ counted before)

-- A count that didn't grow, and could have: no call failed.
abbrev pub NoneFailed : ℕ → ℕ → Type 0
NoneFailed before now = (now ≡ before) × (before < 2 ^ 64 - 1)

-- Some of some bytes are taken.
abbrev pub TakesSome : {E : Type 0} → Result ℕ E → List ℕ → Type 0
TakesSome result bytes = IfOk result (λ n. 0 < length bytes → 0 < n)

-- What a reader did: these bytes came, and no read failed.
pub record Received {R : Type 0} (remaining : R → Option (List ℕ)) (failures : R → ℕ) (reader : R)
    (came : List ℕ) (after : R) : Type 0 where
  pub bytes : Consumes (remaining reader) (remaining after) came
  pub well : failures after ≡ failures reader

-- These bytes came, and then a read failed.
pub record ReadFailed {R : Type 0} (remaining : R → Option (List ℕ)) (failures : R → ℕ) (reader : R)
    (came : List ℕ) (after : R) : Type 0 where
  pub bytes : Consumes (remaining reader) (remaining after) came
  pub failed : failures after ≡ counted (failures reader)

-- The bytes begin with these.
abbrev pub IsBeginning : List ℕ → List ℕ → Type 0
IsBeginning front all = (rest : List ℕ) × (all ≡ front ++ rest)

-- What a writer did: it took these bytes, and no write failed.
pub record Written {W : Type 0} (contents : W → Option (List ℕ)) (failures : W → ℕ) (writer : W)
    (bytes : List ℕ) (after : W) : Type 0 where
  pub bytes_written : Appends (contents writer) (contents after) bytes
  pub well : failures after ≡ failures writer

-- It took a beginning of these bytes, and then a write failed.
pub record WriteFailed {W : Type 0} (contents : W → Option (List ℕ)) (failures : W → ℕ) (writer : W)
    (bytes : List ℕ) (after : W) : Type 0 where
  pub front : List ℕ
  pub begins : IsBeginning front bytes
  pub bytes_written : Appends (contents writer) (contents after) front
  pub failed : failures after ≡ counted (failures writer)

-- All of the text was taken; or a beginning of it, and then a write failed.
abbrev pub SendGives : {W : Type 0} → (W → Option (List ℕ)) → (W → ℕ) → List ℕ → W
    → Result (Unit {0}) Failed → W → Type 0
SendGives contents failures text writer (Ok done) after =
    Written contents failures writer text after
SendGives contents failures text writer (Err failed) after =
    WriteFailed contents failures writer text after
