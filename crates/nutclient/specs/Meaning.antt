-- What the words of refusals mean (RFC 9271: error responses), in plain words.
use Rattle.std.specs.Prelude.{ℕ, List, [], ◌∷◌, bytes_eq, codes, if◌then◌else◌}

-- The words that a server may refuse by, and what each means here.
abbrev pub meanings : List (List ℕ × List ℕ)
meanings = (
  codes "ACCESS-DENIED",
  codes "the user or the password is wrong, or the user may not do this",
)
    ∷ (
      codes "CMD-NOT-SUPPORTED",
      codes "the UPS has no such command: upscmd -l shows those that it has",
    )
    ∷ (
      codes "DATA-STALE",
      codes "the driver reports nothing, or says that it has lost the UPS",
    )
    ∷ (
      codes "DRIVER-NOT-CONNECTED",
      codes "the server isn't connected to the driver of this UPS",
    )
    ∷ (
      codes "FEATURE-NOT-CONFIGURED",
      codes "the server isn't set up for this",
    )
    ∷ (
      codes "FEATURE-NOT-SUPPORTED",
      codes "the server can't do this",
    )
    ∷ (
      codes "INSTCMD-FAILED",
      codes "the driver takes no more orders for now, or the server has no id for one",
    )
    ∷ (
      codes "INVALID-ARGUMENT",
      codes "the server knows no such id, or doesn't do what the option asks for",
    )
    ∷ (
      codes "INVALID-PASSWORD",
      codes "the server takes no such password",
    )
    ∷ (
      codes "INVALID-USERNAME",
      codes "the server takes no such name of a user",
    )
    ∷ (
      codes "INVALID-VALUE",
      codes "the variable doesn't take this value: LIST ENUM and LIST RANGE say which it takes",
    )
    ∷ (
      codes "PASSWORD-REQUIRED",
      codes "the server wants a password",
    )
    ∷ (
      codes "READONLY",
      codes "the variable can't be set: upsrw shows those that can",
    )
    ∷ (
      codes "SET-FAILED",
      codes "the driver takes no more orders for now, or the server has no id for one",
    )
    ∷ (
      codes "TOO-LONG",
      codes "the variable doesn't take so long a value",
    )
    ∷ (
      codes "UNKNOWN-COMMAND",
      codes "the server has no such command of the protocol",
    )
    ∷ (
      codes "UNKNOWN-UPS",
      codes "the server has no UPS of this name: upsc -l shows those that it has",
    )
    ∷ (
      codes "USERNAME-REQUIRED",
      codes "the server wants a user",
    )
    ∷ (
      codes "VAR-NOT-SUPPORTED",
      codes "the UPS has no such variable: upsc shows those that it has",
    )
    ∷ (
      codes "ALREADY-SET-PASSWORD",
      codes "the server has a password of this connection",
    )
    ∷ (
      codes "ALREADY-SET-USERNAME",
      codes "the server has a user of this connection",
    )
    ∷ []

-- The meaning in the first row of the word.
abbrev pub meaning_in : List (List ℕ × List ℕ) → List ℕ → List ℕ
meaning_in [] word = codes "RFC 9271 has what this word means"
meaning_in (row ∷ rows) word = if bytes_eq row.0 word then row.1 else meaning_in rows word

-- What the word means.
abbrev pub meaning : List ℕ → List ℕ
meaning = meaning_in meanings
