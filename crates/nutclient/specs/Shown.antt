-- What a terminal is sent of a text.
use Rattle.std.specs.Prelude.{ℕ, ◌-◌, ◌==◌, ◌||◌, Bool, true, false, not, List, [], ◌∷◌, ◌++◌}
use Rattle.std.specs.Prelude.{Option, Some, None}
use Rattle.std.specs.Prelude.{if◌then◌else◌}
use Rattle.std.specs.Char.{is_control}
use Rattle.std.specs.Char.Escape.{escape_ascii}
use Rattle.bstr.specs.Utf8.{decoded}

-- A character that is shown as it is: LF, and all but the control characters (C0, DEL and C1).
abbrev pub size_of : Option ℕ → ℕ → ℕ
size_of None size = 0
size_of (Some c) size = if c == 10 || not (is_control c) then size else 0

-- How many bytes such a character has that these bytes begin with, or 0 where none does.
abbrev pub shown_size : List ℕ → ℕ
shown_size text = size_of (decoded text).char (decoded text).size

-- How many bytes from here on are those of a character that is shown, where so many were left.
abbrev pub size_at : ℕ → List ℕ → ℕ
size_at left text = if left == 0 then shown_size text else left

abbrev pub byte_shown : ℕ → ℕ → List ℕ
byte_shown size b = if size == 0 then escape_ascii b else b ∷ []

-- Each byte of such a character is itself, and every other byte is escaped: `\x1b`.
abbrev pub escaped : ℕ → List ℕ → List ℕ
escaped left [] = []
escaped left (b ∷ rest) =
    byte_shown (size_at left (b ∷ rest)) b ++ escaped (size_at left (b ∷ rest) - 1) rest

-- The text as it is printed: a terminal is sent no control character but LF.
abbrev pub shown : Bool → List ℕ → List ℕ
shown true text = escaped 0 text
shown false text = text
