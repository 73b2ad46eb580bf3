-- The written form of an id (RFC 9562, section 4). It is a number of 128 bits as 32 hexadecimal
-- digits in lower case, in groups of 8, 4, 4, 4 and 12, with a hyphen between each two.
use Rattle.std.specs.Prelude.{◌≡◌, ◌<◌, ◌^◌, ◌/◌, ◌%◌, ◌↔◌, ℕ, zero, suc, List, [], ◌∷◌, ◌++◌}
use Rattle.std.specs.Prelude.{take, drop, slice_range, Option, Some, None, if◌then◌else◌}
use Rattle.std.specs.Prelude.{◌==◌, ◌||◌, Bool, length, IsTrue}
use Rattle.std.specs.Char.{digit_char, is_ascii_hexdigit}
use Rattle.std.specs.List.{filter, join_with_byte, list_all}
use Rattle.std.specs.Str.{bytes_eq, str_to_ascii_lowercase}
use Rattle.std.specs.Str.Parse.{digits_value}

abbrev pub hyphen : ℕ
hyphen = 45

-- The last digits of a number in base sixteen, so many of them.
unfoldable pub last_digits : ℕ → ℕ → List ℕ
last_digits zero n = []
last_digits (suc count) n = last_digits count (n / 16) ++ digit_char (n % 16) ∷ []

-- Digits in groups of 8, 4, 4, 4 and 12.
abbrev pub groups : List ℕ → List (List ℕ)
groups digits =
    take 8 digits ∷ slice_range digits 8 12 ∷ slice_range digits 12 16 ∷ slice_range digits 16 20
    ∷ drop 20 digits ∷ []

-- The id as it is written.
unfoldable pub id_text : ℕ → List ℕ
id_text id = join_with_byte hyphen (groups (last_digits 32 id))

-- The number that the digits of a text say in base sixteen, whatever is between them.
unfoldable pub digits_number : List ℕ → ℕ
digits_number text = digits_value 16 (filter is_ascii_hexdigit text)

-- A text is read as the id that its digits say, where in lower case it is that id as it is written.
unfoldable pub read_id : List ℕ → Option ℕ
read_id text =
    if bytes_eq (str_to_ascii_lowercase text) (id_text (digits_number text))
    then Some (digits_number text)
    else None

-- An id as it is written is read as that id.
abbrev pub WrittenIsRead : Type 0
WrittenIsRead = (id : ℕ) → id < 2 ^ 128 → read_id (id_text id) ≡ Some id

-- A text is read as an id just where that is a number of 128 bits, and in lower case the text is
-- that id as it is written.
abbrev pub ReadIsWritten : Type 0
ReadIsWritten =
    (text : List ℕ) (id : ℕ)
    → (read_id text ≡ Some id ↔ (id < 2 ^ 128) × (str_to_ascii_lowercase text ≡ id_text id))

-- A digit of base sixteen, or a hyphen.
abbrev pub is_id_byte : ℕ → Bool
is_id_byte b = b == hyphen || is_ascii_hexdigit b

-- An id is written in 36 bytes, each a digit of base sixteen or a hyphen, and read of no other
-- number of bytes.
pub record IdsArePlain : Type 0 where
  pub long : (id : ℕ) → length (id_text id) ≡ 36
  pub digits : (id : ℕ) → IsTrue (list_all is_id_byte (id_text id))
  pub read : (text : List ℕ) (id : ℕ) → read_id text ≡ Some id → length text ≡ 36
