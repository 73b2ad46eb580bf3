-- How a user name and a password are read (RFC 9271: USERNAME, PASSWORD).
use Rattle.std.specs.Prelude.{ℕ, Bool, true, false, List, Option}
use Rattle.std.specs.Result.{result_ok}
use Rattle.nutwords.specs.Reading.{read_text, is_text}
use Rattle.nutusers.specs.declared.limits.TheConstants.{USER_NAME_LIMIT, PASSWORD_LIMIT}

-- Each byte may be in them.
abbrev pub any_byte : ℕ → Bool
any_byte b = true

-- The name of a user: 1 to 64 bytes.
abbrev pub read_user_name : List ℕ → Option (List ℕ)
read_user_name bytes = result_ok (read_text any_byte false USER_NAME_LIMIT bytes)

abbrev pub is_user_name : List ℕ → Bool
is_user_name = is_text any_byte false USER_NAME_LIMIT

-- A password: 1 to 256 bytes.
abbrev pub read_password : List ℕ → Option (List ℕ)
read_password bytes = result_ok (read_text any_byte false PASSWORD_LIMIT bytes)

abbrev pub is_password : List ℕ → Bool
is_password = is_text any_byte false PASSWORD_LIMIT
