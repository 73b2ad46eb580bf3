-- Texts of a limited length.
use Rattle.std.specs.Prelude.{ℕ, Bool, ◌&&◌, List, length, nat_le}
use Rattle.nutwords.specs.Reading.{is_value}
use Rattle.nutusers.specs.declared.limits.TheConstants.{DESCRIPTION_LIMIT}

-- A text of 1 to so many bytes. (The bytes of a word are lawful already.)
abbrev pub is_text_within : ℕ → List ℕ → Bool
is_text_within most text = nat_le 1 (length text) && nat_le (length text) most

-- A description: lawful bytes, at most so many. The limit is its own, and not that of values.
abbrev pub is_description : List ℕ → Bool
is_description text = nat_le (length text) DESCRIPTION_LIMIT && is_value text
