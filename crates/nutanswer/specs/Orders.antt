-- Orders to drivers (RFC 9271: SET, INSTCMD): allowed values, and the order's line.
use Rattle.std.specs.Prelude.{ℕ, ℤ, ◌==◌, ◌&&◌, ◌||◌, Bool, false, not, nat_le, int_le, List, []}
use Rattle.std.specs.Prelude.{◌∷◌, ◌++◌, codes, length, Option, Some, None, if◌then◌else◌}
use Rattle.std.specs.List.{list_any}
use Rattle.nutwords.specs.Frame.{line_of}
use Rattle.nutwords.specs.Natural.{is_empty}
use Rattle.nutwords.specs.Spelling.{quoted}
use Rattle.nuttracking.specs.Id.{id_text}
use Rattle.nutdriver.specs.Arguments.{read_number}
use Rattle.nutdriver.specs.Variable.{VariableState, has_value}
use Rattle.nutdriver.specs.declared.range.Range.{Range}
use Rattle.nutusers.specs.declared.rights.Right.{Right}
use Rattle.nutusers.specs.declared.rights.Right.TheVariants as rights
use Rattle.nutusers.specs.declared.ups_list.UpsId.{UpsId}
use Rattle.nutanswer.specs.declared.reply.Change.{Change}
use Rattle.nutanswer.specs.declared.reply.Change.TheVariants as changes

-- A text of a variable has at most as many bytes as its aux, unless that is 0.
abbrev pub is_short_enough : VariableState → List ℕ → Bool
is_short_enough x value = not x.flags.string || (x.aux == 0 || nat_le (length value) x.aux)

-- The value is one of those that the variable may have, byte for byte. Where none are listed, any
-- will do.
abbrev pub is_listed : List (List ℕ) → List ℕ → Bool
is_listed values value = is_empty values || has_value values value

-- The number is within the range, its ends included.
abbrev pub is_within : ℤ → Range → Bool
is_within n range = int_le range.least n && int_le n range.greatest

abbrev pub is_within_one : List Range → Option ℤ → Bool
is_within_one ranges None = false
is_within_one ranges (Some n) = list_any (is_within n) ranges

-- The value is a number within one of the ranges. Where there are none, any value will do.
abbrev pub is_in_ranges : List Range → List ℕ → Bool
is_in_ranges ranges value = is_empty ranges || is_within_one ranges (read_number value)

-- The words of an order: its verb, the name of a variable or a command, and the value in quotes, if
-- there is one.
abbrev pub order_words : List ℕ → List ℕ → Option (List ℕ) → List (List ℕ)
order_words verb name None = verb ∷ name ∷ []
order_words verb name (Some value) = verb ∷ name ∷ quoted value ∷ []

-- The words by which a line names the id of an order, if it is tracked.
abbrev pub tracking_words : Option ℕ → List (List ℕ)
tracking_words None = []
tracking_words (Some id) = codes "TRACKING" ∷ id_text id ∷ []

-- The line of an order with its LF: its words, and after them its id, if it is tracked.
abbrev pub order_line : List ℕ → List ℕ → Option (List ℕ) → Option ℕ → List ℕ
order_line verb name value id = line_of (order_words verb name value ++ tracking_words id)

-- The line that asks a driver to set a variable,
abbrev pub set_line : List ℕ → List ℕ → Option ℕ → List ℕ
set_line name value id = order_line (codes "SET") name (Some value) id

-- and the one that asks for a command.
abbrev pub instcmd_line : List ℕ → Option (List ℕ) → Option ℕ → List ℕ
instcmd_line name value id = order_line (codes "INSTCMD") name value id

-- The driver of the UPS is owed this line, which names the id, if the order is tracked.
abbrev pub order : UpsId → List ℕ → Option ℕ → Change
order u line None = changes.Order u (record { items = line })
order u line (Some id) = changes.Tracked u id (record { items = line })

-- The words that answer an order: OK, and after it the id, if the order is tracked.
abbrev pub ok_words : Option ℕ → List (List ℕ)
ok_words id = codes "OK" ∷ tracking_words id

-- Whether a session's orders are tracked, in a word.
abbrev pub on_or_off_word : Bool → List ℕ
on_or_off_word on = if on then codes "ON" else codes "OFF"

-- The right to the command that this word names. Only its bytes decide, not their address.
abbrev pub right_to : List ℕ → Right
right_to command = rights.Instcmd (record { ref_ptr = (0, 0); now = command })

-- The right to the command that was asked for. A word that is no lawful name is granted to nobody
-- by name, as the word of no bytes is.
abbrev pub instcmd_right : Option (List ℕ) → Right
instcmd_right None = right_to []
instcmd_right (Some command) = right_to command
