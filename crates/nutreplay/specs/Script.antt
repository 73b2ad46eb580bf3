-- What each line of a replay script means.
use Rattle.std.specs.Prelude.{ℕ, ◌+◌, ◌-◌, ◌^◌, Bool, List, [], ◌∷◌, ◌++◌, Option}
use Rattle.std.specs.Prelude.{Some, None, ◌==◌, ◌&&◌, ◌||◌, if◌then◌else◌, length, take, drop}
use Rattle.std.specs.Prelude.{position, codes, is_some, not}
use Rattle.std.specs.Prelude.{unwrap_or}
use Rattle.std.specs.Option.{option_and_then, option_map, option_map_or}
use Rattle.std.specs.Result.{result_ok}
use Rattle.std.specs.Str.{bytes_eq}
use Rattle.hex.specs.Hex.{decode_of}
use Rattle.nuttracking.specs.Id.{read_id}
use Rattle.nutwords.specs.Natural.{read_natural}
use Rattle.nutwords.specs.Reading.{read_ups_name, read_address}
use Rattle.nutwords.specs.Text.{lines_of, is_silent}
use Rattle.nutwords.specs.SplitLine.{with_lf}
use Rattle.nutusers.specs.declared.ups_list.UpsId.{UpsId}
use Rattle.nutusers.specs.UpsList.{Ups, place_of, id_at}
use Rattle.nutcore.specs.Limits.{read_max_age}
use Rattle.nutcore.specs.Recording.{came_from}
use Rattle.nutcore.specs.declared.max_age.TheConstants.{MAX_AGE_DEFAULT, MAX_AGE_MOST}
use Rattle.nutcore.specs.declared.event.Event.{Event}
use Rattle.nutcore.specs.declared.event.Event.TheVariants as events
use Rattle.nutcore.specs.declared.event.Peer.{Peer}
use Rattle.nutcore.specs.declared.event.Peer.TheVariants.{Client, Driver}
use Rattle.nutreplay.specs.declared.script.action.TheConstants.{UNLISTED}
use Rattle.nutreplay.specs.declared.script.action.Action.{Action}
use Rattle.nutreplay.specs.declared.script.action.Action.TheVariants.{Happens, TookAll}
use Rattle.nutreplay.specs.declared.script.action.Form.{Form}
use Rattle.nutreplay.specs.declared.script.action.Form.TheVariants.{Line, Part, Hex}

-- An action, with the number of its line, from 1.
pub record ScriptLine : Type 0 where
  pub number : ℕ
  pub action : Action

-- The bytes before the first space, and those after it.
abbrev pub split_at_space : List ℕ → Option (List ℕ × List ℕ)
split_at_space line =
    option_map (λ i. (take i line, drop (i + 1) line)) (position (λ b. b == 32) line)

-- A number is `0`, or digits that don't begin with 0, below 2^64.
abbrev pub number : List ℕ → Option ℕ
number text = read_natural (2 ^ 64 - 1) text

-- The UPS of a lawful name. The server refuses the events of one that the list lacks.
abbrev pub ups_named : List Ups → List ℕ → UpsId
ups_named list name = option_map_or id_at (place_of name list) (id_at UNLISTED)

abbrev pub ups : List Ups → List ℕ → Option UpsId
ups list text = option_map (ups_named list) (result_ok (read_ups_name text))

abbrev pub address : List ℕ → Option (List ℕ)
address text = result_ok (read_address text)

-- The first argument, and the REST: all further bytes after one space.
abbrev pub with_rest : {A : Type 0} → (List ℕ → Option A) → Option (List ℕ × List ℕ)
    → Option (A × List ℕ)
with_rest read None = None
with_rest read (Some parts) = option_map (λ first. (first, parts.1)) (read parts.0)

abbrev pub driver_and_rest : List Ups → List ℕ → Option (Peer × List ℕ)
driver_and_rest list text =
    with_rest (λ name. option_map (λ u. Driver u) (ups list name)) (split_at_space text)

abbrev pub client_and_rest : List ℕ → Option (Peer × List ℕ)
client_and_rest text =
    with_rest (λ digits. option_map (λ c. Client c) (number digits)) (split_at_space text)

abbrev pub took : Peer → ℕ → Event
took (Client c) n = events.Took c n
took (Driver u) n = events.DriverTook u n

-- So many bytes, or `all`.
abbrev pub taking : Option (Peer × List ℕ) → Option Action
taking None = None
taking (Some parts) =
    if bytes_eq parts.1 (codes "all") then Some (TookAll parts.0)
    else option_map (λ n. Happens (took parts.0 n)) (number parts.1)

-- The bytes that an even number of hexadecimal digits writes, in either case, two digits at least.
abbrev pub hex_bytes : List ℕ → Option (List ℕ)
hex_bytes digits = if length digits == 0 then None else result_ok (decode_of digits)

-- The bytes that a peer sends: a line without its LF, a part of one, or hexadecimal digits of them.
abbrev pub bytes_of : Form → List ℕ → Option (List ℕ)
bytes_of Line text = Some (with_lf text)
bytes_of Part text = Some text
bytes_of Hex text = hex_bytes text

abbrev pub sending : Form → Option (Peer × List ℕ) → Option Event
sending form None = None
sending form (Some parts) = option_map (λ piece. came_from parts.0 piece) (bytes_of form parts.1)

-- The event of a verb, with the bytes after its space: one case a verb, here and below. First the
-- verbs of clients, of the clock and of ids.
abbrev pub client_event : List ℕ → List ℕ → Option Event
client_event verb text =
    if bytes_eq verb (codes "open") then option_map (λ a. events.Open a) (address text)
    else if bytes_eq verb (codes "client") then sending Line (client_and_rest text)
    else if bytes_eq verb (codes "part") then sending Part (client_and_rest text)
    else if bytes_eq verb (codes "client-hex") then sending Hex (client_and_rest text)
    else if bytes_eq verb (codes "close") then option_map (λ c. events.Close c) (number text)
    else if bytes_eq verb (codes "tick") then option_map (λ n. events.Tick n) (number text)
    else if bytes_eq verb (codes "id") then option_map (λ id. events.Id id) (read_id text)
    else None

-- Those of drivers, and the ones above.
abbrev pub event_of : List Ups → List ℕ → List ℕ → Option Event
event_of list verb text =
    if bytes_eq verb (codes "up") then option_map (λ u. events.DriverUp u) (ups list text)
    else if bytes_eq verb (codes "down") then option_map (λ u. events.DriverDown u) (ups list text)
    else if bytes_eq verb (codes "driver") then sending Line (driver_and_rest list text)
    else if bytes_eq verb (codes "driver-part") then sending Part (driver_and_rest list text)
    else if bytes_eq verb (codes "driver-hex") then sending Hex (driver_and_rest list text)
    else client_event verb text

abbrev pub action_of : List Ups → List ℕ → List ℕ → Option Action
action_of list verb text =
    if bytes_eq verb (codes "took") then taking (client_and_rest text)
    else if bytes_eq verb (codes "driver-took") then taking (driver_and_rest list text)
    else option_map (λ event. Happens event) (event_of list verb text)

abbrev pub read_parts : List Ups → Option (List ℕ × List ℕ) → Option Action
read_parts list None = None
read_parts list (Some parts) = action_of list parts.0 parts.1

-- What a line asks for, if it is one of a script's.
unfoldable pub read_line : List Ups → List ℕ → Option Action
read_line list line = read_parts list (split_at_space line)

-- The greatest age that a line `maxage N` says.
abbrev pub age_by : Option (List ℕ × List ℕ) → Option ℕ
age_by None = None
age_by (Some parts) =
    if bytes_eq parts.0 (codes "maxage")
    then option_and_then read_max_age (read_natural MAX_AGE_MOST parts.1) else None

abbrev pub age_in : List ℕ → Option ℕ
age_in line = age_by (split_at_space line)

-- The greatest age that the first of these lines says.
abbrev pub age_said : List (List ℕ) → Option ℕ
age_said [] = None
age_said (line ∷ lines) = age_in line

-- The greatest age of the server that these lines are for.
abbrev pub age_of_lines : List (List ℕ) → ℕ
age_of_lines lines = unwrap_or (age_said lines) MAX_AGE_DEFAULT

-- The line of this number, from 1, asks for nothing: it is blank or a comment, or the first line,
-- which says the greatest age.
abbrev pub asks_nothing : ℕ → List ℕ → Bool
asks_nothing n line = is_silent line || (n == 1 && is_some (age_in line))

-- The actions of lines that are numbered from here on, each with its line's number.
abbrev pub numbered : ℕ → Option Action → List ScriptLine
numbered n None = []
numbered n (Some action) = record { number = n; action = action } ∷ []

abbrev pub actions_from : List Ups → ℕ → List (List ℕ) → List ScriptLine
actions_from list n [] = []
actions_from list n (line ∷ lines) =
    (if asks_nothing n line then [] else numbered n (read_line list line))
    ++ actions_from list (n + 1) lines

abbrev pub is_bad : List Ups → ℕ → List ℕ → Bool
is_bad list n line = not (asks_nothing n line) && not (is_some (read_line list line))

abbrev pub bad_line_from : List Ups → ℕ → List (List ℕ) → Option ℕ
bad_line_from list n [] = None
bad_line_from list n (line ∷ lines) =
    if is_bad list n line then Some n else bad_line_from list (n + 1) lines

-- The greatest age of the server that a script is for, what the script asks for over this list of
-- UPSs, and the number of its first bad line. Lines are numbered from 1.
unfoldable pub max_age_of : List ℕ → ℕ
max_age_of script = age_of_lines (lines_of script)

-- The script is a record: its first line says a greatest age, as only the head of a record does.
unfoldable pub is_record : List ℕ → Bool
is_record script = is_some (age_said (lines_of script))

unfoldable pub actions_of : List Ups → List ℕ → List ScriptLine
actions_of list script = actions_from list 1 (lines_of script)

unfoldable pub first_bad_line : List Ups → List ℕ → Option ℕ
first_bad_line list script = bad_line_from list 1 (lines_of script)
