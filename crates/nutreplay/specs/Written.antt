-- How an event is written as a line of a script, and which event is read back.
use Rattle.std.specs.Prelude.{◌≡◌, ℕ, ◌<◌, ◌^◌, ◌==◌, Bool, not, List, [], ◌∷◌, ◌++◌, None}
use Rattle.std.specs.List.{list_all}
use Rattle.std.specs.Prelude.{if◌then◌else◌, length, slice_get, codes, map, IsSome, IsTrue}
use Rattle.std.specs.Option.{option_map_or}
use Rattle.std.specs.Fmt.{decimal}
use Rattle.hex.specs.Hex.{encode_lower, IsBytes}
use Rattle.nuttracking.specs.Id.{id_text}
use Rattle.nutwords.specs.Reading.{is_address}
use Rattle.nutwords.specs.Text.{lines_of}
use Rattle.nutusers.specs.declared.ups_list.UpsId.{UpsId}
use Rattle.nutusers.specs.UpsList.{Ups, IsList}
use Rattle.nutcore.specs.Sound.{IsMaxAge}
use Rattle.nutcore.specs.declared.event.Event.{Event}
use Rattle.nutcore.specs.declared.event.Event.TheVariants as event
use Rattle.nutcore.specs.declared.event.Peer.{Peer}
use Rattle.nutcore.specs.declared.event.Peer.TheVariants.{Client, Driver}
use Rattle.nutreplay.specs.declared.script.action.Action.TheVariants.{Happens}
use Rattle.nutreplay.specs.Script.{actions_of, first_bad_line, max_age_of}

-- The name of a UPS of the list.
abbrev pub name_at : List Ups → UpsId → List ℕ
name_at list u = option_map_or (λ ups. ups.name) (slice_get list u.place) []

-- The line of the bytes that a peer sends. No bytes are a part of a line, since hexadecimal digits
-- write two at least.
abbrev pub verb_of_bytes : List ℕ → List ℕ → List ℕ → List ℕ
verb_of_bytes part hex bytes = if length bytes == 0 then part else hex

abbrev pub line_of_bytes : List Ups → Peer → List ℕ → List ℕ
line_of_bytes list (Client c) bytes =
    verb_of_bytes (codes "part") (codes "client-hex") bytes
    ++ (32 ∷ (decimal c ++ (32 ∷ (encode_lower bytes ++ 10 ∷ []))))
line_of_bytes list (Driver u) bytes =
    verb_of_bytes (codes "driver-part") (codes "driver-hex") bytes
    ++ (32 ∷ (name_at list u ++ (32 ∷ (encode_lower bytes ++ 10 ∷ []))))

-- The line of an event, with its LF: one case a variant.
abbrev pub line_of : List Ups → Event → List ℕ
line_of list (event.DriverUp u) = codes "up " ++ (name_at list u ++ 10 ∷ [])
line_of list (event.DriverBytes u bytes) = line_of_bytes list (Driver u) bytes
line_of list (event.DriverTook u n) =
    codes "driver-took " ++ (name_at list u ++ (32 ∷ (decimal n ++ 10 ∷ [])))
line_of list (event.DriverDown u) = codes "down " ++ (name_at list u ++ 10 ∷ [])
line_of list (event.Tick n) = codes "tick " ++ (decimal n ++ 10 ∷ [])
line_of list (event.Open a) = codes "open " ++ (a ++ 10 ∷ [])
line_of list (event.Feed c bytes) = line_of_bytes list (Client c) bytes
line_of list (event.Took c n) = codes "took " ++ (decimal c ++ (32 ∷ (decimal n ++ 10 ∷ [])))
line_of list (event.Close c) = codes "close " ++ (decimal c ++ 10 ∷ [])
line_of list (event.Id id) = codes "id " ++ (id_text id ++ 10 ∷ [])

-- The first line of a script for a server of this greatest age.
abbrev pub age_line : ℕ → List ℕ
age_line max_age = codes "maxage " ++ (decimal max_age ++ 10 ∷ [])

-- A comment, with its LF.
abbrev pub comment_line : List ℕ → List ℕ
comment_line text = codes "# " ++ (text ++ 10 ∷ [])

abbrev pub is_one_line : List ℕ → Bool
is_one_line text = list_all (λ b. not (b == 10)) text

-- The head of a record: the greatest age, and a comment, if that is one line.
abbrev pub head_of : ℕ → List ℕ → List ℕ
head_of max_age comment =
    age_line max_age ++ (if is_one_line comment then comment_line comment else [])

-- The event is one of a server of this list: the list has its UPS, and its numbers, bytes and
-- address are those that an event holds.
abbrev pub Has : List Ups → UpsId → Type 0
Has list u = IsSome (slice_get list u.place)

abbrev pub IsEventOf : List Ups → Event → Type 0
IsEventOf list (event.DriverUp u) = Has list u
IsEventOf list (event.DriverBytes u bytes) = Has list u × IsBytes bytes
IsEventOf list (event.DriverTook u n) = Has list u × (n < 2 ^ 64)
IsEventOf list (event.DriverDown u) = Has list u
IsEventOf list (event.Tick n) = n < 2 ^ 64
IsEventOf list (event.Open a) = IsTrue (is_address a)
IsEventOf list (event.Feed c bytes) = (c < 2 ^ 64) × IsBytes bytes
IsEventOf list (event.Took c n) = (c < 2 ^ 64) × (n < 2 ^ 64)
IsEventOf list (event.Close c) = c < 2 ^ 64
IsEventOf list (event.Id id) = id < 2 ^ 128

-- The script is read as these events of a server of this greatest age, and has no bad line. What
-- follows it begins a line of its own.
pub record IsReadAs (list : List Ups) (max_age : ℕ) (script : List ℕ) (events : List Event)
    : Type 0 where
  pub age : max_age_of script ≡ max_age
  pub good : first_bad_line list script ≡ None
  pub actions : map (λ line. line.action) (actions_of list script) ≡ map (λ e. Happens e) events
  pub whole : (more : List ℕ) → lines_of (script ++ more) ≡ lines_of script ++ lines_of more

-- After a script of some events the line of the next one is read as that event.
abbrev pub WhatIsWrittenIsReadBack : Type 0
WhatIsWrittenIsReadBack =
    (list : List Ups) (max_age : ℕ) (script : List ℕ) (events : List Event) (next : Event)
    → IsList list → IsEventOf list next → IsReadAs list max_age script events
    → IsReadAs list max_age (script ++ line_of list next) (events ++ next ∷ [])

-- The head of a record is read as no events of a server of its age.
abbrev pub AHeadIsRead : Type 0
AHeadIsRead =
    (list : List Ups) (max_age : ℕ) (comment : List ℕ) → IsMaxAge max_age
    → IsReadAs list max_age (head_of max_age comment) []
