-- How a reply is read from the bytes that come (RFC 9271).
use Rattle.std.specs.Prelude.{ℕ, Bool, true, false, List, [], ◌∷◌, ◌++◌, ◌&&◌, ◌||◌, ◌==◌, nat_le}
use Rattle.std.specs.Prelude.{nat_lt, length, Option, Some, None, is_some, option_and_then}
use Rattle.std.specs.Prelude.{option_map, Result, Ok, Err, if◌then◌else◌, codes}
use Rattle.std.specs.Str.{bytes_eq}
use Rattle.std.specs.List.{list_all}
use Rattle.std.specs.Option.{option_map_or}
use Rattle.nutwords.specs.Natural.{read_natural}
use Rattle.nutwords.specs.Scan.{words_of}
use Rattle.nutwords.specs.Reading.{read_name, is_name, is_ups_name, is_address}
use Rattle.nutwords.specs.Word.{bytes_of}
use Rattle.nutwords.specs.declared.faults.BadName.{BadName}
use Rattle.nuttracking.specs.Id.{id_text, read_id}
use Rattle.nuttracking.specs.declared.limits.TheConstants.{DONE_LIMIT}
use Rattle.nutrequest.specs.declared.limits.TheConstants.{ITEM_LIMIT, COUNT_LIMIT}
use Rattle.nutrequest.specs.declared.item.Item.{Item}
use Rattle.nutrequest.specs.declared.request.Query.{Query}
use Rattle.nutrequest.specs.declared.request.Query.TheVariants.{Ups, Client}
use Rattle.nutrequest.specs.declared.request.Request.{Request}
use Rattle.nutrequest.specs.declared.request.Request.TheVariants.{List as ListOf, GetVar}
use Rattle.nutrequest.specs.declared.request.Request.TheVariants.{GetNumAttach, TrackedSetVar}
use Rattle.nutrequest.specs.declared.request.Request.TheVariants.{TrackedInstcmd, GetTracking}
use Rattle.nutrequest.specs.declared.read.FirstLine.{FirstLine}
use Rattle.nutrequest.specs.declared.read.FirstLine.TheVariants.{Expected, Refusal, Bad as BadFirst}
use Rattle.nutrequest.specs.declared.read.LaterLine.{LaterLine}
use Rattle.nutrequest.specs.declared.read.LaterLine.TheVariants.{End, Another, Bad as BadLater}
use Rattle.nutrequest.specs.declared.read.Excerpt.{Excerpt}
use Rattle.nutrequest.specs.declared.read.Excerpt.TheVariants.{Fixed, Word, Id, Failure}
use Rattle.nutrequest.specs.Lines.{lines, FoundLine, Line, TooLong}
use Rattle.nutrequest.specs.Request.{asked_words, has_value}

-- The bytes of a text in a line.
abbrev pub bytes_in : Excerpt → List ℕ
bytes_in (Fixed text) = text.now
bytes_in (Word word) = bytes_of word
bytes_in (Id id) = id_text id
bytes_in (Failure number) = codes "FAILED " ++ bytes_of number

-- The words after this one, where it is the first.
abbrev pub behind_word : List ℕ → List (List ℕ) → Option (List (List ℕ))
behind_word word [] = None
behind_word word (first ∷ words) = if bytes_eq first word then Some words else None

-- The words after these, where they come first.
abbrev pub behind : List (List ℕ) → List (List ℕ) → Option (List (List ℕ))
behind [] words = Some words
behind (word ∷ front) words = option_and_then (λ rest. behind front rest) (behind_word word words)

-- There are words after, and they are none.
abbrev pub is_nothing : Option (List (List ℕ)) → Bool
is_nothing (Some []) = true
is_nothing _ = false

-- There are words after, and they are this one.
abbrev pub only_word : Option (List (List ℕ)) → Option (List ℕ)
only_word (Some (word ∷ [])) = Some word
only_word _ = None

-- The words are BEGIN or END, LIST, and what was asked for.
abbrev pub is_frame : List ℕ → Query → List (List ℕ) → Bool
is_frame verb query words = is_nothing (behind (verb ∷ codes "LIST" ∷ asked_words query) words)

-- An error word is made of letters and dashes.
abbrev pub is_error_byte : ℕ → Bool
is_error_byte b = (nat_le 97 b && nat_le b 122) || (nat_le 65 b && nat_le b 90) || (b == 45)

abbrev pub refusal_by : Result (List ℕ) BadName → FirstLine
refusal_by (Ok word) = if list_all is_error_byte word then Refusal word else BadFirst
refusal_by (Err bad) = BadFirst

abbrev pub refusal_of_word : Option (List ℕ) → FirstLine
refusal_of_word (Some word) = refusal_by (read_name word)
refusal_of_word None = BadFirst

-- ERR and a word of at most 64 bytes; or it is no first line.
abbrev pub refusal_of : List (List ℕ) → FirstLine
refusal_of words = refusal_of_word (only_word (behind (codes "ERR" ∷ []) words))

-- A number of clients, as a server writes it: 0 to 64, with no leading zero.
abbrev pub is_count : List ℕ → Bool
is_count word = is_some (read_natural COUNT_LIMIT word)

abbrev pub count_in : Option (List ℕ) → Option (List ℕ)
count_in (Some word) = if is_count word then Some word else None
count_in None = None

-- The id that a word is, as it is written.
abbrev pub id_in : Option (List ℕ) → Option (List ℕ)
id_in word = option_map id_text (option_and_then read_id word)

-- What a granted order is answered by, where it is tracked: its id.
abbrev pub granted_id : List (List ℕ) → Option (List ℕ)
granted_id words = id_in (only_word (behind (codes "OK" ∷ codes "TRACKING" ∷ []) words))

-- A number that isn't 0.
abbrev pub is_some_number : Option ℕ → Bool
is_some_number (Some number) = nat_lt 0 number
is_some_number None = false

-- What an order failed with: 1 to 1,000,000,000, with no leading zero.
abbrev pub failure_in : Option (List ℕ) → Option (List ℕ)
failure_in (Some word) =
    if is_some_number (read_natural DONE_LIMIT word) then Some (codes "FAILED " ++ word) else None
failure_in None = None

-- The word says by itself how far an order has come.
abbrev pub stands_alone : List ℕ → Bool
stands_alone word = bytes_eq word (codes "PENDING") || bytes_eq word (codes "SUCCESS")

-- How far an order has come: PENDING or SUCCESS, or FAILED and a number.
abbrev pub progress_in : List (List ℕ) → Option (List ℕ)
progress_in [] = None
progress_in (word ∷ words) =
    if bytes_eq word (codes "FAILED") then failure_in (only_word (Some words))
    else if stands_alone word && is_nothing (Some words) then Some word
    else None

-- The value in the first line, where it is the one that grants the request: after BEGIN there is
-- none, after VAR a value, after NUMATTACH a number, after OK of a tracked order its id, after
-- TRACKING and the id as it was sent how far the order has come; of the others it is OK.
abbrev pub expected_of : Request → List (List ℕ) → Option (List ℕ)
expected_of (ListOf query) words = if is_frame (codes "BEGIN") query words then Some [] else None
expected_of (GetVar ups name) words = only_word (behind (codes "VAR" ∷ ups ∷ name ∷ []) words)
expected_of (GetNumAttach ups) words =
    count_in (only_word (behind (codes "NUMATTACH" ∷ ups ∷ []) words))
expected_of (TrackedSetVar ups name value) words = granted_id words
expected_of (TrackedInstcmd ups name value) words = granted_id words
expected_of (GetTracking id) words =
    option_and_then progress_in (behind (codes "TRACKING" ∷ id_text id ∷ []) words)
expected_of _ words =
    if is_nothing (behind (codes "OK" ∷ []) words) then Some (codes "OK") else None

abbrev pub first_or : Option (List ℕ) → FirstLine → FirstLine
first_or (Some value) refusal = Expected value
first_or None refusal = refusal

-- What a reply's first line is.
abbrev pub first_of : Request → List (List ℕ) → FirstLine
first_of request words = first_or (expected_of request words) (refusal_of words)

-- The name of an item: of a UPS, of a variable or a command, or an address.
abbrev pub is_item_name : Query → List ℕ → Bool
is_item_name Ups word = is_ups_name word
is_item_name (Client ups) word = is_address word
is_item_name _ word = is_name word

-- What an item has after its name: one word where it has a value, else none.
abbrev pub value_in : Bool → List (List ℕ) → Option (List ℕ)
value_in true words = only_word (Some words)
value_in false words = if is_nothing (Some words) then Some [] else None

-- The item that words are.
abbrev pub item_of : Query → List (List ℕ) → Option Item
item_of query [] = None
item_of query (name ∷ rest) =
    if is_item_name query name
    then option_map (λ value. record { name = name; value = value })
    (value_in (has_value query) rest)
    else None

-- What a line after BEGIN is: the END of the same words, an item, or none of them.
abbrev pub later_of : Query → List (List ℕ) → LaterLine
later_of query words =
    if is_frame (codes "END") query words then End
    else option_map_or Another (option_and_then (item_of query) (behind (asked_words query) words))
    BadLater

-- What the bytes that came are: a refusal by an error word; a whole reply, and the bytes after it;
-- bytes that can't be the beginning of a reply; or the beginning of one.
pub data Reply : Type 0 where
  Refused : (word : List ℕ) → Reply
  Whole : (items : List Item) (rest : List ℕ) → Reply
  Bad : Reply
  Unfinished : Reply

-- They are fewer than 65,536: a listing has no more.
abbrev pub has_room : List Item → Bool
has_room items = nat_lt (length items) ITEM_LIMIT

-- What a line makes of the items before it, by what is made of more of them.
abbrev pub after_later : LaterLine → List Item → List ℕ → (List Item → Reply) → Reply
after_later End items rest go = Whole items rest
after_later (Another item) items rest go = if has_room items then go (items ++ item ∷ []) else Bad
after_later BadLater items rest go = Bad

-- The reply, from its later lines.
abbrev pub items_from : Query → List Item → List FoundLine → Reply
items_from query items [] = Unfinished
items_from query items (TooLong ∷ more) = Bad
items_from query items (Line line rest ∷ more) =
    after_later (later_of query (words_of line)) items rest (λ all. items_from query all more)

-- A reply of one line is seen as one item without a name.
abbrev pub one_item : List ℕ → List Item
one_item value = record { name = []; value = value } ∷ []

-- What follows the first line: the items of a listing; else the reply is whole.
abbrev pub after_expected : Request → List ℕ → List ℕ → Reply
after_expected (ListOf query) value rest = items_from query [] (lines rest)
after_expected _ value rest = Whole (one_item value) rest

abbrev pub after_first : Request → FirstLine → List ℕ → Reply
after_first request (Expected value) rest = after_expected request value rest
after_first request (Refusal word) rest = Refused word
after_first request BadFirst rest = Bad

abbrev pub reply_from : Request → List FoundLine → Reply
reply_from request [] = Unfinished
reply_from request (TooLong ∷ more) = Bad
reply_from request (Line line rest ∷ more) =
    after_first request (first_of request (words_of line)) rest

-- The bytes as the reply to the request.
abbrev pub reply : Request → List ℕ → Reply
reply request bytes = reply_from request (lines bytes)
