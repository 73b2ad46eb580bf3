-- What a session owes.
use Rattle.std.specs.Prelude.{◌≡◌, ℕ, ◌<◌, ◌≤◌, ◌||◌, List, [], ◌++◌, length, Option, None, Some}
use Rattle.std.specs.Prelude.{MatchOption, IsTrue, is_some, codes, Bool, false, not}
use Rattle.std.specs.Str.{bytes_eq}
use Rattle.nutlisting.specs.Items.{ListingState, Position, rest}
use Rattle.nutlisting.specs.declared.outbox.TheConstants.{QUEUE_LIMIT}

pub record Owes : Type 0 where
  pub queue : List ℕ
  pub cursor : Option Position

abbrev pub rest_of : Option Position → List ℕ
rest_of None = []
rest_of (Some cursor) = rest cursor

-- The bytes of the queue, and the rest of the cursor.
abbrev pub owed : Owes → List ℕ
owed o = o.queue ++ rest_of o.cursor

-- The queue is full, and something rests.
pub record IsFull (queue : List ℕ) (rest : List ℕ) : Type 0 where
  pub full : length queue ≡ QUEUE_LIMIT
  pub going : 0 < length rest

-- A cursor is there only while something rests, and then the queue is full.
pub record IsOutbox (queue : List ℕ) (cursor : Option Position) : Type 0 where
  pub short : length queue ≤ QUEUE_LIMIT
  pub while_resting : MatchOption cursor (Unit {0}) (λ c. IsFull queue (rest c))

-- The place for the clients of a listing is there, or a cursor over clients has it.
abbrev pub HasPlaceForClients : Option Position → Option (List (List ℕ)) → Type 0
HasPlaceForClients None clients = IsTrue (is_some clients)
HasPlaceForClients (Some c) clients =
    IsTrue (is_some clients || bytes_eq c.listing.kind (codes "CLIENT"))

-- The listing is of a version of a tree.
abbrev pub lists_tree : ListingState → Bool
lists_tree l = not (bytes_eq l.kind (codes "UPS") || bytes_eq l.kind (codes "CLIENT"))

-- A listing of a version has ended, of the cursors before and after.
abbrev pub leaves_tree : Option Position → Option Position → Bool
leaves_tree (Some cursor) None = lists_tree cursor.listing
leaves_tree _ _ = false
