-- The server as its callers see it.
use Rattle.std.specs.Prelude.{ℕ, List, [], Option, replicate, length}
use Rattle.std.specs.Option.{option_map_or}
use Rattle.nutusers.specs.UpsList.{Ups}
use Rattle.nutusers.specs.Users.{User}
use Rattle.nutusers.specs.Descriptions.{Descriptions}
use Rattle.nutcore.specs.Session.{SessionState, find, put}
use Rattle.nuttracking.specs.Tracking.{TrackingState, nothing_tracked}
use Rattle.nutcore.specs.Ups.{UpsState, new_ups}

-- moment, max_age: in seconds. list, users, descriptions: what the files say; the UPSs in the byte
-- order of their names. upses: a state for each UPS of the list. sessions: in the order of opening.
-- next_id: the id of the next session. tracking: the available ids, and the tracked orders.
pub record ServerState : Type 0 where
  pub moment : ℕ
  pub max_age : ℕ
  pub list : List Ups
  pub users : List User
  pub descriptions : Descriptions
  pub upses : List UpsState
  pub sessions : List SessionState
  pub next_id : ℕ
  pub tracking : TrackingState

-- A new server: no driver is connected, no session is open, ids begin at 1, and no order
-- is tracked.
abbrev pub new_server : List Ups → List User → Descriptions → ℕ → ServerState
new_server list users descriptions max_age =
    record {
      moment = 0;
      max_age = max_age;
      list = list;
      users = users;
      descriptions = descriptions;
      upses = replicate (length list) new_ups;
      sessions = [];
      next_id = 1;
      tracking = nothing_tracked;
    }

-- The session of this id.
abbrev pub session : ℕ → ServerState → Option SessionState
session c s = find c s.sessions

-- The server with this session in place of that of its id.
abbrev pub with_session : ServerState → SessionState → ServerState
with_session s y = record s { sessions = put y s.sessions }

-- The server in which f, which keeps its id, changes the session of this id, if there is one.
unfoldable pub with_session_changed : (SessionState → SessionState) → ℕ → ServerState → ServerState
with_session_changed f c s = option_map_or (λ x. with_session s (f x)) (session c s) s
