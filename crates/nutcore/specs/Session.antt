-- The sessions of clients.
use Rattle.std.specs.Prelude.{ℕ, Bool, true, false, List, [], ◌∷◌, Option, Some, None, ◌==◌}
use Rattle.std.specs.Prelude.{if◌then◌else◌}
use Rattle.nutusers.specs.declared.ups_list.UpsId.{UpsId}

-- held: what came of its input and isn't executed yet. owed: what it is still to be sent. username,
-- password: what it gave. login: the UPS that it is logged in to. ending: it takes no more input,
-- and ends when nothing is owed. tracking: its orders are tracked.
pub record SessionState : Type 0 where
  pub id : ℕ
  pub address : List ℕ
  pub held : List ℕ
  pub owed : List ℕ
  pub username : Option (List ℕ)
  pub password : Option (List ℕ)
  pub login : Option UpsId
  pub ending : Bool
  pub tracking : Bool

-- A new session holds nothing, owes nothing and gave no name, and its orders aren't tracked.
abbrev pub new_session : ℕ → List ℕ → SessionState
new_session c address =
    record {
      id = c;
      address = address;
      held = [];
      owed = [];
      username = None;
      password = None;
      login = None;
      ending = false;
      tracking = false;
    }

-- A session that begins to end drops its held input and gives up its login.
abbrev pub begin_ending : SessionState → SessionState
begin_ending x = record x { held = []; login = None; ending = true }

-- Sessions are a finite map by id, in the order of opening: the session of this id,
abbrev pub find : ℕ → List SessionState → Option SessionState
find c [] = None
find c (x ∷ xs) = if x.id == c then Some x else find c xs

-- the sessions with this one in place of that of its id,
abbrev pub put : SessionState → List SessionState → List SessionState
put y [] = []
put y (x ∷ xs) = if x.id == y.id then y ∷ xs else x ∷ put y xs

-- and all but that of this id.
abbrev pub without : ℕ → List SessionState → List SessionState
without c [] = []
without c (x ∷ xs) = if x.id == c then without c xs else x ∷ without c xs
