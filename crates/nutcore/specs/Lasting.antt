-- What never goes back.
use Rattle.std.specs.Prelude.{◌≡◌, ◌<◌, ◌≤◌, ◌⊎◌, ℕ, true, List, Some, None, IfSome, drop}
use Rattle.nutusers.specs.declared.ups_list.UpsId.{UpsId}
use Rattle.nutcore.specs.declared.event.Event.{Event}
use Rattle.nutcore.specs.declared.event.Outcome.{Outcome}
use Rattle.nutcore.specs.Session.{SessionState}
use Rattle.nutcore.specs.Server.{ServerState, session}
use Rattle.nutcore.specs.Run.{Run}

-- A session that is so stays so as long as it is open, whatever events come.
abbrev pub Lasts : (SessionState → Type 0) → Type 0
Lasts IsSo =
    (old new : ServerState) (events : List Event) (outcomes : List Outcome)
    (c : ℕ) (x : SessionState) → Run old events outcomes new → c < old.next_id
    → session c old ≡ Some x → IsSo x → IfSome (session c new) IsSo

-- It is ending, and owes what is left of these bytes.
pub record IsEnding (owed : List ℕ) (x : SessionState) : Type 0 where
  pub ends : x.ending ≡ true
  pub taken : ℕ
  pub rest : x.owed ≡ drop taken owed

-- What a session gave, it gave for good: a user name, a password, and a login up to its end. A
-- session that is ending goes on ending, and is owed no more than before. A session that is closed
-- is never there again, and ids rise.
pub record WhatNeverGoesBack : Type 0 where
  pub username : (name : List ℕ) → Lasts (λ x. x.username ≡ Some name)
  pub password : (word : List ℕ) → Lasts (λ x. x.password ≡ Some word)
  pub login : (u : UpsId) → Lasts (λ x. (x.ending ≡ true) ⊎ (x.login ≡ Some u))
  pub ending : (owed : List ℕ) → Lasts (IsEnding owed)
  pub closed : (old new : ServerState) (events : List Event) (outcomes : List Outcome) (c : ℕ)
      → Run old events outcomes new → c < old.next_id → session c old ≡ None
      → session c new ≡ None
  pub ids : (old new : ServerState) (events : List Event) (outcomes : List Outcome)
      → Run old events outcomes new → old.next_id ≤ new.next_id
