-- What changing a session leaves of the server, of that session and of the others.
use Rattle.std.proofs.Common.{◌≡◌, ◌≢◌, ℕ, true, Option, Some, None, refl, sym}
use Rattle.std.proofs.Common.{◌∙◌, ap, ltb, ◌+◌, List, [], ◌∷◌, ◌++◌, inl, inr}
use Rattle.std.specs.Prelude.{option_map}
use Rattle.std.specs.Option.{option_map_or}
use Rattle.nutcore.specs.Session.{SessionState, find, put, new_session}
use Rattle.nutcore.specs.Server.{ServerState, session, with_session, with_session_changed}
use Rattle.nutcore.specs.Pump.{holds_overlong, notified, with_notice}
use Rattle.nutcore.proofs.Found.{cases_Option, find_id, find_put, find_put_other}
use Rattle.nutcore.proofs.Progress.{Presence, presence}
use Rattle.nutcore.proofs.Common.{cond_both}
use Rattle.nutcore.specs.Step.{with_input, may_open, opened}

-- a session that is put
pub session_put : (s : ServerState) (c : ℕ) (x y : SessionState) → session c s ≡ Some x →
    y.id ≡ c → session c (with_session s y) ≡ Some y
session_put s c x y e id = ap (λ d. find d (put y s.sessions)) (sym id) ∙
    find_put y s.sessions x (ap (λ d. find d s.sessions) id ∙ e)

-- what holds of the server if the session is there, and put as it is changed, and if it isn't there
pub by_change : (P : ServerState → Type 0) (f : SessionState → SessionState) (c : ℕ)
    (s : ServerState) → ((x : SessionState) → session c s ≡ Some x →
    P (with_session s (f x))) → (session c s ≡ None → P s) → P (with_session_changed f c s)
unfolding with_session_changed
by_change P f c s there absent = elim (cases_Option (session c s))
    [ inl e ↦ rw e (absent e) | inr (x, e) ↦ rw e (there x e) ]

pub change_is : (f : SessionState → SessionState) (c : ℕ) (s : ServerState) (x : SessionState)
    → session c s ≡ Some x → with_session_changed f c s ≡ with_session s (f x)
unfolding with_session_changed
change_is f c s x e = ap (λ (o : Option SessionState). option_map_or (λ y. with_session s (f y)) o s) e

pub input_absent : (s : ServerState) (c : ℕ) (piece : List ℕ) → session c s ≡ None →
    with_input s c piece ≡ s
unfolding with_input with_session_changed
input_absent s c piece e = rw e

-- a client with this session
abbrev pub at_client : ServerState → ℕ → Option SessionState → Presence
at_client s c o = record { session = o; used = ltb c s.next_id }

-- what changes the session and keeps its id: the session is changed,
pub presence_changed : (f : SessionState → SessionState) →
    ((x : SessionState) → (f x).id ≡ x.id) → (c : ℕ) (s : ServerState) →
    presence c (with_session_changed f c s) ≡ at_client s c (option_map f (session c s))
presence_changed f keeps c s = by_change (λ t. presence c t ≡ at_client s c (option_map f (session c s))) f c s
    (λ x e. ap (at_client s c) (session_put s c x (f x) e (keeps x ∙ find_id c s.sessions x e)
    ∙ ap (option_map f) (sym e)))
    (λ e. ap (at_client s c) (e ∙ ap (option_map f) (sym e)))

pub session_changed : (f : SessionState → SessionState) →
    ((x : SessionState) → (f x).id ≡ x.id) → (c : ℕ) (s : ServerState) →
    session c (with_session_changed f c s) ≡ option_map f (session c s)
session_changed f keeps c s = ap (λ (p : Presence). p.session) (presence_changed f keeps c s)

-- and the others aren't
pub presence_other : (f : SessionState → SessionState) →
    ((x : SessionState) → (f x).id ≡ x.id) → (c d : ℕ) (s : ServerState) → c ≢ d →
    presence c (with_session_changed f d s) ≡ presence c s
presence_other f keeps c d s differ = by_change (λ t. presence c t ≡ presence c s) f d s
    (λ x e. ap (at_client s c) (find_put_other c (f x) s.sessions
    (λ (h : c ≡ (f x).id). differ (h ∙ keeps x ∙ find_id d s.sessions x e))))
    (λ e. refl)

-- the notice, where it is due, and where it isn't
pub either_notice : (P : SessionState → Type 0) (x : SessionState) → P (notified x) → P x → P (with_notice x)
either_notice P x told quiet = cond_both (holds_overlong x) (notified x) x P (λ long. told) (λ short. quiet)

-- what an opening leaves: one session more, or all as it was
pub of_opened : (P : ServerState → Type 0) (s : ServerState) (address : List ℕ) (m : Option ℕ) → P s
    → (may_open s ≡ true → let t : ServerState =
    record s {
      sessions = s.sessions ++ new_session s.next_id address ∷ [];
      next_id = s.next_id +
          1;
    } in P t) → P (opened s address m)
unfolding opened
of_opened P s address None same more = cond_both (may_open s) _ s P more (λ full. same)
of_opened P s address (Some k) same more = same
