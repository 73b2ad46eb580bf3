-- What the calls that are reported and the events of a turn have in common: a reading of the
-- calls, g, and one of the events, f, that fit.
use Rattle.std.proofs.Common.{◌≡◌, ℕ, Bool, true, false, List, [], ◌∷◌, ◌++◌}
use Rattle.std.proofs.Common.{length, Option, Some, None, refl, sym, ap, subst, ◌∙◌}
use Rattle.std.proofs.Common.{append-nil}
use Rattle.std.specs.Prelude.{◌≤◌, ◌==◌, if◌then◌else◌, is_some, IsTrue}
use Rattle.nutwords.specs.Reading.{is_address}
use Rattle.std.specs.List.{flat_map}
use Rattle.std.proofs.lemmas.Grind.{flat_map-append}
use Rattle.nutusers.specs.declared.ups_list.UpsId.{UpsId}
use Rattle.nutcore.specs.declared.event.Event.{Event}
use Rattle.nutcore.specs.declared.event.Event.TheVariants as event
use Rattle.nutcore.specs.declared.event.Outcome.{Outcome}
use Rattle.nutcore.specs.declared.event.Outcome.TheVariants as outcome
use Rattle.nutcore.specs.declared.event.Peer.{Peer}
use Rattle.nutcore.specs.declared.event.Peer.TheVariants.{Client, Driver}
use Rattle.nutcore.specs.Server.{ServerState, session}
use Rattle.nutcore.specs.Step.{offered}
use Rattle.nutcore.specs.Run.{Run}
use Rattle.nutcore.specs.DriverHistory.{has_driver}
use Rattle.nutloop.specs.declared.sockets.Ready.{Ready}
use Rattle.nutloop.specs.declared.sockets.Ready.TheVariants.{Nothing, Tick, Newcomer, Id, DriverUp, Read, Write}
use Rattle.nutloop.specs.declared.sockets.Call.{Call}
use Rattle.nutloop.specs.declared.sockets.Call.TheVariants as calls
use Rattle.nutcore.specs.declared.TheConstants.{DRIVER_READ_LIMIT}
use Rattle.nutcore.specs.DriverOrders.{owed_to_driver}
use Rattle.nutloop.specs.Turn.{nobody, accepts, reads, Answer, unasked, newcomer, gave, later}
use Rattle.nutloop.specs.Turn.{ended, took, failed, ask, write_of, room_at, is_finished_at}
use Rattle.nutloop.specs.Turn.{MayAnswer, answered, row_events, read_of_client, read_of_driver}
use Rattle.nutloop.specs.Turn.{write_to_client, write_to_driver, opening, calls_behind}
use Rattle.nutloop.specs.Turn.{calls_behind_all, loses_driver}
use Rattle.nutloop.specs.Moved.{along}

pub record Fit (g : Call → List ℕ) (f : ServerState → Event → List ℕ) : Type 0 where
  pub looked : (soon : Bool) → g (calls.Looked soon) ≡ []
  pub readied : (r : Ready) → g (calls.Readied r) ≡ []
  pub accepted : (a : Option (List ℕ)) → g (calls.Accepted a) ≡ []
  pub named : (c : ℕ) → g (calls.Named c) ≡ []
  pub refused : g calls.Refused ≡ []
  pub waits : (p : Peer) (most : ℕ) → g (calls.Waits p most) ≡ []
  pub ends : (p : Peer) (most : ℕ) → g (calls.Ended p most) ≡ []
  pub shut : (p : Peer) → g (calls.Shut p) ≡ []
  pub ups : (s : ServerState) (u : UpsId) → f s (event.DriverUp u) ≡ []
  pub downs : (s : ServerState) (u : UpsId) → f s (event.DriverDown u) ≡ []
  pub ticks : (s : ServerState) (n : ℕ) → f s (event.Tick n) ≡ []
  pub ids : (s : ServerState) (n : ℕ) → f s (event.Id n) ≡ []
  pub opens : (s : ServerState) (a : List ℕ) → IsTrue (is_address a) → f s (event.Open a) ≡ []
  pub closes : (s : ServerState) (c : ℕ) → f s (event.Close c) ≡ []
  pub tries : (s : ServerState) (c : ℕ) → f s (event.Feed c []) ≡ []
  pub feeds : (s : ServerState) (c most : ℕ) (bytes : List ℕ) → length bytes ≤
      room_at c s → g (calls.Gave (Client c) most bytes) ≡ f s (event.Feed c bytes)
  pub comes : (s : ServerState) (u : UpsId) (most : ℕ) (bytes : List ℕ) →
      g (calls.Gave (Driver u) most bytes) ≡ f s (event.DriverBytes u bytes)
  pub takes : (s : ServerState) (c n : ℕ) (xs : List ℕ) → xs ≡ offered (session c s) →
      n ≤ length xs → g (calls.Wrote (Client c) xs n) ≡ f s (event.Took c n)
  pub driver_takes : (s : ServerState) (u : UpsId) (n : ℕ) (xs : List ℕ) → xs ≡
      owed_to_driver u s → n ≤ length xs → g (calls.Wrote (Driver u) xs n) ≡ f s (event.DriverTook u n)

-- One call, and one event.
one_call : (g : Call → List ℕ) (x : Call) (bytes : List ℕ) → g x ≡ bytes → flat_map g (x ∷ []) ≡ bytes
one_call g x bytes h = append-nil (g x) ∙ h

one_event : (f : ServerState → Event → List ℕ) (s mid : ServerState) (e : Event)
    (os : List Outcome) → Run s (e ∷ []) os mid → along f s (e ∷ []) os ≡ f s e
one_event f s mid e [] r = absurd r
one_event f s mid e (o ∷ os) r = append-nil (f s e)

-- No bytes are in the calls after an event.
behind_open : (g : Call → List ℕ) (f : ServerState → Event → List ℕ) → Fit g f →
    (a : List ℕ) (o : Outcome) → flat_map g (calls_behind (event.Open a) o) ≡ []
behind_open g f fit a outcome.Done = one_call g calls.Refused [] fit.refused
behind_open g f fit a (outcome.Fed n) = one_call g calls.Refused [] fit.refused
behind_open g f fit a (outcome.Opened c) = one_call g (calls.Named c) [] (fit.named c)
behind_open g f fit a (outcome.Refused r) = one_call g calls.Refused [] fit.refused

behind_lost : (g : Call → List ℕ) (f : ServerState → Event → List ℕ) → Fit g f →
    (u : UpsId) (b : Bool) → flat_map g (if b then calls.Shut (Driver u) ∷ [] else []) ≡ []
behind_lost g f fit u true = one_call g (calls.Shut (Driver u)) [] (fit.shut (Driver u))
behind_lost g f fit u false = refl

behind : (g : Call → List ℕ) (f : ServerState → Event → List ℕ) → Fit g f →
    (e : Event) (o : Outcome) → flat_map g (calls_behind e o) ≡ []
behind g f fit (event.DriverUp u) o = refl
behind g f fit (event.DriverBytes u piece) o = behind_lost g f fit u (loses_driver o)
behind g f fit (event.DriverTook u n) o = refl
behind g f fit (event.DriverDown u) o = one_call g (calls.Shut (Driver u)) [] (fit.shut (Driver u))
behind g f fit (event.Tick n) o = refl
behind g f fit (event.Open a) o = behind_open g f fit a o
behind g f fit (event.Feed c piece) o = refl
behind g f fit (event.Took c n) o = refl
behind g f fit (event.Id n) o = refl
behind g f fit (event.Close c) o = one_call g (calls.Shut (Client c)) [] (fit.shut (Client c))

pub behind_all : (g : Call → List ℕ) (f : ServerState → Event → List ℕ) → Fit g f →
    (es : List Event) (os : List Outcome) → flat_map g (calls_behind_all es os) ≡ []
behind_all g f fit [] os = refl
behind_all g f fit (e ∷ es) [] = refl
behind_all g f fit (e ∷ es) (o ∷ os) =
    flat_map-append g (calls_behind e o) (calls_behind_all es os) ∙
    ap (λ v. v ++ flat_map g (calls_behind_all es os)) (behind g f fit e o) ∙ behind_all g f fit es os

-- What wasn't asked isn't answered.
of_unasked : (answer : Answer) → MayAnswer nobody answer → (P : Answer → Type 0) → P unasked → P answer
of_unasked unasked may P p = p
of_unasked (newcomer a) may P p = absurd may
of_unasked (gave bytes) may P p = absurd may
of_unasked later may P p = absurd may
of_unasked ended may P p = absurd may
of_unasked (took k) may P p = absurd may
of_unasked failed may P p = absurd may

-- An event that moves nothing, or none.
quiet : (f : ServerState → Event → List ℕ) (s mid : ServerState) (e : Event) (b : Bool)
    (os : List Outcome) → f s e ≡ [] → Run s (if b then e ∷ [] else []) os mid → [] ≡
    along f s (if b then e ∷ [] else []) os
quiet f s mid e true os none r = sym (one_event f s mid e os r ∙ none)
quiet f s mid e false os none r = refl

-- The rows.
from_client : (g : Call → List ℕ) (f : ServerState → Event → List ℕ) → Fit g f →
    (s mid : ServerState) (c n : ℕ) (b : Bool) (answer : Answer) (os : List Outcome) → n ≡ room_at c s
    → MayAnswer (if b then nobody else reads (Client c) n) answer →
    Run s (read_of_client s c answer) os mid →
    flat_map g (answered (if b then nobody else reads (Client c) n) answer) ≡ along f s (read_of_client s c answer) os
from_client g f fit s mid c n true answer os e may r =
    of_unasked answer may (λ a. Run s (read_of_client s c a) os mid →
    flat_map g (answered nobody a) ≡ along f s (read_of_client s c a) os)
    (quiet f s mid (event.Feed c []) (is_some (session c s)) os (fit.tries s c)) r
from_client g f fit s mid c n false unasked os e may r = absurd may
from_client g f fit s mid c n false (newcomer a) os e may r = absurd may
from_client g f fit s mid c n false (gave bytes) os e may r =
    one_call g (calls.Gave (Client c) n bytes) (f s (event.Feed c bytes))
    (fit.feeds s c n bytes (subst (λ k. length bytes ≤ k) e may)) ∙
    sym (one_event f s mid (event.Feed c bytes) os r)
from_client g f fit s mid c n false later os e may r = one_call g (calls.Waits (Client c) n) [] (fit.waits (Client c) n)
from_client g f fit s mid c n false ended os e may r =
    one_call g (calls.Ended (Client c) n) [] (fit.ends (Client c) n) ∙
    sym (one_event f s mid (event.Close c) os r ∙ fit.closes s c)
from_client g f fit s mid c n false (took k) os e may r = absurd may
from_client g f fit s mid c n false failed os e may r = sym (one_event f s mid (event.Close c) os r ∙ fit.closes s c)

from_driver : (g : Call → List ℕ) (f : ServerState → Event → List ℕ) → Fit g f →
    (s mid : ServerState) (u : UpsId) (b : Bool) (answer : Answer) (os : List Outcome)
    → MayAnswer (if b then reads (Driver u) DRIVER_READ_LIMIT else nobody) answer →
    Run s (read_of_driver u answer) os mid →
    flat_map g (answered (if b then reads (Driver u) DRIVER_READ_LIMIT else nobody) answer) ≡
    along f s (read_of_driver u answer) os
from_driver g f fit s mid u false answer os may r =
    of_unasked answer may (λ a. flat_map g (answered nobody a) ≡ along f s (read_of_driver u a) os) refl
from_driver g f fit s mid u true unasked os may r = absurd may
from_driver g f fit s mid u true (newcomer a) os may r = absurd may
from_driver g f fit s mid u true (gave bytes) os may r =
    one_call g (calls.Gave (Driver u) DRIVER_READ_LIMIT bytes) (f s (event.DriverBytes u bytes))
    (fit.comes s u DRIVER_READ_LIMIT bytes) ∙ sym (one_event f s mid (event.DriverBytes u bytes) os r)
from_driver g f fit s mid u true later os may r =
    one_call g (calls.Waits (Driver u) DRIVER_READ_LIMIT) [] (fit.waits (Driver u) DRIVER_READ_LIMIT)
from_driver g f fit s mid u true ended os may r =
    one_call g (calls.Ended (Driver u) DRIVER_READ_LIMIT) [] (fit.ends (Driver u) DRIVER_READ_LIMIT) ∙
    sym (one_event f s mid (event.DriverDown u) os r ∙ fit.downs s u)
from_driver g f fit s mid u true (took k) os may r = absurd may
from_driver g f fit s mid u true failed os may r = sym (one_event f s mid (event.DriverDown u) os r ∙ fit.downs s u)

to_client : (g : Call → List ℕ) (f : ServerState → Event → List ℕ) → Fit g f →
    (s mid : ServerState) (c : ℕ) (xs : List ℕ) (answer : Answer) (os : List Outcome) → xs ≡
    offered (session c s)
    → MayAnswer (write_of (Client c) xs) answer → Run s (write_to_client s c answer) os mid →
    flat_map g (answered (write_of (Client c) xs) answer) ≡ along f s (write_to_client s c answer) os
to_client g f fit s mid c [] answer os e may r =
    of_unasked answer may (λ a. Run s (write_to_client s c a) os mid →
    flat_map g (answered nobody a) ≡ along f s (write_to_client s c a) os)
    (quiet f s mid (event.Close c) (is_finished_at c s) os (fit.closes s c)) r
to_client g f fit s mid c (x ∷ xs) unasked os e may r = absurd may
to_client g f fit s mid c (x ∷ xs) (newcomer a) os e may r = absurd may
to_client g f fit s mid c (x ∷ xs) (gave bytes) os e may r = absurd may
to_client g f fit s mid c (x ∷ xs) later os e may r = absurd may
to_client g f fit s mid c (x ∷ xs) ended os e may r = absurd may
to_client g f fit s mid c (x ∷ xs) (took k) os e may r =
    one_call g (calls.Wrote (Client c) (x ∷ xs) k) (f s (event.Took c k))
    (fit.takes s c k (x ∷ xs) e may) ∙ sym (one_event f s mid (event.Took c k) os r)
to_client g f fit s mid c (x ∷ xs) failed os e may r = sym (one_event f s mid (event.Close c) os r ∙ fit.closes s c)

to_driver : (g : Call → List ℕ) (f : ServerState → Event → List ℕ) → Fit g f →
    (s mid : ServerState) (u : UpsId) (xs : List ℕ) (answer : Answer) (os : List Outcome) →
    xs ≡ owed_to_driver u s
    → MayAnswer (write_of (Driver u) xs) answer → Run s (write_to_driver u answer) os mid →
    flat_map g (answered (write_of (Driver u) xs) answer) ≡ along f s (write_to_driver u answer) os
to_driver g f fit s mid u [] answer os e may r =
    of_unasked answer may (λ a. flat_map g (answered nobody a) ≡ along f s (write_to_driver u a) os) refl
to_driver g f fit s mid u (x ∷ xs) unasked os e may r = absurd may
to_driver g f fit s mid u (x ∷ xs) (newcomer a) os e may r = absurd may
to_driver g f fit s mid u (x ∷ xs) (gave bytes) os e may r = absurd may
to_driver g f fit s mid u (x ∷ xs) later os e may r = absurd may
to_driver g f fit s mid u (x ∷ xs) ended os e may r = absurd may
to_driver g f fit s mid u (x ∷ xs) (took k) os e may r =
    one_call g (calls.Wrote (Driver u) (x ∷ xs) k) (f s (event.DriverTook u k))
    (fit.driver_takes s u k (x ∷ xs) e may) ∙ sym (one_event f s mid (event.DriverTook u k) os r)
to_driver g f fit s mid u (x ∷ xs) failed os e may r =
    sym (one_event f s mid (event.DriverDown u) os r ∙ fit.downs s u)

of_nobody : (g : Call → List ℕ) (answer : Answer) → MayAnswer nobody answer →
    flat_map g (answered nobody answer) ≡ []
of_nobody g answer may = of_unasked answer may (λ a. flat_map g (answered nobody a) ≡ []) refl

of_newcomer : (g : Call → List ℕ) (f : ServerState → Event → List ℕ) → Fit g f →
    (s mid : ServerState) (answer : Answer) (os : List Outcome) → MayAnswer accepts answer →
    Run s (opening answer) os mid → flat_map g (answered accepts answer) ≡ along f s (opening answer) os
of_newcomer g f fit s mid unasked os may r = absurd may
of_newcomer g f fit s mid (newcomer None) os may r = one_call g (calls.Accepted None) [] (fit.accepted None)
of_newcomer g f fit s mid (newcomer (Some a)) os may r =
    one_call g (calls.Accepted (Some a)) [] (fit.accepted (Some a)) ∙
    sym (one_event f s mid (event.Open a) os r ∙ fit.opens s a may)
of_newcomer g f fit s mid (gave bytes) os may r = absurd may
of_newcomer g f fit s mid later os may r = absurd may
of_newcomer g f fit s mid ended os may r = absurd may
of_newcomer g f fit s mid (took k) os may r = absurd may
of_newcomer g f fit s mid failed os may r = absurd may

-- What the call of a row moved is what its events moved.
pub row_moves : (g : Call → List ℕ) (f : ServerState → Event → List ℕ) → Fit g f →
    (s mid : ServerState) (ready : Ready) (answer : Answer) (os : List Outcome)
    → MayAnswer (ask s ready) answer → Run s (row_events s ready answer) os mid →
    flat_map g (answered (ask s ready) answer) ≡ along f s (row_events s ready answer) os
row_moves g f fit s mid Nothing answer os may r = of_nobody g answer may
row_moves g f fit s mid (Tick n) answer os may r = of_nobody g answer may ∙
    sym (one_event f s mid (event.Tick n) os r ∙ fit.ticks s n)
row_moves g f fit s mid (Id n) answer os may r = of_nobody g answer may ∙
    sym (one_event f s mid (event.Id n) os r ∙ fit.ids s n)
row_moves g f fit s mid Newcomer answer os may r = of_newcomer g f fit s mid answer os may r
row_moves g f fit s mid (DriverUp u) answer os may r = of_nobody g answer may ∙
    sym (one_event f s mid (event.DriverUp u) os r ∙ fit.ups s u)
row_moves g f fit s mid (Read (Client c)) answer os may r =
    from_client g f fit s mid c (room_at c s) (room_at c s == 0) answer os refl may r
row_moves g f fit s mid (Read (Driver u)) answer os may r = from_driver g f fit s mid u (has_driver u s) answer os may r
row_moves g f fit s mid (Write (Client c)) answer os may r =
    to_client g f fit s mid c (offered (session c s)) answer os refl may r
row_moves g f fit s mid (Write (Driver u)) answer os may r =
    to_driver g f fit s mid u (owed_to_driver u s) answer os refl may r
