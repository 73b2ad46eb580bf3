-- The rows of a turn.
use Rattle.std.proofs.Common.{◌≡◌, ℕ, suc, Bool, true, false, eqb, List, [], ◌∷◌}
use Rattle.std.proofs.Common.{◌++◌, length, take, Option, Some, None, refl, sym, ap, subst}
use Rattle.std.proofs.Common.{◌∙◌, arith, append-nil, append_assoc, length-take}
use Rattle.std.specs.Prelude.{◌-◌, ◌≤◌, is_some, Result, Ok, Err, if◌then◌else◌, replicate}
use Rattle.std.specs.Option.{option_map, option_map_or}
use Rattle.std.specs.Result.{result_unwrap_or}
use Rattle.std.proofs.lemmas.Bool.Decides.{nat_tests}
use Rattle.std.proofs.lemmas.List.{length-replicate}
use Rattle.nutusers.specs.declared.ups_list.UpsId.{UpsId}
use Rattle.nutcore.specs.declared.event.Event.{Event}
use Rattle.nutcore.specs.declared.event.Event.TheVariants as event
use Rattle.nutcore.specs.declared.event.Outcome.{Outcome}
use Rattle.nutcore.specs.declared.event.Outcome.TheVariants as outcome
use Rattle.nutcore.specs.declared.event.Fault.{Fault}
use Rattle.nutcore.specs.declared.event.Peer.{Peer}
use Rattle.nutcore.specs.declared.event.Peer.TheVariants.{Client, Driver}
use Rattle.nutcore.specs.declared.TheConstants.{HELD_LIMIT}
use Rattle.nutcore.specs.declared.server.status.Standing.{Standing}
use Rattle.nutcore.specs.Cost.{RunningServer, forgetful}
use Rattle.nutcore.specs.Recording.{Recorded, Continues}
use Rattle.nutcore.specs.Session.{SessionState}
use Rattle.nutcore.specs.Ups.{UpsState}
use Rattle.nutcore.specs.Server.{ServerState, session}
use Rattle.nutcore.specs.Parts.{ups_at}
use Rattle.nutcore.specs.Step.{offered}
use Rattle.nutcore.specs.Calls.{room_of, standing_of, is_finished, owed_to, Reads, ReadsUps}
use Rattle.nutcore.specs.DriverHistory.{has_driver}
use Rattle.nutcore.specs.DriverOrders.{owed_to_driver}
use Rattle.nutloop.specs.declared.sockets.Ready.{Ready}
use Rattle.nutloop.specs.declared.sockets.Ready.TheVariants.{Read}
use Rattle.nutloop.specs.declared.sockets.Call.{Call}
use Rattle.nutloop.specs.declared.sockets.Call.TheVariants.{Refused, Shut}
use Rattle.nutcore.specs.declared.TheConstants.{DRIVER_READ_LIMIT}
use Rattle.nutloop.specs.declared.turns.Loop.{Loop}
use Rattle.nutloop.specs.Sockets.{Told, Answers, Follows, Reports}
use Rattle.nutloop.specs.Turn.{Ask, nobody, reads, writes, Answer, unasked, ask, read_of, write_of}
use Rattle.nutloop.specs.Turn.{MayAnswer, answered, row_events, end_of, calls_behind, Does, Happens}
use Rattle.nutloop.specs.Turn.{failures_by, IsLeft, IsRow, IsTurn, ReadyGives, forgotten, loss_of}

pub follows_nothing : (a : Option (List Call)) → Follows a [] a
follows_nothing None = tt
follows_nothing (Some xs) = sym (append-nil xs)

pub follows_joins : (a b c : Option (List Call)) (x y : List Call) → Follows a x b →
    Follows b y c → Follows a (x ++ y) c
follows_joins None None None x y h k = tt
follows_joins None None (Some zs) x y h k = absurd k
follows_joins None (Some ys) c x y h k = absurd h
follows_joins (Some xs) None None x y h k = tt
follows_joins (Some xs) None (Some zs) x y h k = absurd k
follows_joins (Some xs) (Some ys) None x y h k = tt
follows_joins (Some xs) (Some ys) (Some zs) x y h k = k ∙ ap (λ t. t ++ y) h ∙ append_assoc xs x y

pub answers_nothing : (a : Told) → Answers a [] a
answers_nothing a = record { follows = follows_nothing a.calls; failures = refl; progress = refl }

pub continues_nothing : (holds : Recorded) → Continues holds [] holds
continues_nothing holds = λ age events held. subst (λ es. holds age es) (sym (append-nil events)) held

pub continues_joins : (a b c : Recorded) (xs ys : List Event) → Continues a xs b →
    Continues b ys c → Continues a (xs ++ ys) c
continues_joins a b c xs ys h k =
    λ age events held. subst (λ es. c age es) (append_assoc events xs ys) (k age (events ++ xs) (h age events held))

-- The calls after an event by which no session is opened.
pub refused_behind : (a : List ℕ) (o : Outcome) →
    ((c : ℕ) → o ≡ outcome.Opened c → ⊥) → calls_behind (event.Open a) o ≡ Refused ∷ []
refused_behind a (outcome.Opened c) never = absurd (never c refl)
refused_behind a outcome.Done _ = refl
refused_behind a (outcome.Fed n) _ = refl
refused_behind a (outcome.Refused fault) _ = refl

-- The loss of a peer has the connection shut.
pub shut_behind : (p : Peer) (o : Outcome) → calls_behind (loss_of p) o ≡ Shut p ∷ []
shut_behind (Client c) o = refl
shut_behind (Driver u) o = refl

module _ {S R : Type 0} (told : S → Told) (holds : R → Recorded) where
  -- One event is recorded and done, and then the call after it is made.
  pub does_then : (e : Event) (o : Outcome) (old mid : Loop S R) (after : S) (calls : List Call) →
      Happens holds e old o mid → calls_behind e o ≡ calls → Answers (told mid.sockets) calls (told after)
      → Does told holds (e ∷ []) old (record mid { sockets = after })
  does_then e o old mid after calls h is reported = record {
    outcomes = o ∷ [];
    run = (mid.server.state, h.step, refl);
    noted = h.noted;
    recorded = h.recorded;
    reported = subst (λ cs. Answers (told old.sockets) cs (told after))
        (sym is ∙ sym (append-nil (calls_behind e o)))
        (subst (λ (x : S). Answers (told x) calls (told after)) h.sockets reported);
  }

  -- One after which no call is made.
  pub does_quietly : (e : Event) (o : Outcome) (old new : Loop S R) → Happens holds e old o new
      → calls_behind e o ≡ [] → Does told holds (e ∷ []) old new
  does_quietly e o old new h quiet = does_then e o old new new.sockets [] h quiet (answers_nothing (told new.sockets))

  pub does_nothing : (old : Loop S R) → Does told holds [] old old
  does_nothing old = record {
    outcomes = [];
    run = refl;
    noted = refl;
    recorded = continues_nothing (holds old.recorder);
    reported = answers_nothing (told old.sockets);
  }

  -- A row: the call that it makes, and its events.
  pub row : (ready : Ready) (answer : Answer) (a : Ask) (es : List Event) (old new : Loop S R) (mid : S)
      → ask old.server.state ready ≡ a → row_events old.server.state ready answer ≡ es
      → MayAnswer a answer → Reports (failures_by answer) (told old.sockets) (answered a answer) (told mid)
      → Does told holds es (record old { sockets = mid }) new → IsRow told holds ready old new
  row ready answer a es old new mid asked rows may called does = record {
    answer = answer;
    may = subst (λ x. MayAnswer x answer) (sym asked) may;
    mid = mid;
    called = subst (λ x. Reports (failures_by answer) (told old.sockets) (answered x answer)
        (told mid)) (sym asked) called;
    does = subst (λ x. Does told holds x (record old { sockets = mid }) new) (sym rows) does;
  }

  -- The same from a server that is the same.
  pub does_from : (es : List Event) (old new : Loop S R) (server : RunningServer) (mid : S) →
      server ≡ old.server → Does told holds es (record old { server = server; sockets = mid }) new →
      Does told holds es (record old { sockets = mid }) new
  does_from es old new server mid same rest =
      subst (λ (s : RunningServer). Does told holds es (record old { server = s; sockets = mid }) new) same rest

  -- A row that asks nothing of the sockets.
  pub row_unasked : (ready : Ready) (es : List Event) (old new : Loop S R)
      → ask old.server.state ready ≡ nobody → row_events old.server.state ready unasked ≡ es →
      Does told holds es old new → IsRow told holds ready old new
  row_unasked ready es old new asked rows does =
      row ready unasked nobody es old new old.sockets asked rows tt (answers_nothing (told old.sockets)) does

  -- A row of nothing, after which the server is the same.
  pub row_of_nothing : (ready : Ready) (old : Loop S R) (server : RunningServer) → server ≡ old.server →
      ask old.server.state ready ≡ nobody → row_events old.server.state ready unasked ≡ [] →
      IsRow told holds ready old (record old { server = server })
  row_of_nothing ready old server same asked rows =
      subst (λ (s : RunningServer). IsRow told holds ready old (record old { server = s })) (sym same)
      (row_unasked ready [] old old asked rows (does_nothing old))

  -- A row of a loop that is left as it was: only the record may be written.
  row_from : (ready : Ready) (old mid new : Loop S R) → IsLeft told holds old mid → IsRow told holds ready mid new
      → IsRow told holds ready (record old { sockets = mid.sockets }) new
  row_from ready old mid new left r =
      let here : IsRow told holds ready (record mid { server = old.server }) new =
      subst (λ (s : RunningServer). IsRow told holds ready (record mid { server = s }) new) left.server r in
      record {
        answer = here.answer;
        may = here.may;
        mid = here.mid;
        called = here.called;
        does = record {
          outcomes = here.does.outcomes;
          run = here.does.run;
          noted = here.does.noted;
          recorded = continues_joins (holds old.recorder) (holds mid.recorder) (holds new.recorder) []
              (row_events old.server.state ready here.answer) left.recorded here.does.recorded;
          reported = here.does.reported;
        };
      }

  -- A turn: what is ready is found, before which the record may be written, and then its row is done.
  pub turn_of : (soon : Bool) (found ready : Ready) (old mid new : Loop S R) (server : RunningServer) →
      server ≡ forgetful old.server.state server.waste → found ≡ ready →
      ReadyGives told holds soon (record old { server = server }) (Ok found) mid →
      IsRow told holds ready mid new → IsTurn told holds soon old new
  turn_of soon found ready old mid new server begun is gives r =
      let from : ReadyGives told holds soon (forgotten told holds old server) (Ok ready) mid =
      subst (λ (s : RunningServer). ReadyGives told holds soon (record old { server = s }) (Ok ready) mid) begun
      (subst (λ (x : Ready). ReadyGives told holds soon (record old { server = server }) (Ok x) mid) is gives) in
      record {
        ready = ready;
        mid = mid.sockets;
        found = from.1;
        server = server;
        row = row_from ready (forgotten told holds old server) mid new from.0 r;
      }

  -- A row of one event, without a call.
  pub row_of_event : (ready : Ready) (e : Event) (o : Outcome) (old new : Loop S R)
      → ask old.server.state ready ≡ nobody → row_events old.server.state ready unasked ≡ e ∷ [] →
      Happens holds e old o new → calls_behind e o ≡ [] → IsRow told holds ready old new
  row_of_event ready e o old new asked rows h quiet =
      row_unasked ready (e ∷ []) old new asked rows (does_quietly e o old new h quiet)

-- The calls of clients' rows.

not_zero : (n : ℕ) → (n ≡ 0 → ⊥) → eqb n 0 ≡ false
not_zero n h = grind (arith, nat_tests)

room_is : (w : Standing) (o : Option SessionState) → Reads standing_of o (Ok w) →
    option_map_or room_of o 0 ≡ w.room
room_is w None h = cc
room_is w (Some x) h = cc

pub is_there : (w : Standing) (o : Option SessionState) → Reads standing_of o (Ok w) → is_some o ≡ true
is_there w None h = cc
is_there w (Some x) h = refl

pub is_absent : (f : Fault) (o : Option SessionState) → Reads standing_of o (Err f) → o ≡ None
is_absent f None h = refl
is_absent f (Some x) h = cc

-- No client has room for more than is held of it.
room_of_held : (ending : Bool) (held : ℕ) → (if ending then HELD_LIMIT else HELD_LIMIT - held) ≤ HELD_LIMIT
room_of_held true held = omega arith
room_of_held false held = omega arith

room_fits : (w : Standing) (o : Option SessionState) → Reads standing_of o (Ok w) → w.room ≤ HELD_LIMIT
room_fits w None h = cc
room_fits w (Some x) h =
    let is : room_of x ≡ w.room = cc in
    subst (λ k. k ≤ HELD_LIMIT) is (room_of_held x.ending (length x.held))

front_is_full : (n most : ℕ) → n ≤ most → length {A = ℕ} (take n (replicate most 0)) ≡ n
front_is_full n most h = omega (arith, length-take {A = ℕ} n (replicate most 0), length-replicate {A = ℕ} most 0)

-- The front of the buffer is as long as there is room.
pub room_is_asked : (w : Standing) (o : Option SessionState) → Reads standing_of o (Ok w) →
    length {A = ℕ} (take w.room (replicate HELD_LIMIT 0)) ≡ w.room
room_is_asked w o h = front_is_full w.room HELD_LIMIT (room_fits w o h)

pub asks_read : (c : ℕ) (w : Standing) (s : ServerState) →
    Reads standing_of (session c s) (Ok w) → (w.room ≡ 0 → ⊥) →
    ask s (Read (Client c)) ≡ reads (Client c) w.room
asks_read c w s h some = rw (room_is w (session c s) h, not_zero w.room some) refl

pub asks_nobody : (c : ℕ) (w : Standing) (s : ServerState) →
    Reads standing_of (session c s) (Ok w) → w.room ≡ 0 → ask s (Read (Client c)) ≡ nobody
asks_nobody c w s h none = ap (read_of (Client c)) (room_is w (session c s) h ∙ none)

pub asks_nobody_there : (c : ℕ) (s : ServerState) → session c s ≡ None → ask s (Read (Client c)) ≡ nobody
asks_nobody_there c s h = ap (λ o. read_of (Client c) (option_map_or room_of o 0)) h

-- The writes.

pub writes_all : (p : Peer) (xs ys : List ℕ) → xs ≡ ys → eqb (length xs) 0 ≡ false →
    write_of p ys ≡ writes p xs
writes_all p [] ys e h = cc
writes_all p (x ∷ xs) ys e h = ap (write_of p) (sym e)

pub writes_nothing : (p : Peer) (xs ys : List ℕ) → xs ≡ ys → eqb (length xs) 0 ≡ true →
    write_of p ys ≡ nobody
writes_nothing p [] ys e h = ap (write_of p) (sym e)
writes_nothing p (x ∷ xs) ys e h = absurd (not_empty (length xs) h)
  where
    not_empty : (n : ℕ) → eqb (suc n) 0 ≡ true → ⊥
    not_empty n h = grind (arith, nat_tests)

pub owed_is : (xs : List ℕ) (o : Option UpsState) → option_map owed_to o ≡ Some xs → xs ≡
    option_map_or owed_to o []
owed_is xs None h = cc
owed_is xs (Some x) h = cc

pub nothing_is_offered : (c : ℕ) (s : ServerState) → session c s ≡ None →
    write_of (Client c) (offered (session c s)) ≡ nobody
nothing_is_offered c s h = ap (λ o. write_of (Client c) (offered o)) h

pub nothing_is_owed : (u : UpsId) (s : ServerState) → ups_at u.place s ≡ None →
    write_of (Driver u) (owed_to_driver u s) ≡ nobody
nothing_is_owed u s h = ap (λ o. write_of (Driver u) (option_map_or owed_to o [])) h

-- The end of a client.

pub nobody_ends : (c : ℕ) (s : ServerState) → session c s ≡ None → end_of c s ≡ []
nobody_ends c s h = ap (λ o. if option_map_or is_finished o false then event.Close c ∷ [] else []) h

-- Drivers.

pub driver_is : (r : Result Bool Fault) (o : Option UpsState) →
    ReadsUps (λ x. x.report.connected) o r → option_map_or (λ x. x.report.connected) o false ≡
    result_unwrap_or r false
driver_is (Ok b) None h = cc
driver_is (Ok b) (Some x) h = cc
driver_is (Err f) None h = refl
driver_is (Err f) (Some x) h = cc

pub finished_is : (r : Result Bool Fault) (o : Option SessionState) → Reads is_finished o r →
    option_map_or is_finished o false ≡ result_unwrap_or r false
finished_is (Ok b) None h = cc
finished_is (Ok b) (Some x) h = cc
finished_is (Err f) None h = refl
finished_is (Err f) (Some x) h = cc

pub asks_driver : (u : UpsId) (s : ServerState) (b : Bool) → has_driver u s ≡ b →
    ask s (Read (Driver u)) ≡ (if b then reads (Driver u) DRIVER_READ_LIMIT else nobody)
asks_driver u s b h = ap (λ b. if b then reads (Driver u) DRIVER_READ_LIMIT else nobody) h
