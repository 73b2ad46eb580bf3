-- From socket to socket: what a socket gave has room, so that all of it is asked while its client
-- goes on.
use Rattle.std.proofs.Common.{◌≡◌, ◌∙◌, ◌<◌, ◌≤◌, ℕ, Bool, true, false}
use Rattle.std.proofs.Common.{List, [], ◌∷◌, ◌++◌, length, take, Option, Some, None, refl}
use Rattle.std.proofs.Common.{sym, ap, subst, ltb, append_assoc, arith, rules}
use Rattle.std.specs.Prelude.{◌==◌, ◌&&◌, not, nat_le, if◌then◌else◌, IfSome, is_some}
use Rattle.std.specs.Option.{option_map_or}
use Rattle.std.proofs.lemmas.Bool.{eqb-true, ltb-true, lt-ltb, le-leb}
use Rattle.std.proofs.lemmas.Option.{slice_get_within}
use Rattle.std.proofs.Math.Bool.{and-false}
use Rattle.std.proofs.lemmas.List.{take_all}
use Rattle.nutusers.specs.declared.ups_list.UpsId.{UpsId}
use Rattle.nutcore.specs.declared.event.Event.{Event}
use Rattle.nutcore.specs.declared.event.Event.TheVariants as event
use Rattle.nutcore.specs.declared.event.Outcome.{Outcome}
use Rattle.nutcore.specs.Session.{SessionState}
use Rattle.nutcore.specs.Ups.{UpsState}
use Rattle.nutcore.specs.Server.{ServerState, session}
use Rattle.nutcore.specs.Parts.{ups_at}
use Rattle.nutcore.specs.Step.{after, accepted_bytes}
use Rattle.nutcore.specs.DriverEvents.{driver_may_take}
use Rattle.nutcore.specs.Calls.{room_of}
use Rattle.nutcore.specs.Run.{Run}
use Rattle.nutcore.specs.History.{asked_in_event, taken_in_event, asked, answers, executed}
use Rattle.nutcore.specs.History.{executions, of_client, taken, owed, held, is_over}
use Rattle.nutcore.specs.Headline.{IsBeginning, SentAndOwed, TakenUp}
use Rattle.nutcore.specs.Headline.{WhatWasSentAndIsOwedIsTheAnswers, WhatWasAskedIsExecutedOrHeld}
use Rattle.nutcore.specs.Headline.{EachAnswerIsTimely}
use Rattle.nutcore.specs.Lasting.{IsEnding, WhatNeverGoesBack}
use Rattle.nutcore.specs.Sound.{IsSound, ANewServerIsSound, EachEventKeepsTheServerSound, ASoundServerIsLawful}
use Rattle.nutcore.specs.DriverHistory.{WhatADriverReportedIsExecuted, StaysConnected}
use Rattle.nutcore.specs.DriverHistory.{DriverIsHeard, has_driver, heard, came_in_event}
use Rattle.nutcore.specs.DriverRuns.{IsNewServer}
use Rattle.nutcore.specs.DriverOrders.{owed_to_driver, connections}
use Rattle.nutcore.specs.DriverOrders as driver
use Rattle.nutcore.specs.OrdersByRight.{all_given}
use Rattle.nutloop.specs.declared.sockets.Call.{Call}
use Rattle.nutcore.specs.Recording.{Recorded}
use Rattle.nutloop.specs.Sockets.{Told}
use Rattle.nutloop.specs.declared.turns.Loop.{Loop}
use Rattle.nutloop.specs.Turn.{room_at}
use Rattle.nutloop.specs.Moved.{is_client, is_driver, gave_in, took_in, bytes_given, bytes_taken, along}
use Rattle.nutloop.specs.SocketToSocket.{IsAnswered, AreAnswered, WhatASocketGaveIsAnswered}
use Rattle.nutloop.specs.SocketToSocket.{DriversAreServedByTheirSockets, ADriverIsServedByItsSocket}
use Rattle.nutloop.proofs.Moving.{Fit}
use Rattle.nutloop.proofs.Turning.{Between, all_are_moved, none, taken_fits, taken_is_along}
use Rattle.nutloop.proofs.Turning.{came_fits, came_is_along, reported_since}
use Rattle.nutcore.proofs.DriverRuns.{first_stays}
use Rattle.nutcore.proofs.Common.{never_both}

-- What was fed to the client, as far as there was room for it: all of what its socket gave, since
-- no more is read.
abbrev with_room : ℕ → ServerState → Event → List ℕ
with_room c s (event.Feed d piece) = if d == c then take (room_at d s) piece else []
with_room c s _ = []

none_of : (b : Bool) (n : ℕ) → (if b then take {A = ℕ} n [] else []) ≡ []
none_of b n = ap (λ ys. if b then ys else []) (take_all n [] (omega arith)) ∙ none b

feeds_of : (b : Bool) (s : ServerState) (d : ℕ) (bytes : List ℕ) → length bytes ≤
    room_at d s → (if b then bytes else []) ≡ (if b then take (room_at d s) bytes else [])
feeds_of b s d bytes h = ap (λ ys. if b then ys else []) (sym (take_all (room_at d s) bytes h))

room_fits : (c : ℕ) → Fit (gave_in (is_client c)) (with_room c)
room_fits c = search (rules, none_of, feeds_of)

-- A session that goes on joins all that it has room for, and one that is over nothing.
all_joins : (o : Option SessionState) (b : Bool) (piece : List ℕ) →
    option_map_or (λ x. x.ending) o b ≡ false → accepted_bytes o piece ≡ take (option_map_or room_of o 0) piece
all_joins None b piece h = refl
all_joins (Some x) b piece h = rw h refl

nothing_joins : (o : Option SessionState) (b : Bool) (piece : List ℕ) →
    option_map_or (λ x. x.ending) o b ≡ true → accepted_bytes o piece ≡ []
nothing_joins None b piece h = refl
nothing_joins (Some x) b piece h = rw h refl

fed_goes_on : (c d : ℕ) (s : ServerState) (piece : List ℕ) (b : Bool) → (d == c) ≡ b →
    is_over c s ≡ false → (if b then accepted_bytes (session d s) piece else []) ≡
    (if b then take (room_at d s) piece else [])
fed_goes_on c d s piece true same going =
    subst (λ k. accepted_bytes (session k s) piece ≡ take (room_at k s) piece)
    (sym (eqb-true d c same)) (all_joins (session c s) (ltb c s.next_id) piece going)
fed_goes_on c d s piece false same going = refl

fed_when_over : (c d : ℕ) (s : ServerState) (piece : List ℕ) (b : Bool) → (d == c) ≡ b →
    is_over c s ≡ true → (if b then accepted_bytes (session d s) piece else []) ≡ []
fed_when_over c d s piece true same over =
    subst (λ k. accepted_bytes (session k s) piece ≡ []) (sym (eqb-true d c same))
    (nothing_joins (session c s) (ltb c s.next_id) piece over)
fed_when_over c d s piece false same over = refl

asked_is : (c : ℕ) (s : ServerState) (e : Event) (over : Bool) → is_over c s ≡ over →
    asked_in_event c s e ≡ (if over then [] else with_room c s e)
unfolding asked_in_event
asked_is c s (event.Feed d piece) true is = fed_when_over c d s piece (d == c) refl is
asked_is c s (event.Feed d piece) false is = fed_goes_on c d s piece (d == c) refl is
asked_is c s (event.DriverUp u) over is = sym (none over)
asked_is c s (event.DriverBytes u piece) over is = sym (none over)
asked_is c s (event.DriverTook u n) over is = sym (none over)
asked_is c s (event.DriverDown u) over is = sym (none over)
asked_is c s (event.Tick n) over is = sym (none over)
asked_is c s (event.Open a) over is = sym (none over)
asked_is c s (event.Took d n) over is = sym (none over)
asked_is c s (event.Close d) over is = sym (none over)
asked_is c s (event.Id n) over is = sym (none over)

begins_joined : (xs ys zs : List ℕ) → IsBeginning ys zs → IsBeginning (xs ++ ys) (xs ++ zs)
begins_joined xs ys zs b = (b.0, append_assoc xs ys b.0 ∙ ap (λ v. xs ++ v) b.1)

begins_further : (xs ys zs : List ℕ) → IsBeginning xs ys → IsBeginning ys zs → IsBeginning xs zs
begins_further xs ys zs a b = (a.0 ++ b.0, sym (append_assoc xs a.0 b.0) ∙ ap (λ v. v ++ b.0) a.1 ∙ b.1)

-- What a client asked in a run is all that it was fed with room, while it goes on, and else a
-- beginning of that.
record IsAsked (c : ℕ) (old : ServerState) (events : List Event) (outcomes : List Outcome)
    (new : ServerState) : Type 0 where
  pub going : is_over c new ≡ false → along (with_room c) old events outcomes ≡ asked c old events outcomes
  pub begins : IsBeginning (asked c old events outcomes) (along (with_room c) old events outcomes)

module _ (never : WhatNeverGoesBack) (sound : EachEventKeepsTheServerSound) (lawful : ASoundServerIsLawful) where
  over_stays : (c : ℕ) (old new : ServerState) (es : List Event) (os : List Outcome) →
      IsSound old → Run old es os new → is_over c old ≡ true → is_over c new ≡ true
  over_stays c old new es os s r over = by_session (session c old) refl over
    where
      given : c < old.next_id → ltb c new.next_id ≡ true
      given h = let more = never.ids old new es os r in lt-ltb c new.next_id (omega arith)

      is_none : (o : Option SessionState) → o ≡ None → c < old.next_id →
          option_map_or (λ x. x.ending) o (ltb c new.next_id) ≡ true
      is_none o e h = rw e (given h)

      is_ending : (bytes : List ℕ) (o : Option SessionState) → IfSome o (IsEnding bytes) → c <
          old.next_id → option_map_or (λ x. x.ending) o (ltb c new.next_id) ≡ true
      is_ending bytes None e h = given h
      is_ending bytes (Some y) e h = e.ends

      by_session : (o : Option SessionState) → session c old ≡ o →
          option_map_or (λ x. x.ending) o (ltb c old.next_id) ≡ true → is_over c new ≡ true
      by_session None e h = let before = ltb-true c old.next_id h in
          is_none (session c new) (never.closed old new es os c r before e) before
      by_session (Some x) e h =
          let before : c < old.next_id = lawful old s c (ap is_some e) in
          is_ending x.owed (session c new)
          (never.ending x.owed old new es os c x r before e (record { ends = h; taken = 0; rest = refl })) before

  nothing_asked : (c : ℕ) (old new : ServerState) (es : List Event) (os : List Outcome) →
      IsSound old → Run old es os new → is_over c old ≡ true → asked c old es os ≡ []
  nothing_asked c old new [] [] s r over = refl
  nothing_asked c old new [] (o ∷ os) s r over = refl
  nothing_asked c old new (e ∷ es) [] s r over = refl
  nothing_asked c old new (e ∷ es) (o ∷ os) s r over =
      let next : is_over c r.0 ≡ true = over_stays c old r.0 (e ∷ []) (o ∷ []) s (r.0, r.1, refl) over in
      ap (λ v. v ++ asked c (after old e o) es os) (asked_is c old e true over)
      ∙ ap (λ t. asked c t es os) (sym r.1.leaves)
      ∙ nothing_asked c r.0 new es os (sound old r.0 e o r.1 s) r.2 next

  is_asked : (c : ℕ) (old new : ServerState) (es : List Event) (os : List Outcome) →
      IsSound old → Run old es os new → IsAsked c old es os new
  is_asked c old new [] [] s r = record { going = λ h. refl; begins = ([], refl) }
  is_asked c old new [] (o ∷ os) s r = absurd r
  is_asked c old new (e ∷ es) [] s r = absurd r
  is_asked c old new (e ∷ es) (o ∷ os) s r =
      by_end (subst (λ t. IsAsked c t es os new) r.1.leaves
      (is_asked c r.0 new es os (sound old r.0 e o r.1 s) r.2)) (is_over c old) refl
    where
      by_end : IsAsked c (after old e o) es os new → (b : Bool) → is_over c old ≡ b →
          IsAsked c old (e ∷ es) (o ∷ os) new
      by_end rest true over = record {
        going = λ h. never_both (is_over c new) (over_stays c old new (e ∷ es) (o ∷ os) s r over) h;
        begins = subst (λ ys. IsBeginning ys (along (with_room c) old (e ∷ es) (o ∷ os)))
            (sym (nothing_asked c old new (e ∷ es) (o ∷ os) s r over))
            (along (with_room c) old (e ∷ es) (o ∷ os), refl);
      }
      by_end rest false going = record {
        going = λ h. ap (λ v. v ++ along (with_room c) (after old e o) es os)
            (sym (asked_is c old e false going)) ∙ ap (λ v. asked_in_event c old e ++ v) (rest.going h);
        begins = subst (λ v. IsBeginning (asked c old (e ∷ es) (o ∷ os))
            (v ++ along (with_room c) (after old e o) es os)) (asked_is c old e false going)
            (begins_joined (asked_in_event c old e) (asked c (after old e o) es os)
            (along (with_room c) (after old e o) es os) rest.begins);
      }

-- The laws.
is_answered : (c : ℕ) (since : List Call) (old new : ServerState) (es : List Event)
    (os : List Outcome) → held c old ≡ [] → owed c old ≡ []
    → bytes_given (is_client c) since ≡ along (with_room c) old es os →
    bytes_taken (is_client c) since ≡ taken c old es os
    → IsAsked c old es os new → SentAndOwed c old es os new → TakenUp c old es os new →
    IsAnswered c since (of_client c (executions old es os)) new
is_answered c since old new es os none nothing gave took a sent up = record {
  gave_while_going = λ h. gave ∙ a.going h ∙ sym (ap (λ v. v ++ asked c old es os) none) ∙ up.while_going h;
  gave_once_over = λ h. subst (λ v. IsBeginning (executed c old es os) v) (sym gave)
      (begins_further (executed c old es os) (asked c old es os) (along (with_room c) old es os)
      (subst (λ v. IsBeginning (executed c old es os) (v ++ asked c old es os)) none (up.once_over h)) a.begins);
  took_while_open = λ h. ap (λ v. v ++ owed c new) took ∙ sym (sent.while_open h) ∙
      ap (λ v. v ++ answers c old es os) nothing;
  took_once_closed = λ h. subst (λ v. IsBeginning v (answers c old es os)) (sym took)
      (subst (λ v. IsBeginning (taken c old es os) (v ++ answers c old es os)) nothing (sent.once_closed h));
}

pub what_a_socket_gave_is_answered : {S R : Type 0} (told : S → Told) (holds : R → Recorded)
    → WhatWasSentAndIsOwedIsTheAnswers → WhatWasAskedIsExecutedOrHeld → EachAnswerIsTimely → WhatNeverGoesBack
    → ANewServerIsSound → EachEventKeepsTheServerSound → ASoundServerIsLawful →
    WhatASocketGaveIsAnswered told holds
what_a_socket_gave_is_answered {S} {R} told holds sent up timely never opening sound lawful =
    λ old new result before now is_new turns reported reported_after.
    from old new before now is_new (all_are_moved told holds old result new turns) reported reported_after
  where
    from : (old new : Loop S R) (before now : List Call) → IsNewServer old.server.state →
        Between told holds old new → (told old.sockets).calls ≡ Some before →
        (told new.sockets).calls ≡ Some now
        → (since : List Call) × (now ≡ before ++ since) × AreAnswered since old.server.state new.server.state
    from old new before now n m reported reported_after =
        let s : ServerState = old.server.state in
        let t : ServerState = new.server.state in
        let is_sound : IsSound s = subst IsSound (sym n.is)
        (opening n.list n.users n.descriptions n.max_age n.is_list n.are_lawful n.is_max_age) in (
          m.since,
          reported_since (told old.sockets).calls (told new.sockets).calls before now m.since
              m.follows reported reported_after,
          record {
            events = m.events;
            outcomes = m.outcomes;
            run = m.run;
            timely = timely s t m.events m.outcomes m.run;
            answered = λ c. is_answered c m.since s t m.events m.outcomes (ap (held c) n.is) (ap (owed c) n.is)
                (m.moves (gave_in (is_client c)) (with_room c) (room_fits c))
                (m.moves (took_in (is_client c)) (taken_in_event c) (taken_fits c) ∙
                taken_is_along c s m.events m.outcomes)
                (is_asked never sound lawful c s t m.events m.outcomes is_sound m.run)
                (sent s t m.events m.outcomes (lawful s is_sound) m.run c)
                (up s t m.events m.outcomes (lawful s is_sound) m.run c);
          },
        )

-- Drivers: what was taken for one, of what it was owed.
abbrev took_of : UpsId → ServerState → Event → List ℕ
took_of u s (event.DriverTook v n) =
    if v.place == u.place && nat_le n (length (owed_to_driver u s)) then take n (owed_to_driver u s) else []
took_of u s _ = []

within : (n : ℕ) (xs : List ℕ) → n ≤ length xs → take n xs ≡
    (if nat_le n (length xs) then take n xs else [])
within n xs h = rw (le-leb n (length xs) h) refl

took_here : (p q n : ℕ) (b : Bool) (s : ServerState) (xs : List ℕ) → (p == q) ≡ b → xs ≡
    option_map_or (λ x. x.owed) (ups_at p s) [] → n ≤ length xs
    → (if b then take n xs else [])
    ≡ (if b && nat_le n (length (option_map_or (λ x. x.owed) (ups_at q s) [])) then take n
    (option_map_or (λ x. x.owed) (ups_at q s) []) else [])
took_here p q n false s xs same e h = refl
took_here p q n true s xs same e h =
    subst (λ ys. take n xs ≡ (if nat_le n (length ys) then take n ys else []))
    (e ∙ ap (λ k. option_map_or (λ x. x.owed) (ups_at k s) []) (eqb-true p q same)) (within n xs h)

took_of_driver : (u v : UpsId) (s : ServerState) (n : ℕ) (xs : List ℕ) → xs ≡
    owed_to_driver v s → n ≤ length xs
    → (if v.place == u.place then take n xs else []) ≡
    (if v.place == u.place && nat_le n (length (owed_to_driver u s)) then take n (owed_to_driver u s) else [])
took_of_driver u v s n xs e h = took_here v.place u.place n (v.place == u.place) s xs refl e h

took_fits : (u : UpsId) → Fit (took_in (is_driver u)) (took_of u)
took_fits u = search (rules, took_of_driver)

may_take_of : (n : ℕ) (o : Option UpsState) →
    option_map_or (λ x. x.report.connected) o false ≡ true →
    option_map_or (driver_may_take n) o false ≡ nat_le n (length (option_map_or (λ x. x.owed) o []))
may_take_of n None h = cc h
may_take_of n (Some x) h = rw h refl

took_is : (u : UpsId) (s : ServerState) (e : Event) → has_driver u s ≡ true →
    driver.taken_in_event u s e ≡ took_of u s e
took_is u s (event.DriverTook v n) h =
    ap (λ b. if v.place == u.place && b then take n (owed_to_driver u s) else []) (may_take_of n (ups_at u.place s) h)
took_is u s (event.DriverUp v) h = refl
took_is u s (event.DriverBytes v piece) h = refl
took_is u s (event.DriverDown v) h = refl
took_is u s (event.Tick n) h = refl
took_is u s (event.Open a) h = refl
took_is u s (event.Feed d piece) h = refl
took_is u s (event.Took d n) h = refl
took_is u s (event.Close d) h = refl
took_is u s (event.Id n) h = refl

record IsOne (u : UpsId) (s : ServerState) (es : List Event) (os : List Outcome) : Type 0 where
  pub given : List driver.ServerLine
  pub is : connections u s es os ≡ driver.last (record { given = given; taken = along (took_of u) s es os })

is_one : (u : UpsId) (s : ServerState) (es : List Event) (os : List Outcome) →
    StaysConnected u s es os → IsOne u s es os
is_one u s [] os h = record { given = []; is = refl }
is_one u s (e ∷ es) [] h = record { given = []; is = refl }
is_one u s (e ∷ es) (o ∷ os) h =
    let rest = is_one u (after s e o) es os h.1 in
    let stays : driver.is_lost_by u s e o ≡ false =
    ap (λ b. has_driver u s && not b) (first_stays u (after s e o) es os h.1) ∙ and-false (has_driver u s) in
    record {
      given = driver.given_in_event u s e o ++ rest.given;
      is = ap (λ b. driver.in_front b (driver.given_in_event u s e o) (driver.taken_in_event u s e)
          (connections u (after s e o) es os)) stays
          ∙ ap (λ v. driver.with_front (driver.given_in_event u s e o) (driver.taken_in_event u s e) v) rest.is
          ∙
          ap
          (λ v. driver.last (record {
            given = driver.given_in_event u s e o ++ rest.given;
            taken = v ++ along (took_of u) (after s e o) es os;
          })) (took_is u s e h.0);
    }

there_is : (u : UpsId) (s : ServerState) → has_driver u s ≡ true → u.place < length s.upses
there_is u s h = by_ups (ups_at u.place s) refl h
  where
    by_ups : (o : Option UpsState) → ups_at u.place s ≡ o →
        option_map_or (λ x. x.report.connected) o false ≡ true → u.place < length s.upses
    by_ups None e k = cc k
    by_ups (Some x) e k = slice_get_within s.upses u.place x e

is_given : (u : UpsId) (since : List Call) (old new : ServerState) (es : List Event)
    (os : List Outcome) → bytes_taken (is_driver u) since ≡ along (took_of u) old es os →
    StaysConnected u old es os
    → driver.IsSentAndOwed (owed_to_driver u old) (connections u old es os) (owed_to_driver u new)
    → owed_to_driver u old ++ driver.texts_of (all_given (connections u old es os)) ≡
    bytes_taken (is_driver u) since ++ owed_to_driver u new
is_given u since old new es os took stays sent =
    let one = is_one u old es os stays in
    ap (λ v. owed_to_driver u old ++ driver.texts_of (all_given v)) one.is
    ∙ subst (λ v. driver.IsSentAndOwed (owed_to_driver u old) v (owed_to_driver u new)) one.is sent
    ∙ ap (λ v. v ++ owed_to_driver u new) (sym took)

pub a_driver_is_served_by_its_socket : {S R : Type 0} (told : S → Told) (holds : R → Recorded)
    → WhatADriverReportedIsExecuted → driver.WhatADriverWasSentAndIsOwedIsWhatItWasGiven →
    ADriverIsServedByItsSocket told holds
a_driver_is_served_by_its_socket {S} {R} told holds executed_all sent_all =
    λ old new result before now sound turns reported reported_after.
    from old new before now sound (all_are_moved told holds old result new turns) reported reported_after
  where
    from : (old new : Loop S R) (before now : List Call) → IsSound old.server.state →
        Between told holds old new → (told old.sockets).calls ≡ Some before →
        (told new.sockets).calls ≡ Some now
        → (since : List Call) × (now ≡ before ++ since) ×
        DriversAreServedByTheirSockets since old.server.state new.server.state
    from old new before now sound m reported reported_after =
        let s : ServerState = old.server.state in
        let t : ServerState = new.server.state in (
          m.since,
          reported_since (told old.sockets).calls (told new.sockets).calls before now m.since
              m.follows reported reported_after,
          record {
            events = m.events;
            outcomes = m.outcomes;
            run = m.run;
            each = λ u stays. record {
              gave = subst (λ v. DriverIsHeard u s v (heard u s m.events m.outcomes) t)
                  (sym (m.moves (gave_in (is_driver u)) (λ s e. came_in_event u e) (came_fits u)
                  ∙ came_is_along u s t m.events m.outcomes m.run))
                  (executed_all s t m.events m.outcomes u m.run stays);
              took = is_given u m.since s t m.events m.outcomes
                  (m.moves (took_in (is_driver u)) (took_of u) (took_fits u)) stays
                  (sent_all s t m.events m.outcomes u sound
                  (there_is u s (first_stays u s m.events m.outcomes stays)) m.run);
            };
          },
        )
