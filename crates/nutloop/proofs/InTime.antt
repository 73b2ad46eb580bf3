-- What waits at a look at the system is read, answered and written before the next look.
use Rattle.std.proofs.Common.{◌≡◌, ◌⊎◌, ◌+◌, ◌<◌, ◌≤◌, ℕ, zero, suc}
use Rattle.std.proofs.Common.{Bool, true, false, List, [], ◌∷◌, ◌++◌, length, take}
use Rattle.std.proofs.Common.{Option, Some, None, refl, sym, subst, ap, ◌∙◌, inl, inr, arith}
use Rattle.std.proofs.lemmas.Bool.{cases_lt}
use Rattle.std.specs.Prelude.{◌==◌, if◌then◌else◌, nat_lt}
use Rattle.std.specs.Option.{option_map_or}
use Rattle.nutwords.specs.SplitLine.{with_lf}
use Rattle.nutlisting.specs.declared.outbox.TheConstants.{QUEUE_LIMIT}
use Rattle.nutcore.specs.declared.TheConstants.{HELD_LIMIT}
use Rattle.nutcore.specs.declared.event.Event.{Event}
use Rattle.nutcore.specs.declared.event.Event.TheVariants as event
use Rattle.nutcore.specs.declared.event.Outcome.{Outcome}
use Rattle.nutcore.specs.declared.event.Outcome.TheVariants.{Fed}
use Rattle.nutcore.specs.declared.event.Peer.{Peer}
use Rattle.nutcore.specs.declared.event.Peer.TheVariants.{Client, Driver}
use Rattle.nutcore.specs.Alone.{ALineIsAnsweredAtOnce, IsIdle}
use Rattle.nutcore.specs.Headline.{IsBeginning, IsLawful, WhatWasSentAndIsOwedIsTheAnswers}
use Rattle.nutcore.specs.History.{answers, is_closed, owed, taken}
use Rattle.nutcore.specs.Pump.{owed_of}
use Rattle.nutcore.specs.Recording.{Recorded, came_from}
use Rattle.nutcore.specs.Reply.{reply}
use Rattle.nutcore.specs.Run.{Run}
use Rattle.nutcore.specs.Server.{ServerState, session}
use Rattle.nutcore.specs.Session.{SessionState}
use Rattle.nutcore.specs.Sound.{ASoundServerIsLawful}
use Rattle.nutcore.specs.Sound.{EveryRunKeepsTheServerSound}
use Rattle.nutcore.specs.Step.{Step, offered}
use Rattle.nutloop.specs.declared.over_mio.pass.Pass.{Pass}
use Rattle.nutloop.specs.declared.over_mio.pass.Stop.{Stop}
use Rattle.nutloop.specs.declared.sockets.Ready.TheVariants.{Read}
use Rattle.nutloop.specs.Pass.{HasNext, IsOver, fresh, number}
use Rattle.nutloop.specs.declared.turns.Loop.{Loop}
use Rattle.nutloop.specs.Sockets.{Told}
use Rattle.nutloop.specs.Turn.{IsTurn, MayAnswer, ask, gave, nobody, reads, room_at}
use Rattle.nutloop.specs.Turn.{row_events, took, write_of}
use Rattle.nutloop.specs.Fairness.{AnyTurns, FromLookToLook, Turn}
use Rattle.nutloop.specs.InTime.{AreHadInOrder, EachLook, IsHadAt}
use Rattle.nutloop.specs.InTime.{IsReadyUpToItsTurn, Reads, TakesAll}
use Rattle.nutloop.specs.InTime.{WhoeverAsksLearnsInTime}
use Rattle.nutloop.proofs.Fairness.{GoAll, GoesOne, reached}
use Rattle.nutloop.proofs.Turning.{Between, joined, one, still}

-- Turns come in the order of the stops.

-- A turn at a stop leaves the pass at the next one.
next_of : (t : Turn) (old : Pass) → HasNext t.may old t.visited t.pass → t.pass.next ≡ number t.visited + 1
next_of t old (inl turn) = turn.next
next_of t old (inr (mid, over, on, turn)) = turn.next

-- A stop that is ready, and that the pass hasn't reached, has this turn, or the pass still hasn't
-- reached it.
abbrev IsHere : Stop → Turn → Type 0
IsHere s t = (t.visited ≡ s) × (t.pass.next ≡ number s + 1)

at_stop : (s : Stop) (old : Pass) (t : Turn) → old.next ≤ number s → t.may s ≡ true →
    HasNext t.may old t.visited t.pass → IsHere s t ⊎ (t.pass.next ≤ number s)
at_stop s old t before is (inl turn) =
    elim (cases_lt (number s) t.pass.next) [
      | inl past ↦ elim (turn.others s past) [
        | inl earlier ↦ absurd (omega (arith, before, earlier))
        | inr (inl same) ↦ inl (sym same, turn.next ∙ ap (λ (v : Stop). number v + 1) (sym same))
        | inr (inr unready) ↦ absurd (unmade unready is)
      ]
      | inr ahead ↦ inr (omega (arith, ahead))
    ]
  where
    unmade : {b : Bool} → b ≡ false → b ≡ true → ⊥
    unmade h k = cc (h, k)
at_stop s old t before is (inr (mid, over, on, turn)) = absurd (omega (arith, before, over.nobody s is))

-- What is ready up to its turn is so after another turn.
not_its : (s : Stop) (t : Turn) → t.pass.next ≡ number t.visited + 1 → t.pass.next ≤
    number s → t.visited ≡ s → ⊥
not_its s t next ahead same = omega (arith, next, ahead, ap number same)

still_ready : (s : Stop) (t : Turn) (ts : List (Option Turn)) (b : Bool) →
    (t.visited ≡ s → ⊥) → IsReadyUpToItsTurn s (Some t ∷ ts) b → IsReadyUpToItsTurn s ts b
still_ready s t ts b other (is, inl same) = absurd (other same)
still_ready s t ts b other (is, inr later) = later

module _ {S R : Type 0} (told : S → Told) (holds : R → Recorded) where
  any_turns : (old : Loop S R) (before : Pass) (ts : List (Option Turn)) (after : Pass)
      (new : Loop S R) → GoAll told holds old before ts after new → AnyTurns told holds old ts new
  any_turns old before [] after new go = go.0
  any_turns old before (t ∷ ts) after new (mid, (pass, turn, go)) =
      (turn.looks, (mid, turn.one, any_turns mid pass ts after new go))

  -- The turn of a stop, and who is ready after it.
  record Found (s : Stop) (old : Loop S R) (ts : List (Option Turn)) (after : Pass)
      (new : Loop S R) : Type 0 where
    had : IsHadAt told holds s old ts new
    pass : Pass
    next : pass.next ≡ number s + 1
    go : GoAll told holds had.to pass had.after after new
    others : (other : Stop) (b : Bool) → number s < number other →
        IsReadyUpToItsTurn other ts b → IsReadyUpToItsTurn other had.after b

  -- One more turn before it.
  after_turn : (s : Stop) (old mid : Loop S R) (before pass : Pass) (t : Option Turn)
      (ts : List (Option Turn)) (after : Pass) (new : Loop S R) → GoesOne told holds old before t pass mid
      → ((other : Stop) (b : Bool) → number s < number other →
      IsReadyUpToItsTurn other (t ∷ ts) b → IsReadyUpToItsTurn other ts b)
      → Found s mid ts after new → Found s old (t ∷ ts) after new
  after_turn s old mid before pass t ts after new turn others found = record {
    had = record {
      before = t ∷ found.had.before;
      own = found.had.own;
      after = found.had.after;
      all = ap (λ (us : List (Option Turn)). t ∷ us) found.had.all;
      visited = found.had.visited;
      looks = found.had.looks;
      from = found.had.from;
      to = found.had.to;
      earlier = (turn.looks, (mid, turn.one, found.had.earlier));
      one = found.had.one;
      later = found.had.later;
    };
    pass = found.pass;
    next = found.next;
    go = found.go;
    others = λ other b above ready. found.others other b above (others other b above ready);
  }

  find : (s : Stop) (may : Stop → Bool) (old : Loop S R) (before : Pass)
      (ts : List (Option Turn)) (after : Pass) (new : Loop S R) →
      GoAll told holds old before ts after new → before.next ≤ number s
      → IsReadyUpToItsTurn s ts (may s) → IsOver may after after → Found s old ts after new
  find s may old before [] after new go ahead ready over =
      absurd (omega (arith, ahead, over.nobody s ready, ap (λ (p : Pass). p.next) go.1))
  find s may old before (None ∷ ts) after new (mid, (pass, turn, go)) ahead ready over =
      after_turn s old mid before pass None ts after new turn (λ other b above is. is)
      (find s may mid pass ts after new go
      (subst (λ (p : Pass). p.next ≤ number s) (sym turn.goes) ahead) ready over)
  find s may old before (Some t ∷ ts) after new (mid, (pass, turn, go)) ahead ready over =
      let next : t.pass.next ≡ number t.visited + 1 = next_of t before turn.goes.1 in
      let at : pass.next ≡ t.pass.next = ap (λ (p : Pass). p.next) turn.goes.0 in
      elim (at_stop s before t ahead ready.0 turn.goes.1) [
        | inl (same, exact) ↦ record {
          had = record {
            before = [];
            own = t;
            after = ts;
            all = refl;
            visited = same;
            looks = turn.looks;
            from = old;
            to = mid;
            earlier = refl;
            one = turn.one;
            later = any_turns mid pass ts after new go;
          };
          pass = pass;
          next = at ∙ exact;
          go = go;
          others = λ other b above is. still_ready other t ts b
              (λ its. omega (arith, above, ap number its, ap number same)) is;
        }
        | inr yet ↦ after_turn s old mid before pass (Some t) ts after new turn
            (λ other b above is. still_ready other t ts b (not_its other t next (omega (arith, yet, above))) is)
            (find s may mid pass ts after new go (omega (arith, at, yet))
            (still_ready s t ts (may s) (not_its s t next yet) ready) over)
      ]

  in_order : (old new : Loop S R) (turns : List Turn)
      (looks : FromLookToLook told holds old turns new) (first second third : Stop) →
      number first < number second → number second < number third
      → IsReadyUpToItsTurn first (looks.from.first ∷ looks.from.later)
      (looks.is.may new.server.state first) →
      IsReadyUpToItsTurn second (looks.from.first ∷ looks.from.later) (looks.is.may new.server.state second)
      → AreHadInOrder told holds first second third old (looks.from.first ∷ looks.from.later)
      (looks.is.may new.server.state third) new
  in_order old new turns looks first second third below above reports asks =
      let may = looks.is.may new.server.state in
      let all : List (Option Turn) = looks.from.first ∷ looks.from.later in
      let one = find first may old fresh all looks.is.so_far.pass new
      (reached told holds old turns new looks) (omega arith) reports looks.over in
      let two = find second may one.had.to one.pass one.had.after looks.is.so_far.pass new one.go
      (omega (arith, one.next, below)) (one.others second (may second) below asks) looks.over in
      record {
        reports = one.had;
        asks = two.had;
        takes = λ ready. (find third may two.had.to two.pass two.had.after looks.is.so_far.pass new two.go
            (omega (arith, two.next, above)) ready looks.over).had;
      }

  each_look : (n : ℕ) (old new : Loop S R) (s : Stop) →
      EachLook told holds (λ before turns at_look after. IsReadyUpToItsTurn s turns at_look) s n old new
      → EachLook told holds (λ before turns at_look after. IsHadAt told holds s before turns after) s n old new
  each_look zero old new s same = same
  each_look (suc n) old new s (mid, (turns, (looks, ready, rest))) =
      let may = looks.is.may mid.server.state in
      let all : List (Option Turn) = looks.from.first ∷ looks.from.later in
      let found = find s may old fresh all looks.is.so_far.pass mid
      (reached told holds old turns mid looks) (omega arith) ready looks.over in
      (mid, (turns, (looks, found.had, each_look n mid new s rest)))

  -- Turns are runs.
  pub turns_between : (old : Loop S R) (ts : List (Option Turn)) (new : Loop S R) →
      AnyTurns told holds old ts new → Between told holds old new
  turns_between old [] new same = still told holds old new same
  turns_between old (t ∷ ts) new (looks, (mid, turn, rest)) =
      joined told holds old mid new (one told holds turn.soon old mid turn.turn) (turns_between mid ts new rest)

-- A row of one event.
record OneStep (old : ServerState) (e : Event) (outcomes : List Outcome) (new : ServerState) : Type 0 where
  outcome : Outcome
  is : outcomes ≡ outcome ∷ []
  step : Step old e outcome new

one_step : (old new : ServerState) (e : Event) (outcomes : List Outcome) →
    Run old (e ∷ []) outcomes new → OneStep old e outcomes new
one_step old new e [] run = absurd run
one_step old new e (o ∷ []) (mid, step, same) =
    record { outcome = o; is = refl; step = subst (λ (t : ServerState). Step old e o t) (sym same) step }
one_step old new e (o ∷ (q ∷ os)) (mid, step, run) = absurd run

read_events : (s : ServerState) (p : Peer) (bytes : List ℕ) →
    row_events s (Read p) (gave bytes) ≡ came_from p bytes ∷ []
read_events s (Client c) bytes = refl
read_events s (Driver u) bytes = refl

-- What an idle client gives has room, and who takes is open.
fits : (c : ℕ) (bytes : List ℕ) (s : ServerState) →
    MayAnswer (ask s (Read (Client c))) (gave bytes) → length bytes ≤ room_at c s
fits c bytes s h = some (room_at c s) (room_at c s == 0) h
  where
    some : (room : ℕ) (none : Bool) →
        MayAnswer (if none then nobody else reads (Client c) room) (gave bytes) → length bytes ≤ room
    some room true h = absurd h
    some room false h = h

room_is : (c : ℕ) (s : ServerState) (x : SessionState) → session c s ≡ Some x → IsIdle x →
    room_at c s ≡ HELD_LIMIT
room_is c s x found idle = rw (found, idle.going, idle.held) refl

open_by : (c n : ℕ) (o : Option SessionState) (used : Bool) →
    MayAnswer (write_of (Client c) (offered o)) (took n) → option_map_or (λ x. false) o used ≡ false
open_by c n None used h = absurd h
open_by c n (Some x) used h = refl

-- What comes first is taken first.
cons_is : (x y : ℕ) (xs ys : List ℕ) → x ∷ xs ≡ y ∷ ys → (x ≡ y) × (xs ≡ ys)
cons_is x y xs ys e = (cc e, cc e)

begins : (p q : ℕ) (a rest t w : List ℕ) → p ≤ q → a ++ rest ≡ t ++ w →
    IsBeginning (take p a) (t ++ take q w)
begins zero q a rest t w le e = (t ++ take q w, refl)
begins (suc p) q [] rest t w le e = (t ++ take q w, refl)
begins (suc p) q (x ∷ a) rest (y ∷ t) w le e =
    let is = cons_is x y (a ++ rest) (t ++ w) e in
    let more = begins p q a rest t w (omega (arith, le)) is.1 in
    (more.0, ap (λ (z : ℕ). z ∷ (take p a ++ more.0)) is.0 ∙ ap (λ (b : List ℕ). y ∷ b) more.1)
begins (suc p) zero (x ∷ a) rest [] w le e = absurd (omega (arith, le))
begins (suc p) (suc q) (x ∷ a) rest [] [] le e = cc e
begins (suc p) (suc q) (x ∷ a) rest [] (y ∷ w) le e =
    let is = cons_is x y (a ++ rest) w e in
    let more = begins p q a rest [] w (omega (arith, le)) is.1 in
    (more.0, ap (λ (z : ℕ). z ∷ (take p a ++ more.0)) is.0 ∙ ap (λ (b : List ℕ). y ∷ b) more.1)

fed_is : (o : Outcome) (n : ℕ) (outcomes : List Outcome) → outcomes ≡ o ∷ [] →
    outcomes ≡ Fed n ∷ [] → o ≡ Fed n
fed_is o n outcomes h k = cc (h, k)

module _ {S R : Type 0} (told : S → Told) (holds : R → Recorded) where
  is_read : {soon : Bool} {old new : Loop S R} (p : Peer) (bytes : List ℕ) (turn : IsTurn told holds soon old new) →
      Reads told holds p bytes turn →
      OneStep old.server.state (came_from p bytes) turn.row.does.outcomes new.server.state
  is_read {soon} {old} {new} p bytes turn given =
      one_step old.server.state new.server.state (came_from p bytes) turn.row.does.outcomes
      (subst (λ (es : List Event). Run old.server.state es turn.row.does.outcomes new.server.state)
      (read_events old.server.state p bytes)
      (rw (given.0, given.1) at turn.row.does.run))

  line_fits : {soon : Bool} {old new : Loop S R} (c : ℕ) (line : List ℕ) (x : SessionState)
      (turn : IsTurn told holds soon old new) → Reads told holds (Client c) (with_lf line) turn →
      session c old.server.state ≡ Some x → IsIdle x → length (with_lf line) ≤ HELD_LIMIT
  line_fits {soon} {old} c line x turn given found idle =
      let may : MayAnswer (ask old.server.state (Read (Client c))) (gave (with_lf line)) =
      rw (given.0, given.1) at turn.row.may in
      subst (λ room. length (with_lf line) ≤ room) (room_is c old.server.state x found idle)
      (fits c (with_lf line) old.server.state may)

  is_open : {soon : Bool} {old new : Loop S R} (c : ℕ) (turn : IsTurn told holds soon old new) →
      TakesAll told holds c turn → is_closed c old.server.state ≡ false
  is_open {soon} {old} c turn takes =
      let s = old.server.state in
      let n : ℕ = length (offered (session c s)) in
      let may : MayAnswer (write_of (Client c) (offered (session c s))) (took n) =
      rw (takes.0, takes.1) at turn.row.may in
      open_by c n (session c s) (nat_lt c s.next_id) may

  pub whoever_asks_learns_in_time : ALineIsAnsweredAtOnce → WhatWasSentAndIsOwedIsTheAnswers →
      EveryRunKeepsTheServerSound → ASoundServerIsLawful → WhoeverAsksLearnsInTime told holds
  whoever_asks_learns_in_time at_once headline keeps_sound sound_is_lawful = record {
    order = in_order told holds;
    again = each_look told holds;
    answer = λ old new turns first second third reports asks takes peer report c n line x sound
        reported asked fed found idle none all.
        let is_reported = is_read peer report reports.one.turn reported in
        let is_asked = is_read (Client c) (with_lf line) asks.one.turn asked in
        let step : Step asks.from.server.state (event.Feed c (with_lf line)) (Fed n) asks.to.server.state =
        subst (λ (o : Outcome). Step asks.from.server.state (event.Feed c (with_lf line)) o
        asks.to.server.state) (fed_is is_asked.outcome n asks.one.turn.row.does.outcomes is_asked.is
        fed) is_asked.step in
        let owes : owed c asks.to.server.state ≡ reply asks.from.server.state c line =
        at_once asks.from.server.state asks.to.server.state c n line x found idle none
        (line_fits c line x asks.one.turn asked found idle) step in
        let between = turns_between told holds reports.to asks.before asks.from asks.earlier in
        let later = turns_between told holds asks.to takes.before takes.from takes.earlier in
        let before = joined told holds old reports.from reports.to
        (turns_between told holds old reports.before reports.from reports.earlier)
        (one told holds reports.one.soon reports.from reports.to reports.one.turn) in
        let since = joined told holds reports.to asks.from asks.to between
        (one told holds asks.one.soon asks.from asks.to asks.one.turn) in
        let all_before = joined told holds old reports.to asks.to before since in
        let lawful : IsLawful asks.to.server.state =
        sound_is_lawful asks.to.server.state
        (keeps_sound old.server.state asks.to.server.state all_before.events all_before.outcomes
        all_before.run sound) in
        let sent = (headline asks.to.server.state takes.from.server.state later.events
        later.outcomes lawful later.run c).while_open (is_open c takes.one.turn all) in
        record {
          outcome = is_reported.outcome;
          executed = is_reported.step;
          since = record { events = between.events; outcomes = between.outcomes; run = between.run };
          later = record { events = later.events; outcomes = later.outcomes; run = later.run };
          reply = begins QUEUE_LIMIT QUEUE_LIMIT (reply asks.from.server.state c line)
              (answers c asks.to.server.state later.events later.outcomes)
              (taken c asks.to.server.state later.events later.outcomes)
              (owed_of (session c takes.from.server.state)) (omega arith)
              (ap (λ (o : List ℕ). o ++
              answers c asks.to.server.state later.events later.outcomes) (sym owes) ∙ sent);
        };
  }
