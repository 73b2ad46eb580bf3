-- A silent driver is asked by the first tick after a third of the greatest age.
use Rattle.std.proofs.Common.{◌≡◌, ◌∙◌, ◌⊎◌, inl, inr, ◌≤◌, ◌<◌}
use Rattle.std.proofs.Common.{◌+◌, ◌-◌, ◌/◌, ℕ, zero, suc, Bool, true, false}
use Rattle.std.proofs.Common.{leb, max, List, [], ◌∷◌, ◌++◌, length, append-nil, Option, Some, None}
use Rattle.std.proofs.Common.{refl, sym, ap, subst, arith, if◌then◌else◌}
use Rattle.std.specs.Prelude.{◌&&◌, drop, map}
use Rattle.std.specs.List.{slice_get}
use Rattle.std.specs.Option.{option_map, option_map_or}
use Rattle.std.proofs.lemmas.Bool.{and_from, cases_lt}
use Rattle.std.proofs.lemmas.Bool.Decides.{nat_tests}
use Rattle.nutwords.specs.WholeLines.{is_too_long, whole_lines, unfinished_after}
use Rattle.nuttracking.specs.Tracking.{TrackingState}
use Rattle.nutusers.specs.declared.ups_list.UpsId.{UpsId}
use Rattle.nutdriver.specs.Report.{after_heard, after_line, end_in}
use Rattle.nutdriver.specs.declared.report.Report.{Report}
use Rattle.nutdriver.specs.declared.report.LineOutcome.{LineOutcome}
use Rattle.nutcore.specs.declared.event.Event.{Event}
use Rattle.nutcore.specs.declared.event.Event.TheVariants as event
use Rattle.nutcore.specs.declared.event.Outcome.{Outcome}
use Rattle.nutcore.specs.declared.TheConstants.{DRIVER_OWED_LIMIT}
use Rattle.nutcore.specs.declared.max_age.TheConstants.{MAX_AGE_LEAST}
use Rattle.nutcore.specs.DriverHistory.{DriverIsHeard, StaysConnected, WhatADriverReportedIsExecuted}
use Rattle.nutcore.specs.DriverHistory.{has_driver, came, heard, heard_in_event}
use Rattle.nutcore.specs.DriverOrders.{ping, given_in_event, moment_of, owed_to_driver}
use Rattle.nutcore.specs.History.{executions_by}
use Rattle.nutcore.specs.Isolation.{AClientTouchesNoOther, kept_from_clients, without_commands}
use Rattle.nutcore.specs.Reports.{is_unawaited, with_end}
use Rattle.nutcore.specs.Run.{Run}
use Rattle.nutcore.specs.Server.{ServerState}
use Rattle.nutcore.specs.Parts.{ups_at, changed_at, with_ups_changed}
use Rattle.nutcore.specs.Session.{new_session}
use Rattle.nutcore.specs.Sound.{IsSoundUps}
use Rattle.nutcore.proofs.DriverRuns.{first_stays}
use Rattle.nutcore.proofs.SoundUps.{each_get}
use Rattle.std.proofs.lemmas.Option.{slice_get-map}
use Rattle.nutcore.specs.Step.{Step, after, after_by}
use Rattle.nutcore.specs.DriverEvents.{after_driver_bytes, after_driver_took}
use Rattle.nutcore.specs.DriverEvents.{driver_may_take}
use Rattle.nutcore.specs.Step.{opened, may_open, refused_after}
use Rattle.nutcore.specs.DriverEvents.{connected, disconnected, ticked}
use Rattle.nutcore.specs.Ups.{UpsState, ping_line, ping_is_due, after_tick, after_texts, after_text, after_outcome}
use Rattle.nutcore.specs.Ups.{after_connecting, after_loss, with_faulty_line, with_unfinished}
use Rattle.nutcore.specs.Ups.{ups_after_bytes, ups_after_text, with_rest, is_refused}
use Rattle.endtoend.specs.Pinged.{WasAsked, ASilentDriverIsAskedInTime}

-- the moment of the last PING, and whether a driver is connected
abbrev pinged_in : Option UpsState → ℕ
pinged_in o = option_map_or (λ (x : UpsState). x.pinged) o 0

abbrev connected_in : Option UpsState → Bool
connected_in o = option_map_or (λ (x : UpsState). x.report.connected) o false

abbrev pinged_of : UpsId → ServerState → ℕ
pinged_of u s = pinged_in (ups_at u.place s)

-- a change that makes no later PING of a connected UPS
abbrev MakesNone : (UpsState → UpsState) → Type 0
MakesNone f = (x : UpsState) → x.report.connected ≡ true → (f x).pinged ≤ x.pinged

none_made : (f : UpsState → UpsState) → MakesNone f → (v place : ℕ) (xs : List UpsState) →
    connected_in (slice_get xs place) ≡ true →
    pinged_in (slice_get (changed_at f v xs) place) ≤ pinged_in (slice_get xs place)
none_made f none v place [] there = omega arith
none_made f none zero zero (x ∷ xs) there = none x there
none_made f none zero (suc place) (x ∷ xs) there = omega arith
none_made f none (suc v) zero (x ∷ xs) there = omega arith
none_made f none (suc v) (suc place) (x ∷ xs) there = none_made f none v place xs there

texts_keep : (moment place : ℕ) (t : TrackingState) (lines : List (List ℕ)) (x : UpsState) →
    (after_texts moment place t lines x).pinged ≡ x.pinged
texts_keep moment place t [] x = refl
texts_keep moment place t (line ∷ lines) x =
    texts_keep moment place (with_end place (end_in line) t) lines
    (after_text moment (is_unawaited place (end_in line) t) x line)
    ∙ outcome_keeps (is_unawaited place (end_in line) t) (after_line moment x.report line)
  where
    outcome_keeps : (unawaited : Bool) (r : Report × LineOutcome) → (after_outcome unawaited x r).pinged ≡ x.pinged
    outcome_keeps unawaited r = by (is_refused unawaited r.1)
      where
        by : (b : Bool) → (let y : UpsState = record x { report = r.0 } in
            if b then with_faulty_line y else y).pinged ≡ x.pinged
        by true = refl
        by false = refl

rest_makes_none : (rest : List ℕ) (x : UpsState) → (with_rest rest x).pinged ≤ x.pinged
rest_makes_none rest x = by (is_too_long rest)
  where
    by : (b : Bool) → (if b then after_loss x else with_unfinished rest x).pinged ≤ x.pinged
    by true = omega arith
    by false = omega arith

text_makes_none : (moment place : ℕ) (t : TrackingState) (text : List ℕ) (m : Option ℕ) (x : UpsState) →
    (ups_after_text moment place t text m x).pinged ≤ x.pinged
text_makes_none moment place t text None x = omega (
  arith,
  rest_makes_none (unfinished_after text) (after_texts moment place t (whole_lines text) x),
  texts_keep moment place t (whole_lines text) x,
)
text_makes_none moment place t text (Some k) x = omega arith

bytes_make_none : (moment place : ℕ) (t : TrackingState) (piece : List ℕ) (m : Option ℕ) →
    MakesNone (ups_after_bytes moment place t piece m)
bytes_make_none moment place t piece m x there =
    subst (λ b. (if b then ups_after_text moment place t (x.unfinished ++ piece) m x else x).pinged ≤ x.pinged)
    (sym there) (text_makes_none moment place t (x.unfinished ++ piece) m x)

connection_makes_none : (moment : ℕ) → MakesNone (connected moment)
connection_makes_none moment x there =
    subst (λ b. (if b then x else after_connecting moment x).pinged ≤ x.pinged) (sym there) (omega arith)

taking_makes_none : (n : ℕ) → MakesNone (after_driver_took n)
taking_makes_none n x there = by (driver_may_take n x)
  where
    by : (b : Bool) → (if b then record x { owed = drop n x.owed } else x).pinged ≤ x.pinged
    by true = omega arith
    by false = omega arith

loss_makes_none : MakesNone disconnected
loss_makes_none x there = subst (λ b. (if b then after_loss x else x).pinged ≤ x.pinged) (sym there) (omega arith)

-- what clients leave
commands_keep : (place : ℕ) (xs : List UpsState) →
    pinged_in (slice_get (map without_commands xs) place) ≡ pinged_in (slice_get xs place)
commands_keep place [] = refl
commands_keep zero (x ∷ xs) = refl
commands_keep (suc place) (x ∷ xs) = commands_keep place xs

-- what an event that is no tick leaves of a connected UPS
record KeepsTime (u : UpsId) (old new : ServerState) : Type 0 where
  moment : new.moment ≡ old.moment
  max_age : new.max_age ≡ old.max_age
  pinged : pinged_of u new ≤ pinged_of u old

of_client : (u : UpsId) (old new : ServerState) → kept_from_clients new ≡
    kept_from_clients old → KeepsTime u old new
of_client u old new e = record {
  moment = ap (λ (s : ServerState). s.moment) e;
  max_age = ap (λ (s : ServerState). s.max_age) e;
  pinged =
      let same : pinged_of u new ≡ pinged_of u old =
      sym (commands_keep u.place new.upses) ∙ ap (λ (s : ServerState). pinged_in (slice_get s.upses u.place)) e
      ∙ commands_keep u.place old.upses in
      omega (arith, same);
}

of_driver : (u v : UpsId) (f : UpsState → UpsState) (s : ServerState) → MakesNone f → has_driver u s ≡ true →
    KeepsTime u s (with_ups_changed f v s)
of_driver u v f s none there = record {
  moment = refl;
  max_age = refl;
  pinged = none_made f none v.place u.place s.upses there;
}

unchanged : (u : UpsId) (s : ServerState) → KeepsTime u s s
unchanged u s = record { moment = refl; max_age = refl; pinged = omega arith }

opening_keeps : (u : UpsId) (s : ServerState) (address : List ℕ) (m : Option ℕ) →
    KeepsTime u s (opened s address m)
unfolding opened
opening_keeps u s address None = by (may_open s)
  where
    by : (b : Bool) → KeepsTime u s (if b then record s {
      sessions = s.sessions ++ new_session s.next_id address ∷ [];
      next_id = s.next_id + 1;
    } else s)
    by true = record { moment = refl; max_age = refl; pinged = omega arith }
    by false = unchanged u s
opening_keeps u s address (Some k) = unchanged u s

not_tick : Event → Type 0
not_tick e = (seconds : ℕ) → e ≡ event.Tick seconds → ⊥

module _ (clients : AClientTouchesNoOther) (u : UpsId) where
  event_keeps : (s : ServerState) (e : Event) (o : Outcome) (new : ServerState) → Step s e o new →
      has_driver u s ≡ true → not_tick e → KeepsTime u s new
  unfolding after_by after_driver_bytes not_tick
  event_keeps s (event.DriverUp v) o new step there none = subst (KeepsTime u s) (sym step.leaves)
      (of_driver u v (connected s.moment) s (connection_makes_none s.moment) there)
  event_keeps s (event.DriverBytes v piece) o new step there none = subst (KeepsTime u s) (sym step.leaves) (record {
    moment = refl;
    max_age = refl;
    pinged = none_made _ (bytes_make_none s.moment v.place s.tracking piece (refused_after o)) v.place u.place
        s.upses there;
  })
  event_keeps s (event.DriverTook v n) o new step there none = subst (KeepsTime u s) (sym step.leaves)
      (of_driver u v (after_driver_took n) s (taking_makes_none n) there)
  event_keeps s (event.DriverDown v) o new step there none = subst (KeepsTime u s) (sym step.leaves)
      (of_driver u v disconnected s loss_makes_none there)
  event_keeps s (event.Tick seconds) o new step there none = absurd (none seconds refl)
  event_keeps s (event.Open address) o new step there none = subst (KeepsTime u s) (sym step.leaves)
      (opening_keeps u s address (refused_after o))
  event_keeps s (event.Feed c piece) o new step there none =
      of_client u s new (clients s new (event.Feed c piece) o c step refl).server
  event_keeps s (event.Took c n) o new step there none =
      of_client u s new (clients s new (event.Took c n) o c step refl).server
  event_keeps s (event.Close c) o new step there none =
      of_client u s new (clients s new (event.Close c) o c step refl).server
  event_keeps s (event.Id id) o new step there none = subst (KeepsTime u s) (sym step.leaves)
      (record { moment = refl; max_age = refl; pinged = omega arith })

-- the driver is connected, and nothing came of it since that moment, nor was it asked
record IsWaiting (u : UpsId) (last max_age : ℕ) (s : ServerState) : Type 0 where
  now : UpsState
  there : ups_at u.place s ≡ Some now
  is_connected : now.report.connected ≡ true
  last_is : now.report.heard ≡ last
  not_asked : now.pinged ≤ last
  before : s.moment < last + max_age / 3
  age_is : s.max_age ≡ max_age
  some : 0 < max_age / 3

early : (max_age moment : ℕ) (x : UpsState) → 0 < max_age / 3 → moment < x.report.heard + max_age / 3
    → ping_is_due max_age moment x ≡ false
early max_age moment x some few = by x.report.connected
  where
    not_yet : leb (max_age / 3) (moment - x.report.heard) ≡ false
    not_yet = grind (arith, nat_tests)

    by : (b : Bool) → (b && (leb (max_age / 3) (moment - x.report.heard) && (leb (max_age / 3) (moment - x.pinged)
        && leb (length x.owed + length ping_line) DRIVER_OWED_LIMIT))) ≡ false
    by true = rw not_yet refl
    by false = refl

tick_keeps : (u : UpsId) (last max_age seconds : ℕ) (s : ServerState) → IsWaiting u last max_age s →
    max seconds s.moment < last + max_age / 3 → pinged_of u (ticked seconds s) ≤ last
unfolding ticked
tick_keeps u last max_age seconds s w few =
    let moment : ℕ = max seconds s.moment in
    let none : ping_is_due s.max_age moment w.now ≡ false =
    early s.max_age moment w.now (rw w.age_is w.some) (rw (w.last_is, w.age_is) few) in
    let same : pinged_of u (ticked seconds s) ≡ w.now.pinged =
    ap pinged_in (slice_get-map (after_tick s.max_age moment) s.upses u.place
    ∙ ap (option_map (after_tick s.max_age moment)) w.there)
    ∙
    ap (λ (b : Bool). (if b then record w.now { pinged = moment; owed = w.now.owed ++ ping_line } else w.now).pinged)
    none in
    let few_pinged : w.now.pinged ≤ last = w.not_asked in
    rw same few_pinged

module _ (clients : AClientTouchesNoOther) (reported : WhatADriverReportedIsExecuted) (u : UpsId)
    (last max_age : ℕ) where
  no_ping_yet : (s : ServerState) (e : Event) (o : Outcome) (mid : ServerState) → IsWaiting u last max_age s →
      Step s e o mid → has_driver u s ≡ true → mid.moment < last + max_age / 3
      → (pinged_of u mid ≤ last) × (mid.max_age ≡ max_age)
  unfolding after_by ticked not_tick
  no_ping_yet s (event.Tick seconds) o mid w step there few =
      let same : max seconds s.moment ≡ mid.moment = sym (ap (λ (z : ServerState). z.moment) step.leaves) in (
        subst (λ z. pinged_of u z ≤ last) (sym step.leaves)
            (tick_keeps u last max_age seconds s w (rw same few)),
        ap (λ (z : ServerState). z.max_age) step.leaves ∙ w.age_is,
      )
  no_ping_yet s e o mid w step there few =
      let k = event_keeps clients u s e o mid step there (λ seconds e. cc e) in
      let now : pinged_of u s ≡ w.now.pinged = ap pinged_in w.there in
      let asked : w.now.pinged ≤ last = w.not_asked in
      let kept : pinged_of u mid ≤ pinged_of u s = k.pinged in
      (omega arith, k.max_age ∙ w.age_is)

  still_waits : (s : ServerState) (e : Event) (o : Outcome) (mid : ServerState) → IsWaiting u last max_age s →
      Step s e o mid → has_driver u s ≡ true → has_driver u mid ≡ true → heard_in_event u s e o ≡ []
      → mid.moment < last + max_age / 3 → IsWaiting u last max_age mid
  still_waits s e o mid w step there stays silent few =
      let told : DriverIsHeard u s (came u (e ∷ [])) (heard u s (e ∷ []) (o ∷ [])) mid =
      reported s mid (e ∷ []) (o ∷ []) u (mid, step, refl)
      (there, subst (λ z. has_driver u z ≡ true) step.leaves stays) in
      let same : told.before ≡ w.now = let both : Some told.before ≡ Some w.now =
      sym told.there_before ∙ w.there in cc both in
      let kept : told.after.report ≡ w.now.report =
      told.is_heard.report ∙ ap (after_heard told.before.report) (append-nil (heard_in_event u s e o) ∙ silent)
      ∙ ap (λ (x : UpsState). x.report) same in
      let p = no_ping_yet s e o mid w step there few in
      record {
        now = told.after;
        there = told.there_after;
        is_connected = ap (λ (r : Report). r.connected) kept ∙ w.is_connected;
        last_is = ap (λ (r : Report). r.heard) kept ∙ w.last_is;
        not_asked = subst (λ o. pinged_in o ≤ last) told.there_after p.0;
        before = few;
        age_is = p.1;
        some = w.some;
      }

  -- at the tick
  asks : (s : ServerState) (seconds : ℕ) (o : Outcome) → IsWaiting u last max_age s →
      last + max_age / 3 ≤ max seconds s.moment
      → (given_in_event u s (event.Tick seconds) o ≡ ping ∷ [])
      ⊎ (DRIVER_OWED_LIMIT < length (owed_to_driver u s) + length ping_line)
  unfolding executions_by
  asks s seconds o w over = by (leb (length w.now.owed + length ping_line) DRIVER_OWED_LIMIT) refl
    where
      owed_is : owed_to_driver u s ≡ w.now.owed
      owed_is = ap (λ (o : Option UpsState). option_map_or (λ (x : UpsState). x.owed) o []) w.there

      long : leb (s.max_age / 3) (max seconds s.moment - w.now.report.heard) ≡ true
      long = let e = w.last_is in let f = w.age_is in rw (e, f) (grind (arith, nat_tests))

      unasked : leb (s.max_age / 3) (max seconds s.moment - w.now.pinged) ≡ true
      unasked = let e = w.not_asked in let f = w.age_is in rw f (grind (arith, nat_tests))

      by : (b : Bool) → leb (length w.now.owed + length ping_line) DRIVER_OWED_LIMIT ≡ b
          → (given_in_event u s (event.Tick seconds) o ≡ ping ∷ [])
          ⊎ (DRIVER_OWED_LIMIT < length (owed_to_driver u s) + length ping_line)
      by true fits =
          let due : ping_is_due s.max_age (moment_of s seconds) w.now ≡ true =
          and_from _ _ w.is_connected (and_from _ _ long (and_from _ _ unasked fits)) in
          inl (ap (λ (o : Option UpsState).
          (if option_map_or (ping_is_due s.max_age (moment_of s seconds)) o false then ping ∷
          [] else []) ++ []) w.there
          ∙ ap (λ (b : Bool). (if b then ping ∷ [] else []) ++ []) due)
      by false full = inr (rw owed_is (grind (arith, nat_tests)))

  front_none : {A : Type 0} (xs ys : List A) → xs ++ ys ≡ [] → xs ≡ []
  front_none [] ys e = refl
  front_none (x ∷ xs) ys e = cc e

  rest_none : {A : Type 0} (xs ys : List A) → xs ++ ys ≡ [] → ys ≡ []
  rest_none [] ys e = e
  rest_none (x ∷ xs) ys e = cc e

  -- the tick comes later
  behind : (s mid : ServerState) (e : Event) (o : Outcome) (es : List Event) (os : List Outcome) →
      Step s e o mid → WasAsked u last max_age mid es os → WasAsked u last max_age s (e ∷ es) (o ∷ os)
  behind s mid e o es os step a = record {
    events_before = e ∷ a.events_before;
    seconds = a.seconds;
    events_after = a.events_after;
    outcomes_before = o ∷ a.outcomes_before;
    outcome = a.outcome;
    outcomes_after = a.outcomes_after;
    server = a.server;
    events_are = ap (λ (xs : List Event). e ∷ xs) a.events_are;
    outcomes_are = ap (λ (xs : List Outcome). o ∷ xs) a.outcomes_are;
    reached = (mid, step, a.reached);
    first = a.first;
    over = a.over;
    asked = a.asked;
    in_time = a.in_time;
  }

  at_tick : (s mid : ServerState) (e : Event) (o : Outcome) (es : List Event) (os : List Outcome) →
      IsWaiting u last max_age s → Step s e o mid → has_driver u s ≡ true → last + max_age / 3 ≤ mid.moment
      → WasAsked u last max_age s (e ∷ es) (o ∷ os)
  unfolding after_by ticked not_tick
  at_tick s mid (event.Tick seconds) o es os w step there over =
      let moment : mid.moment ≡ max seconds s.moment = ap (λ (z : ServerState). z.moment) step.leaves in
      let is_over : last + max_age / 3 ≤ max seconds s.moment = subst (λ m. last + max_age / 3 ≤ m) moment over in
      let before : s.moment < last + max_age / 3 = w.before in
      record {
        events_before = [];
        seconds = seconds;
        events_after = es;
        outcomes_before = [];
        outcome = o;
        outcomes_after = os;
        server = s;
        events_are = refl;
        outcomes_are = refl;
        reached = refl;
        first = before;
        over = is_over;
        asked = asks s seconds o w is_over;
        in_time = λ soon. omega arith;
      }
  at_tick s mid e o es os w step there over =
      let k = event_keeps clients u s e o mid step there (λ seconds e. cc e) in
      let moment : mid.moment ≡ s.moment = k.moment in
      let before : s.moment < last + max_age / 3 = w.before in
      absurd (omega arith)

  found : (s new : ServerState) (es : List Event) (os : List Outcome) → IsWaiting u last max_age s →
      Run s es os new → StaysConnected u s es os → heard u s es os ≡ [] → last + max_age / 3 ≤ new.moment
      → WasAsked u last max_age s es os
  found s new [] [] w run stays silent over =
      let moment : new.moment ≡ s.moment = ap (λ (z : ServerState). z.moment) run in
      let before : s.moment < last + max_age / 3 = w.before in
      absurd (omega arith)
  found s new (e ∷ es) (o ∷ os) w (mid, step, run) stays silent over =
      elim (cases_lt mid.moment (last + max_age / 3)) [
        | inr late ↦ at_tick s mid e o es os w step stays.0 late
        | inl early_still ↦
            let stays_behind : StaysConnected u mid es os =
            subst (λ z. StaysConnected u z es os) (sym step.leaves) stays.1 in
            behind s mid e o es os step
            (found mid new es os (still_waits s e o mid w step stays.0 (first_stays u mid es os stays_behind)
            (front_none (heard_in_event u s e o) (heard u (after s e o) es os) silent) early_still) run stays_behind
            (subst (λ z. heard u z es os ≡ []) (sym step.leaves)
            (rest_none (heard_in_event u s e o) (heard u (after s e o) es os) silent)) over)
      ]
  found s new [] (o ∷ os) w run stays silent over = absurd run
  found s new (e ∷ es) [] w run stays silent over = absurd run

pub asked_in_time : AClientTouchesNoOther → WhatADriverReportedIsExecuted → ASilentDriverIsAskedInTime
asked_in_time clients reported = λ u old new events outcomes h.
    let sound = each_get (IsSoundUps old.moment) old.upses u.place h.now h.there h.sound.upses in
    let pinged : h.now.pinged ≤ old.moment = sound.pinged in
    let least : MAX_AGE_LEAST ≤ old.max_age = h.sound.max_age.0 in
    found clients reported u old.moment old.max_age old new events outcomes (record {
      now = h.now;
      there = h.there;
      is_connected = subst (λ o. connected_in o ≡ true) h.there
          (first_stays u old events outcomes h.stays);
      last_is = h.last;
      not_asked = pinged;
      before = omega arith;
      age_is = refl;
      some = omega arith;
    }) h.run h.stays h.silent h.third
