-- What a driver reported, was given and was sent over whole runs: since it connected, up to its
-- loss, and the count of its refused lines.
use Rattle.std.proofs.Common.{◌≡◌, ◌∙◌, ◌+◌, ℕ, true, false, List, [], ◌∷◌}
use Rattle.std.proofs.Common.{◌++◌, Option, Some, refl, sym, ap, subst, min, append_assoc}
use Rattle.std.proofs.Common.{append-nil, arith, Bool, not, ◌&&◌, ◌≤◌, ◌<◌, length}
use Rattle.std.proofs.Common.{inl, inr}
use Rattle.nutcore.proofs.Common.{option_map_or, flat_map-append, same_Some, UpsId, Event, Outcome}
use Rattle.nutcore.proofs.Common.{ServerState, ups_at, after, Run, UpsState, never_both}
use Rattle.nutdriver.specs.declared.report.Report.{Report}
use Rattle.nutdriver.specs.Report.{after_line, lost_report}
use Rattle.nutwords.specs.SplitLine.{with_lf}
use Rattle.nutcore.specs.Ups.{UpsState, greatest_count, new_ups, after_connecting}
use Rattle.nutcore.specs.DriverHistory.{Heard, heard_in_event, heard, bytes_heard, after_heard}
use Rattle.nutcore.specs.DriverHistory.{refused_among, IsWholeLine, came_in_event, came, has_driver}
use Rattle.nutcore.specs.DriverHistory.{StaysConnected, IsHeard, WhatADriverReportedIsExecuted}
use Rattle.nutcore.proofs.UpsPlaces.{read_off, Stands, within}
use Rattle.nutcore.proofs.DriverChanges.{count_is_few, both_counts, Does}
use Rattle.nutcore.proofs.Events.{each}
use Rattle.nutcore.proofs.DriverSteps.{IsThere}
use Rattle.nutcore.proofs.SoundUps.{each_join, each_get, each_same}
use Rattle.nutcore.specs.Sound.{IsSoundUps, IsSound, EachEventKeepsTheServerSound, Each}
use Rattle.nutcore.specs.Sound.{ANewServerIsSound, EveryRunKeepsTheServerSound}
use Rattle.nutcore.specs.DriverOrders.{ServerLine, texts_of, given_in_event, owed_to_driver}
use Rattle.nutcore.specs.DriverOrders.{taken_in_event, is_lost_by, Connections, last, lost}
use Rattle.nutcore.specs.DriverOrders.{with_front, in_front, connections, IsSentAndOwed}
use Rattle.nutcore.specs.DriverOrders.{WhatADriverWasSentAndIsOwedIsWhatItWasGiven}
use Rattle.std.specs.Prelude.{◌⊎◌}
use Rattle.nutcore.specs.declared.event.Event.TheVariants.{DriverUp}
use Rattle.nutcore.specs.declared.event.Outcome.TheVariants.{Done}
use Rattle.nutcore.specs.Step.{Step, MayAnswer, MayLackMemory, outcome_of, after}
use Rattle.nutcore.specs.DriverRuns.{IsNewServer, ConnectsHere, ConnectedInRun}
use Rattle.nutcore.specs.DriverRuns.{WhatCameSinceConnectingIsExecuted}
use Rattle.nutcore.specs.DriverRuns.{ALostDriversLinesAreABeginning, WhichLinesAreRefused, count_of}
use Rattle.nutcore.specs.DriverRuns.{refused_lines, RefusedLinesAreCounted}
use Rattle.nutcore.specs.DriverRuns.{ANewServerCountsAllRefusedLines}
use Rattle.std.proofs.lemmas.Bool.{cases_Bool}

pub has_it : (u : UpsId) (s : ServerState) (x : UpsState) → ups_at u.place s ≡ Some x →
    has_driver u s ≡ x.report.connected
has_it u s x there = read_off (λ (y : UpsState). y.report.connected) false u s x there

-- runs
after_both : (report : Report) (xs ys : List Heard) → after_heard report (xs ++ ys) ≡
    after_heard (after_heard report xs) ys
after_both report [] ys = refl
after_both report (x ∷ xs) ys = after_both (after_line x.moment report x.line).0 xs ys

refused_both : (report : Report) (xs ys : List Heard) → refused_among report (xs ++ ys) ≡
    refused_among report xs + refused_among (after_heard report xs) ys
refused_both report [] ys = omega arith
refused_both report (x ∷ xs) ys = omega (arith, refused_both (after_line x.moment report x.line).0 xs ys)

pub bytes_both : (xs ys : List Heard) → bytes_heard (xs ++ ys) ≡ bytes_heard xs ++ bytes_heard ys
bytes_both xs ys = flat_map-append (λ (x : Heard). with_lf x.line) xs ys

heard_both : (x y z : UpsState) (a b : List ℕ) (ls ms : List Heard) → IsHeard x a ls y →
    IsHeard y b ms z → IsHeard x (a ++ b) (ls ++ ms) z
heard_both x y z a b ls ms f g = record {
  whole = each_join IsWholeLine ls ms f.whole g.whole;
  all =
      sym (append_assoc x.unfinished a b) ∙ ap (λ (w : List ℕ). w ++ b) f.all ∙
      append_assoc (bytes_heard ls) y.unfinished b
      ∙ ap (λ (w : List ℕ). bytes_heard ls ++ w) g.all ∙
      sym (append_assoc (bytes_heard ls) (bytes_heard ms) z.unfinished)
      ∙ ap (λ (w : List ℕ). w ++ z.unfinished) (sym (bytes_both ls ms));
  report = g.report ∙ ap (λ (r : Report). after_heard r ms) f.report ∙ sym (after_both x.report ls ms);
  counted = λ few.
      let first = f.counted few in
      let more = g.counted (count_is_few (x.faulty + refused_among x.report ls) y.faulty greatest_count first) in
      both_counts x.faulty y.faulty z.faulty (refused_among x.report ls)
      (refused_among (after_heard x.report ls) ms) greatest_count first
      (more ∙ ap (λ (r : Report). min (y.faulty + refused_among r ms) greatest_count) f.report)
      ∙ ap (λ (n : ℕ). min (x.faulty + n) greatest_count) (sym (refused_both x.report ls ms));
}

driver_there : (u : UpsId) (s : ServerState) → has_driver u s ≡ true → IsThere s u true
driver_there u s h = grind arith

pub first_stays : (u : UpsId) (s : ServerState) (es : List Event) (os : List Outcome) →
    StaysConnected u s es os → has_driver u s ≡ true
first_stays u s (e ∷ es) (o ∷ os) h = h.0
first_stays u s es os h = h

pub reported_is_executed : WhatADriverReportedIsExecuted
reported_is_executed old new [] [] u r stays =
    let x = driver_there u old stays in
    let none : IsHeard x.ups [] [] x.ups =
    record { whole = tt; all = append-nil x.ups.unfinished; report = refl; counted = λ few. omega (arith, few) } in
    record {
      before = x.ups;
      after = x.ups;
      there_before = x.there;
      there_after = ap (ups_at u.place) r ∙ x.there;
      is_heard = none;
    }
reported_is_executed old new (e ∷ es) (o ∷ os) u (mid, step, r) stays =
    let next : ServerState = after old e o in
    let x = driver_there u old stays.0 in
    let first = (each old e).leaves u o x.ups x.there in
    let still : first.ups.report.connected ≡ true = sym (has_it u next first.ups first.there) ∙
    first_stays u next es os stays.1 in
    let rest = reported_is_executed next new es os u
    (subst (λ (z : ServerState). Run z es os new) step.leaves r) stays.1 in
    let same : rest.before ≡ first.ups = same_Some rest.before first.ups (sym rest.there_before ∙ first.there) in
    record {
      before = x.ups;
      after = rest.after;
      there_before = x.there;
      there_after = rest.there_after;
      is_heard =
          heard_both x.ups first.ups rest.after (came_in_event u e) (came u es)
          (heard_in_event u old e o) (heard u next es os) (first.is.stays x.is still)
          (subst (λ (y : UpsState). IsHeard y (came u es) (heard u next es os) rest.after) same rest.is_heard);
    }
reported_is_executed old new es os u r stays = absurd r

owed_nothing : (u : UpsId) (s : ServerState) (x : UpsState) → IsSound s → ups_at u.place s ≡
    Some x → x.report.connected ≡ false → x.owed ≡ []
owed_nothing u s x sound there gone =
    ap (λ (y : UpsState). y.owed) ((each_get (IsSoundUps s.moment) s.upses u.place x there sound.upses).lost gone)

lost_is : (a b : Bool) → (a && not b) ≡ true → b ≡ false
lost_is a b e = grind arith

joined : (before : List ℕ) (told more : List ServerLine) (taken between : List ℕ) → before ++
    texts_of told ≡ taken ++ between → before ++ texts_of (told ++ more) ≡ taken ++ (between ++ texts_of more)
joined before told more taken between e =
    ap (λ (z : List ℕ). before ++ z) (flat_map-append _ told more) ∙
    sym (append_assoc before (texts_of told) (texts_of more)) ∙
    ap (λ (z : List ℕ). z ++ texts_of more) e ∙ append_assoc taken between (texts_of more)

in_front_owed : (before after : List ℕ) (told : List ServerLine) (taken between : List ℕ)
    (later : Connections) → before ++ texts_of told ≡ taken ++ between →
    IsSentAndOwed between later after → IsSentAndOwed before (with_front told taken later) after
in_front_owed before after told taken between (last now) e h =
    joined before told now.given taken between e ∙ ap (λ (z : List ℕ). taken ++ z) h ∙
    sym (append_assoc taken now.taken after)
in_front_owed before after told taken between (lost first later) e ((rest, h), more) = (
  (
    rest,
    append_assoc taken first.taken rest ∙ ap (λ (z : List ℕ). taken ++ z) h ∙
        sym (joined before told first.given taken between e),
  ),
  more,
)

event_sent : (u : UpsId) (s : ServerState) (e : Event) (o : Outcome) (x : UpsState)
    (owed : List ℕ) (later : Connections) → ups_at u.place s ≡ Some x
    → (l : Stands u.place (after s e o).upses
    (Does s.moment u e x (came_in_event u e) (heard_in_event u s e o) (given_in_event u s e o)
    (taken_in_event u s e))) → (x.report.connected ≡ false → x.owed ≡ [])
    → (l.ups.report.connected ≡ false → l.ups.owed ≡ []) →
    IsSentAndOwed l.ups.owed later owed →
    IsSentAndOwed x.owed (in_front (is_lost_by u s e o) (given_in_event u s e o) (taken_in_event u s e) later) owed
event_sent u s e o x owed later there l before nothing rest = by_loss (is_lost_by u s e o) refl
  where
    lost_here : is_lost_by u s e o ≡ (x.report.connected && not l.ups.report.connected)
    lost_here = ap (λ (b : Bool). b && not (has_driver u (after s e o))) (has_it u s x there) ∙
        ap (λ (b : Bool). x.report.connected && not b) (has_it u (after s e o) l.ups l.there)

    by_loss : (b : Bool) → is_lost_by u s e o ≡ b →
        IsSentAndOwed x.owed (in_front b (given_in_event u s e o) (taken_in_event u s e) later) owed
    by_loss true k = (
      l.is.takes,
      subst (λ (z : List ℕ). IsSentAndOwed z later owed)
          (nothing (lost_is x.report.connected l.ups.report.connected (sym lost_here ∙ k))) rest,
    )
    by_loss false k = in_front_owed x.owed owed (given_in_event u s e o) (taken_in_event u s e)
        l.ups.owed later (l.is.owes before (sym lost_here ∙ k)) rest

run_sent : EachEventKeepsTheServerSound →
    (old new : ServerState) (es : List Event) (os : List Outcome) (u : UpsId) (x : UpsState) →
    IsSound old → ups_at u.place old ≡ Some x → Run old es os new
    → IsSentAndOwed x.owed (connections u old es os) (owed_to_driver u new)
run_sent keeps old new [] [] u x sound there r = append-nil x.owed ∙
    sym (read_off (λ (y : UpsState). y.owed) [] u new x (ap (ups_at u.place) r ∙ there))
run_sent keeps old new (e ∷ es) (o ∷ os) u x sound there (mid, step, r) =
    let next : ServerState = after old e o in
    let sound_next : IsSound next = subst IsSound step.leaves (keeps old mid e o step sound) in
    let l = (each old e).leaves u o x there in
    let rest = run_sent keeps next new es os u l.ups sound_next l.there
    (subst (λ (z : ServerState). Run z es os new) step.leaves r) in
    event_sent u old e o x (owed_to_driver u new) (connections u next es os) there l
    (owed_nothing u old x sound there) (owed_nothing u next l.ups sound_next l.there) rest
run_sent keeps old new es os u x sound there r = absurd r

pub sent_to_drivers : EachEventKeepsTheServerSound → WhatADriverWasSentAndIsOwedIsWhatItWasGiven
sent_to_drivers keeps old new es os u sound few r =
    let x = within u.place old.upses few in
    subst (λ (z : List ℕ). IsSentAndOwed z (connections u old es os) (owed_to_driver u new))
    (sym (read_off (λ (y : UpsState). y.owed) [] u old x.ups x.there))
    (run_sent keeps old new es os u x.ups sound x.there r)

-- a new server
abbrev IsNew : UpsState → Type 0
IsNew x = x ≡ new_ups

new_at : (s : ServerState) (u : UpsId) → IsNewServer s → u.place < length s.upses →
    ups_at u.place s ≡ Some new_ups
new_at s u new few =
    let x = within u.place s.upses few in
    let all : Each IsNew s.upses = rw new.is (each_same IsNew new_ups refl (length new.list)) in
    grind (arith, each_get IsNew s.upses u.place x.ups x.there all)

-- a connection begins
up_done : (u : UpsId) (s : ServerState) (o : Outcome) (x : UpsState) → ups_at u.place s ≡
    Some x → x.report.connected ≡ false → MayAnswer s (DriverUp u) o → o ≡ Done
unfolding outcome_of MayLackMemory
up_done u s o x there absent may = grind arith

begins_here : (u : UpsId) (s : ServerState) (e : Event) (o : Outcome) (es : List Event)
    (os : List Outcome) (now : UpsState) → e ≡ DriverUp u → o ≡ Done →
    ConnectsHere u s es os now → ConnectedInRun u s (e ∷ es) (o ∷ os) now
begins_here u s e o es os now is done connects =
    record {
      events_before = [];
      outcomes_before = [];
      server = s;
      events_since = es;
      outcomes_since = os;
      events_are = ap (λ (z : Event). z ∷ es) is;
      outcomes_are = ap (λ (z : Outcome). z ∷ os) done;
      reached = refl;
      connects = connects;
    }

-- it began later
later : (u : UpsId) (s next : ServerState) (e : Event) (o : Outcome) (es : List Event)
    (os : List Outcome) (now : UpsState) → Step s e o next → ConnectedInRun u next es os now →
    ConnectedInRun u s (e ∷ es) (o ∷ os) now
later u s next e o es os now step h =
    record {
      events_before = e ∷ h.events_before;
      outcomes_before = o ∷
          h.outcomes_before;
      server = h.server;
      events_since = h.events_since;
      outcomes_since = h.outcomes_since;
      events_are = ap (λ (z : List Event). e ∷ z) h.events_are;
      outcomes_are = ap (λ (z : List Outcome). o ∷ z) h.outcomes_are;
      reached = (next, step, h.reached);
      connects = h.connects;
    }

-- how a UPS stands after a run: without a driver, with one that was never lost, or with one that
-- connected in the run
abbrev How : UpsId → ServerState → List Event → List Outcome → UpsState → Type 0
How u s es os now = (now.report.connected ≡ false) ⊎ (StaysConnected u s es os ⊎ ConnectedInRun u s es os now)

earlier : (u : UpsId) (s new : ServerState) (e : Event) (o : Outcome) (es : List Event)
    (os : List Outcome) (x now : UpsState) → ups_at u.place s ≡ Some x →
    ups_at u.place new ≡ Some now → Step s e o (after s e o) → Run (after s e o) es os new
    → How u (after s e o) es os now → How u s (e ∷ es) (o ∷ os) now
earlier u s new e o es os x now there at step run (inl gone) = inl gone
earlier u s new e o es os x now there at step run (inr (inr h)) =
    inr (inr (later u s (after s e o) e o es os now step h))
earlier u s new e o es os x now there at step run (inr (inl stays)) = by_driver x.report.connected refl
  where
    by_driver : (b : Bool) → x.report.connected ≡ b → How u s (e ∷ es) (o ∷ os) now
    by_driver true is = inr (inl (has_it u s x there ∙ is, stays))
    by_driver false absent =
        let next : ServerState = after s e o in
        let l = (each s e).leaves u o x there in
        let still : l.ups.report.connected ≡ true = sym (has_it u next l.ups l.there) ∙
        first_stays u next es os stays in
        let begun = l.is.begins absent still in
        let told = reported_is_executed next new es os u run stays in
        let before : told.before ≡ after_connecting s.moment x =
        same_Some told.before l.ups (sym told.there_before ∙ l.there) ∙ begun.1 in
        let after_it : told.after ≡ now = same_Some told.after now (sym told.there_after ∙ at) in
        let done : o ≡ Done = up_done u s o x there absent
        (subst (λ (z : Event). MayAnswer s z o) begun.0 step.allowed) in
        let same : next ≡ after s (DriverUp u) Done = ap (λ (z : Event). after s z o) begun.0 ∙
        ap (λ (z : Outcome). after s (DriverUp u) z) done in
        inr (inr (begins_here u s e o es os now begun.0 done (record {
          lost = x;
          there = there;
          unconnected = absent;
          stays = subst (λ (t : ServerState). StaysConnected u t es os) same stays;
          is_heard =
              subst (λ (t : ServerState). IsHeard (after_connecting s.moment x) (came u es) (heard u t es os) now) same
              (subst (λ (y : UpsState). IsHeard y (came u es) (heard u next es os) now) before
              (subst (IsHeard told.before (came u es) (heard u next es os)) after_it told.is_heard));
        })))

stands : (old new : ServerState) (es : List Event) (os : List Outcome) (u : UpsId) (x : UpsState)
    → ups_at u.place old ≡ Some x → Run old es os new → Stands u.place new.upses (How u old es os)
stands old new [] [] u x there r =
    record {
      ups = x;
      there = ap (ups_at u.place) r ∙ there;
      is =
          elim (cases_Bool x.report.connected)
          [ inl is ↦ inr (inl (has_it u old x there ∙ is)) | inr gone ↦ inl gone ];
    }
stands old new (e ∷ es) (o ∷ os) u x there (mid, step, r) =
    let next : ServerState = after old e o in
    let l = (each old e).leaves u o x there in
    let run : Run next es os new = subst (λ (t : ServerState). Run t es os new) step.leaves r in
    let rest = stands next new es os u l.ups l.there run in
    record {
      ups = rest.ups;
      there = rest.there;
      is = earlier u old new e o es os x rest.ups there rest.there (subst (Step old e o) step.leaves step) run rest.is;
    }
stands old new es os u x there r = absurd r

pub since_connecting : ANewServerIsSound → EveryRunKeepsTheServerSound → WhatCameSinceConnectingIsExecuted
since_connecting opening keeps old new es os u is_new few r = record {
  now = end.ups;
  there = end.there;
  unconnected = λ gone. (each_get (IsSoundUps new.moment) new.upses u.place end.ups end.there sound.upses).lost gone;
  connected = by_how end.is;
}
  where
    at : ups_at u.place old ≡ Some new_ups
    at = new_at old u is_new few

    end : Stands u.place new.upses (How u old es os)
    end = stands old new es os u new_ups at r

    sound : IsSound new
    sound = keeps old new es os r (subst IsSound (sym is_new.is)
        (opening is_new.list is_new.users is_new.descriptions is_new.max_age is_new.is_list
        is_new.are_lawful is_new.is_max_age))

    by_how : How u old es os end.ups → end.ups.report.connected ≡ true → ConnectedInRun u old es os end.ups
    by_how (inl gone) is = never_both end.ups.report.connected is gone
    by_how (inr (inl stays)) is = never_both (has_driver u old) (first_stays u old es os stays)
        (has_it u old new_ups at)
    by_how (inr (inr h)) is = h

-- up to a loss
last_stays : (u : UpsId) (old new : ServerState) (es : List Event) (os : List Outcome) →
    Run old es os new → StaysConnected u old es os → has_driver u new ≡ true
last_stays u old new [] [] r stays = ap (has_driver u) r ∙ stays
last_stays u old new (e ∷ es) (o ∷ os) (mid, step, r) stays =
    last_stays u (after old e o) new es os (subst (λ (t : ServerState). Run t es os new) step.leaves r) stays.1
last_stays u old new es os r stays = absurd r

pub lost_lines_begin : ALostDriversLinesAreABeginning
lost_lines_begin old mid new es os e o u r stays step gone =
    let told = reported_is_executed old mid es os u r stays in
    let l = (each mid e).leaves u o told.after told.there_after in
    let was : told.after.report.connected ≡ true =
    sym (has_it u mid told.after told.there_after) ∙ last_stays u old mid es os r stays in
    let lost : l.ups.report.connected ≡ false = sym (has_it u (after mid e o) l.ups l.there) ∙
    ap (has_driver u) (sym step.leaves) ∙ gone in
    let begins = l.is.loses was lost in
    let lines : List Heard = heard u old es os in
    let more : List Heard = heard_in_event u mid e o in
    let piece : List ℕ = came_in_event u e in (
      begins.0,
      ap (λ (z : List ℕ). z ++ begins.0) (bytes_both lines more) ∙
          append_assoc (bytes_heard lines) (bytes_heard more) begins.0 ∙
          ap (λ (z : List ℕ). bytes_heard lines ++ z) begins.1
          ∙ sym (append_assoc (bytes_heard lines) told.after.unfinished piece) ∙
          ap (λ (z : List ℕ). z ++ piece) (sym told.is_heard.all) ∙
          append_assoc told.before.unfinished (came u es) piece
          ∙ ap (λ (a : Option UpsState). option_map_or (λ (y : UpsState). y.unfinished) a [] ++
          (came u es ++ piece)) (sym told.there_before),
    )

-- which lines are refused
pub which_are_refused : WhichLinesAreRefused
which_are_refused = grind arith

-- they are counted
run_counts : (old new : ServerState) (es : List Event) (os : List Outcome) (u : UpsId)
    (x : UpsState) → ups_at u.place old ≡ Some x → x.faulty ≤ greatest_count →
    Run old es os new → count_of u new ≡ min (x.faulty + refused_lines u old es os) greatest_count
run_counts old new [] [] u x there few r = let same =
    read_off (λ (y : UpsState). y.faulty) 0 u new x (ap (ups_at u.place) r ∙ there) in omega (arith, same, few)
run_counts old new (e ∷ es) (o ∷ os) u x there few (mid, step, r) =
    let next : ServerState = after old e o in
    let lines : List Heard = heard_in_event u old e o in
    let l = (each old e).leaves u o x there in
    let one : l.ups.faulty ≡ min (x.faulty + refused_among x.report lines) greatest_count = l.is.counted few in
    let rest = run_counts next new es os u l.ups l.there
    (count_is_few (x.faulty + refused_among x.report lines) l.ups.faulty greatest_count one)
    (subst (λ (t : ServerState). Run t es os new) step.leaves r) in
    both_counts x.faulty l.ups.faulty (count_of u new) (refused_among x.report lines)
    (refused_lines u next es os) greatest_count one rest
    ∙ ap (λ (a : Option UpsState). min
    (x.faulty + (refused_among (option_map_or (λ (y : UpsState). y.report) a lost_report) lines +
    refused_lines u next es os)) greatest_count) (sym there)
run_counts old new es os u x there few r = absurd r

pub refused_are_counted : RefusedLinesAreCounted
refused_are_counted old new es os u there few r =
    let x = within u.place old.upses there in
    subst (λ (n : ℕ). n ≤ greatest_count → count_of u new ≡
    min (n + refused_lines u old es os) greatest_count)
    (sym (read_off (λ (y : UpsState). y.faulty) 0 u old x.ups x.there))
    (λ k. run_counts old new es os u x.ups x.there k r) few

pub new_counts_all : ANewServerCountsAllRefusedLines
new_counts_all old new es os u is_new there r = let counted =
    run_counts old new es os u new_ups (new_at old u is_new there) (omega arith) r in omega (arith, counted)
