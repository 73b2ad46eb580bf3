-- The data of a UPS that are answered are fresh, over every run from a new server.
use Rattle.std.proofs.Common.{◌≡◌, ◌⊎◌, ◌≤◌, ◌<◌, ◌+◌, ◌-◌, ◌/◌}
use Rattle.std.proofs.Common.{◌∙◌, ℕ, Bool, zero, suc, true, false, List, [], ◌∷◌}
use Rattle.std.proofs.Common.{◌++◌, Option, Some, Result, Ok, Err, refl, sym, ap, subst, map}
use Rattle.std.proofs.Common.{max, length, arith}
use Rattle.std.specs.Prelude.{codes, nat_eq, slice_get, option_map}
use Rattle.std.specs.List.{starts_with}
use Rattle.std.proofs.lemmas.Bool.Decides.{nat_tests}
use Rattle.std.proofs.lemmas.List.Elements.{All-weaker}
use Rattle.nutcore.proofs.Common.{same_Some, slice_get_within, UpsId, Event, Outcome, UpsState}
use Rattle.nutcore.proofs.Common.{ServerState, ups_at, Run, slice_get-map}
use Rattle.nutdriver.specs.declared.report.Report.{Report}
use Rattle.nutdriver.specs.Sound.{IsSoundTree}
use Rattle.nutdriver.specs.LastLine.{TheLastLineOnAVariableDecidesIt}
use Rattle.nutdriver.specs.Report.{Heard, connected_report, after_line, after_heard}
use Rattle.nutcommand.specs.declared.command.Command.{Command}
use Rattle.nutcommand.specs.declared.err_word.ErrWord.{ErrWord}
use Rattle.nutcommand.specs.Command.{read_command}
use Rattle.nutcommand.specs.ErrWord.{error_line}
use Rattle.nutanswer.specs.View.{UpsSeen, readiness, usable}
use Rattle.nutanswer.specs.Answer.{Answer, answer_to, text_of_answer}
use Rattle.nutanswer.specs.Laws.{WhatIsAnsweredIsFresh}
use Rattle.nutanswer.proofs.PublicLaws.{a_named_ups_is_seen}
use Rattle.nutcore.specs.declared.event.Event.TheVariants.{Feed, Took}
use Rattle.nutcore.specs.declared.TheConstants.{DRIVER_OWED_LIMIT}
use Rattle.nutcore.specs.Ups.{ping_line, after_tick}
use Rattle.nutcore.specs.Reply.{seen, seen_ups, asker, text_to, reply}
use Rattle.nutcore.specs.Step.{after_by, refused_after}
use Rattle.nutcore.specs.DriverEvents.{ticked}
use Rattle.nutcore.specs.History.{Execution, of_line, of_notice}
use Rattle.nutcore.specs.Headline.{IsInEvent, IsTimely}
use Rattle.nutcore.specs.Isolation.{ups_of, without_commands, kept_from_clients}
use Rattle.nutcore.specs.Sound.{IsSoundUps, IsSound, ANewServerIsSound, EveryRunKeepsTheServerSound}
use Rattle.nutcore.specs.DriverHistory.{bytes_heard}
use Rattle.nutcore.specs.DriverRuns.{IsNewServer, ConnectedInRun}
use Rattle.nutcore.specs.FreshRuns.{tick_of, greatest_tick, TheMomentIsTheGreatestTick, lines_since}
use Rattle.nutcore.specs.FreshRuns.{IsAnsweredFresh, WhateverIsAnsweredIsFresh}
use Rattle.nutcore.specs.FreshRuns.{WhatADriverSetLastIsHeld, ASilentDriverIsAsked}
use Rattle.nutcore.proofs.Addresses.{run_keeps_list}
use Rattle.nutcore.proofs.DriverRuns.{since_connecting}
use Rattle.nutcore.proofs.Changed.{of_opened}
use Rattle.nutcore.proofs.Events.{of_parts, any_driver}
use Rattle.nutcore.proofs.Executions.{each_answer_timely}
use Rattle.nutcore.proofs.SoundUps.{each_get, heard_line}
use Rattle.nutcore.proofs.Isolation.{own, kept_in_lines, kept_in_input, kept_in_output}

-- the moment and the greatest age after an event, and after a run
record IsTimed (tick : ℕ) (s t : ServerState) : Type 0 where
  moment : t.moment ≡ max tick s.moment
  max_age : t.max_age ≡ s.max_age

kept_timed : (s t : ServerState) → kept_from_clients t ≡ kept_from_clients s → IsTimed 0 s t
kept_timed s t kept = let moment = ap (λ (z : ServerState). z.moment) kept in
    record { moment = omega (arith, moment); max_age = ap (λ (z : ServerState). z.max_age) kept }

no_tick : (e : Event) (u : UpsId) → ups_of e ≡ Some u → tick_of e ≡ 0
no_tick e u h = grind arith

tick_timed : (s : ServerState) (seconds : ℕ) → IsTimed seconds s (ticked seconds s)
unfolding ticked
tick_timed s seconds = record { moment = refl; max_age = refl }

event_timed : (s : ServerState) (e : Event) (m : Option ℕ) → IsTimed (tick_of e) s (after_by s e m)
unfolding after_by
event_timed s e m =
    of_parts s m (λ f. Unit {0}) (any_driver s.moment s.tracking m) (λ e t. IsTimed (tick_of e) s t)
    (λ e u f lines its apart any. let none = no_tick e u its in
    record { moment = omega (arith, none); max_age = refl })
    (λ seconds. tick_timed s seconds)
    (λ address. of_opened (IsTimed 0 s) s address m (kept_timed s s refl)
    (λ may. record { moment = omega arith; max_age = refl }))
    (λ c piece. kept_timed s _ (own s (Feed c piece) m c refl).server)
    (λ c n. kept_timed s _ (own s (Took c n) m c refl).server)
    (λ c. record { moment = omega arith; max_age = refl }) (λ id. record { moment = omega arith; max_age = refl }) e

run_timed : (s t : ServerState) (es : List Event) (os : List Outcome) → Run s es os t →
    IsTimed (greatest_tick es) s t
run_timed s t [] [] r = subst (IsTimed 0 s) (sym r) (record { moment = omega arith; max_age = refl })
run_timed s t (e ∷ es) (o ∷ os) (mid, step, r) =
    let first = event_timed s e (refused_after o) in
    let moment : mid.moment ≡ max (tick_of e) s.moment =
    ap (λ (z : ServerState). z.moment) step.leaves ∙ first.moment in
    let rest = run_timed mid t es os r in
    let last : t.moment ≡ max (greatest_tick es) mid.moment = rest.moment in
    record {
      moment = omega (arith, moment, last);
      max_age = rest.max_age ∙
          ap (λ (z : ServerState). z.max_age) step.leaves ∙ first.max_age;
    }
run_timed s t es os r = absurd r

pub moment_is_greatest_tick : TheMomentIsTheGreatestTick
moment_is_greatest_tick old new es os is_new r =
    let timed = run_timed old new es os r in
    let moment : new.moment ≡ max (greatest_tick es) old.moment = timed.moment in
    let begins : old.moment ≡ 0 = ap (λ (z : ServerState). z.moment) is_new.is in
    record { moment = omega (arith, moment, begins); max_age = timed.max_age }

-- a report that is fresh is usable
ready_is : (moment max_age : ℕ) (x : Report) → x.connected ≡ true → x.dumped ≡ true →
    x.ok ≡ true → moment - x.heard ≤ max_age → readiness moment max_age x ≡ usable
ready_is moment max_age x connected dumped right recent = grind arith

-- so a report was heard when the last of its lines was
record IsLast (report : Report) (lines : List Heard) : Type 0 where
  earlier : List Heard
  last : Heard
  lines_are : lines ≡ earlier ++ last ∷ []
  at : report.heard ≡ last.moment

last_of : (report : Report) (x : Heard) (xs : List Heard) → IsLast (after_heard report (x ∷ xs)) (x ∷ xs)
last_of report x [] = record {
  earlier = [];
  last = x;
  lines_are = refl;
  at = ap (λ (z : ℕ × Bool). z.0) (heard_line x.moment report x.line);
}
last_of report x (y ∷ ys) =
    let more = last_of (after_line x.moment report x.line).0 y ys in
    record {
      earlier = x ∷ more.earlier;
      last = more.last;
      lines_are = ap (λ (zs : List Heard). x ∷ zs) more.lines_are;
      at = more.at;
    }

dumped_has_last : (moment : ℕ) (lines : List Heard) (report : Report) → report ≡
    after_heard (connected_report moment) lines → report.dumped ≡ true → IsLast report lines
dumped_has_last moment [] report is dumped = let never : false ≡ true =
    sym (ap (λ (r : Report). r.dumped) is) ∙ dumped in cc never
dumped_has_last moment (x ∷ xs) report is dumped =
    subst (λ (r : Report). IsLast r (x ∷ xs)) (sym is) (last_of (connected_report moment) x xs)

-- what stands at a place of a mapped list
pub record IsOf {A B : Type 0} (f : A → B) (xs : List A) (p : ℕ) (b : B) : Type 0 where
  pub of : A
  pub there : slice_get xs p ≡ Some of
  pub is : f of ≡ b

pub mapped_at : {A B : Type 0} (f : A → B) (xs : List A) (p : ℕ) (b : B) →
    slice_get (map f xs) p ≡ Some b → IsOf f xs p b
mapped_at f [] p b h = cc h
mapped_at f (x ∷ xs) zero b h = record { of = x; there = refl; is = same_Some (f x) b h }
mapped_at f (x ∷ xs) (suc p) b h = let more = mapped_at f xs p b h in
    record { of = more.of; there = more.there; is = more.is }

at_mapped : {A B : Type 0} (f : A → B) (xs : List A) (p : ℕ) (a : A) → slice_get xs p ≡
    Some a → slice_get (map f xs) p ≡ Some (f a)
at_mapped f xs p a h = slice_get-map f xs p ∙ ap (option_map f) h

-- what lines leave as it was before their event
kept_until : (s : ServerState) (e : Event) (t : ServerState) (c : ℕ) (line : List ℕ) →
    IsInEvent s e (of_line t c line) → kept_from_clients t ≡ kept_from_clients s
kept_until s (Feed d piece) t c line (own, k, is, next) = ap kept_from_clients is ∙
    kept_in_lines k d s _ (kept_in_input s d piece)
kept_until s (Took d n) t c line (own, k, is, next) = ap kept_from_clients is ∙
    kept_in_lines k d s _ (kept_in_output s d n)
kept_until s e t c line h = absurd h

-- what isn't answered by ERR has an answer
answer_there : (s : ServerState) (c : ℕ) (line : List ℕ) (command : Command) →
    read_command line ≡ Ok (Some command) →
    starts_with nat_eq (reply s c line) (codes "ERR") ≡ false → (answer : Answer) ×
    (answer_to (seen s) (asker c s) command ≡ Ok answer)
answer_there s c line command read kind = by_answer (answer_to (seen s) (asker c s) command) refl
  where
    by_answer : (r : Result Answer ErrWord) → answer_to (seen s) (asker c s) command ≡ r →
        (answer : Answer) × (answer_to (seen s) (asker c s) command ≡ Ok answer)
    by_answer (Ok answer) e = (answer, e)
    by_answer (Err word) e =
        let text : reply s c line ≡ error_line word = ap (text_to s c) read ∙ ap text_of_answer e in
        let begins : starts_with nat_eq (error_line word) (codes "ERR") ≡ true = refl in
        let never : true ≡ false = sym begins ∙
        ap (λ (w : List ℕ). starts_with nat_eq w (codes "ERR")) (sym text) ∙ kind in
        cc never

module _ (told : WhatIsAnsweredIsFresh) (opening : ANewServerIsSound)
    (keeps : EveryRunKeepsTheServerSound) (old : ServerState) (is_new : IsNewServer old) where
  sound_old : IsSound old
  sound_old = subst IsSound (sym is_new.is)
      (opening is_new.list is_new.users is_new.descriptions is_new.max_age is_new.is_list
      is_new.are_lawful is_new.is_max_age)

  -- a UPS that is there after a run was there before it
  there_before : (t : ServerState) (es : List Event) (os : List Outcome) (p : ℕ) (x : UpsState)
      → Run old es os t → ups_at p t ≡ Some x → p < length old.upses
  there_before t es os p x r there =
      let list = ap (λ xs. length xs) (run_keeps_list old t es os r) in
      omega (arith, list, slice_get_within t.upses p x there, (keeps old t es os r sound_old).named, sound_old.named)

  -- what a UPS's driver reported since it connected is what it reported to a UPS that has its
  -- report and its rest
  same_driver : (u : UpsId) (es : List Event) (os : List Outcome) (x y : UpsState) →
      without_commands x ≡ without_commands y → ConnectedInRun u old es os y → ConnectedInRun u old es os x
  same_driver u es os x y same k = record {
    events_before = k.events_before;
    outcomes_before = k.outcomes_before;
    server = k.server;
    events_since = k.events_since;
    outcomes_since = k.outcomes_since;
    events_are = k.events_are;
    outcomes_are = k.outcomes_are;
    reached = k.reached;
    connects = record {
      lost = k.connects.lost;
      there = k.connects.there;
      unconnected = k.connects.unconnected;
      stays = k.connects.stays;
      is_heard = record {
        whole = k.connects.is_heard.whole;
        all = k.connects.is_heard.all ∙
            ap (λ (z : UpsState). bytes_heard (lines_since k) ++ z.unfinished) (sym same);
        report = ap (λ (z : UpsState). z.report) same ∙ k.connects.is_heard.report;
        counted = λ few. ap (λ (z : UpsState). z.faulty) same ∙ k.connects.is_heard.counted few;
      };
    };
  }

  line_fresh : (es : List Event) (os : List Outcome) (x : Execution) → IsTimely old es os x →
      IsAnsweredFresh old es os x
  line_fresh es os (of_notice s c) t = tt
  line_fresh es os (of_line s c line) t = λ command ups read asks kind.
      let (answer, given) = answer_there s c line command read kind in
      let (known, named, fresh) = told (seen s) (asker c s) command ups answer asks given in
      let u : UpsId = known.id in
      let seen_at = mapped_at seen_ups s.upses u.place known.state
      (a_named_ups_is_seen (seen s) ups known named).stands in
      let x : UpsState = seen_at.of in
      let report : x.report ≡ known.state.report = ap (λ (z : UpsSeen). z.report) seen_at.is in
      let kept : kept_from_clients s ≡ kept_from_clients t.server = kept_until t.server t.event s c line t.executed in
      let was_at = mapped_at without_commands t.server.upses u.place (without_commands x)
      (ap (λ (z : ServerState). slice_get z.upses u.place) (sym kept) ∙
      at_mapped without_commands s.upses u.place x seen_at.there) in
      let y : UpsState = was_at.of in
      let stands = since_connecting opening keeps old t.server t.events_before t.outcomes_before u is_new
      (there_before t.server t.events_before t.outcomes_before u.place y t.reached was_at.there) t.reached in
      let same : stands.now ≡ y = same_Some stands.now y (sym stands.there ∙ was_at.there) in
      let connected : stands.now.report.connected ≡ true =
      ap (λ (z : UpsState). z.report.connected) (ap without_commands same ∙ was_at.is) ∙
      ap (λ (z : Report). z.connected) report ∙ fresh.connected in
      let run = same_driver u t.events_before t.outcomes_before x stands.now
      (sym was_at.is ∙ ap without_commands (sym same)) (stands.connected connected) in
      let dumped : x.report.dumped ≡ true = ap (λ (z : Report). z.dumped) report ∙ fresh.dumped in
      let last = dumped_has_last run.server.moment (lines_since run) x.report run.connects.is_heard.report dumped in
      let timed = run_timed old t.server t.events_before t.outcomes_before t.reached in
      let moment : s.moment ≡ t.server.moment = ap (λ (z : ServerState). z.moment) kept in
      let was : t.server.moment ≡ max (greatest_tick t.events_before) old.moment = timed.moment in
      let age : s.max_age ≡ old.max_age = ap (λ (z : ServerState). z.max_age) kept ∙ timed.max_age in
      let heard : known.state.report.heard ≡ last.last.moment =
      ap (λ (z : Report). z.heard) (sym report) ∙ last.at in
      let within : s.moment - known.state.report.heard ≤ s.max_age = fresh.heard in
      record {
        known = known;
        named = named;
        ready = ready_is s.moment s.max_age known.state.report fresh.connected fresh.dumped fresh.ok fresh.heard;
        sound = subst (λ (r : Report). IsSoundTree r.tree)
            (ap (λ (z : UpsState). z.report) was_at.is ∙ report)
            (each_get (IsSoundUps t.server.moment) t.server.upses u.place y was_at.there
            (keeps old t.server t.events_before t.outcomes_before t.reached sound_old).upses).tree;
        timely = t;
        is = sym seen_at.is;
        fresh = record {
          now = x;
          there = seen_at.there;
          connected = run;
          dumped = dumped;
          ok = ap (λ (z : Report). z.ok) report ∙ fresh.ok;
          earlier = last.earlier;
          last = last.last;
          lines_are = last.lines_are;
          recent = omega (arith, moment, was, age, heard, within);
        };
      }

pub whatever_is_answered_is_fresh : WhatIsAnsweredIsFresh → ANewServerIsSound →
    EveryRunKeepsTheServerSound → WhateverIsAnsweredIsFresh
whatever_is_answered_is_fresh told opening keeps old new es os is_new r =
    All-weaker (IsTimely old es os) (IsAnsweredFresh old es os)
    (line_fresh told opening keeps old is_new es os) _ (each_answer_timely old new es os r)

-- what a driver set last
pub set_last_is_held : TheLastLineOnAVariableDecidesIt → WhatADriverSetLastIsHeld
set_last_is_held decides old es os u now name k = grind arith

-- a tick asks who reported nothing for a third of the greatest age
abbrev IsAskedOrFull : UpsState → Type 0
IsAskedOrFull x = (x.report.heard < x.pinged) ⊎ (DRIVER_OWED_LIMIT < length x.owed + length ping_line)

tick_asks : (max_age moment : ℕ) (x : UpsState) → 3 ≤ max_age →
    (after_tick max_age moment x).report.connected ≡ true →
    (after_tick max_age moment x).report.heard + max_age / 3 ≤ moment → IsAskedOrFull (after_tick max_age moment x)
tick_asks max_age moment x some connected silent = grind (arith, nat_tests)

pub silent_asked : ASilentDriverIsAsked
unfolding after_by ticked
silent_asked old new seconds outcome u x sound step there connected silent =
    let moment : ℕ = max seconds old.moment in
    let at = mapped_at (after_tick old.max_age moment) old.upses u.place x
    (sym (ap (ups_at u.place) step.leaves) ∙ there) in
    let now : x.report.heard + old.max_age / 3 ≤ moment =
    subst (λ (s : ServerState). x.report.heard + old.max_age / 3 ≤ s.moment) step.leaves silent in
    subst IsAskedOrFull at.is
    (tick_asks old.max_age moment at.of sound.max_age.0
    (subst (λ (z : UpsState). z.report.connected ≡ true) (sym at.is) connected)
    (subst (λ (z : UpsState). z.report.heard + old.max_age / 3 ≤ moment) (sym at.is) now))
