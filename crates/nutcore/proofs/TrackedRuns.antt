-- What is tracked comes of what a run did.
use Rattle.std.proofs.Common.{arith, ◌≡◌, ◌∙◌, ℕ, Bool, true, false, ◌&&◌, cond}
use Rattle.std.proofs.Common.{List, [], ◌∷◌, ◌++◌, Option, refl, sym, ap, subst, map}
use Rattle.std.proofs.Common.{append-nil}
use Rattle.std.specs.List.{flat_map}
use Rattle.nuttracking.specs.Acts.{Act, after_act, after_acts, given}
use Rattle.nuttracking.specs.Acts.Act.{ordered}
use Rattle.nuttracking.specs.Laws.{as_given}
use Rattle.nuttracking.specs.Sound.{IsSoundTracking}
use Rattle.nuttracking.specs.Tracking.{nothing_tracked, progress_of}
use Rattle.nuttracking.proofs.PublicLaws.{nothing_is_sound, acts_keep_it_sound, first_in_first_out}
use Rattle.nuttracking.proofs.PublicLaws.{the_last_are_kept, its_driver_settles_it_once}
use Rattle.nutcore.proofs.Common.{option_map_or, flat_map-append, UpsId, TrackingState, Change}
use Rattle.nutcore.proofs.Common.{Event, Outcome, UpsState, ServerState, session, ups_at, after}
use Rattle.nutcore.specs.declared.event.Event.TheVariants.{DriverBytes, Open, Feed, Took}
use Rattle.nutwords.specs.WholeLines.{whole_lines}
use Rattle.nutdriver.specs.Report.{OrderEnd, end_in}
use Rattle.nutcore.specs.Reports.{with_end, after_ends}
use Rattle.nutcore.specs.Reply.{changed_tracking}
use Rattle.nutcore.specs.Pump.{notified}
use Rattle.nutcore.specs.Step.{joined, with_input, taken_from, without_output, may_take}
use Rattle.nutcore.specs.Step.{pumped_until, after_by, refused_after}
use Rattle.nutcore.specs.DriverEvents.{ticked}
use Rattle.nutcore.specs.History.{Execution, executions_until, executions_by}
use Rattle.nutcore.specs.DriverHistory.{Heard, heard_at, has_driver}
use Rattle.nutcore.specs.TrackedRuns.{act_of_end, act_of_change, act_of, acts_in_event, acts}
use Rattle.nutcore.specs.TrackedRuns.{WhatIsTrackedComesOfTheActs, EachRunTracksItsOrders}
use Rattle.nutcore.proofs.Changed.{by_change, of_opened}
use Rattle.nutcore.specs.Ups.{as_far}
use Rattle.nutcore.specs.DriverEvents.{lines_read}
use Rattle.nutcore.proofs.DriverText.{bytes_change}
use Rattle.nutcore.proofs.Histories.{IsOfPump, until_keeps, later}
use Rattle.nutcore.proofs.Pumping.{is_next, after_line_is, change_at}
use Rattle.std.proofs.lemmas.Bool.{eq-eqb}

-- acts after others
after_both : (t : TrackingState) (xs ys : List Act) → after_acts t (xs ++ ys) ≡ after_acts (after_acts t xs) ys
after_both t [] ys = refl
after_both t (x ∷ xs) ys = after_both (after_act t x) xs ys

-- lines of a driver
one_end : (place : ℕ) (o : Option OrderEnd) (t : TrackingState) → with_end place o t ≡
    after_acts t (act_of_end place o)
one_end place o t = grind arith

abbrev acts_heard : ℕ → List Heard → List Act
acts_heard place lines = flat_map (λ (x : Heard). act_of_end place (end_in x.line)) lines

ends_heard : (m place : ℕ) (t : TrackingState) (lines : List (List ℕ)) →
    after_acts t (acts_heard place (heard_at m place t lines)) ≡ after_ends place lines t
ends_heard m place t [] = refl
ends_heard m place t (line ∷ lines) =
    let next : TrackingState = with_end place (end_in line) t in
    let later : List Act = acts_heard place (heard_at m place next lines) in
    after_both t (act_of_end place (end_in line)) later ∙
    ap (λ (u : TrackingState). after_acts u later) (sym (one_end place (end_in line) t)) ∙
    ends_heard m place next lines

-- lines of a client
change_acts : (change : Change) (t : TrackingState) → changed_tracking change t ≡
    after_acts t (act_of_change change)
change_acts change t = grind arith

abbrev Acted : ServerState → List Execution → ServerState → Type 0
Acted s xs t = t.tracking ≡ after_acts s.tracking (flat_map act_of xs)

pump_acts : (d : ℕ) → IsOfPump d Acted
pump_acts d = record {
  stays = λ s. refl;
  joins = λ s m t xs ys f g.
      g ∙ ap (λ (z : TrackingState). after_acts z (flat_map act_of ys)) f ∙
      sym (after_both s.tracking (flat_map act_of xs) (flat_map act_of ys))
      ∙ ap (after_acts s.tracking) (sym (flat_map-append act_of xs ys));
  by_line = λ s line next.
      let n = is_next s d line next in
      ap (λ (z : ServerState). z.tracking) (after_line_is s d line n.asking n.found next) ∙
      change_acts (change_at s d line) s.tracking
      ∙ ap (after_acts s.tracking) (sym (append-nil (act_of_change (change_at s d line))));
  by_notice = λ s long. by_change (λ t. t.tracking ≡ s.tracking) notified d s (λ x e. refl) (λ e. refl);
}

until_acts : (s from : ServerState) (d : ℕ) (m : Option ℕ) → from.tracking ≡ s.tracking →
    Acted s (executions_until from d m) (pumped_until from d m)
until_acts s from d m same = until_keeps d Acted (pump_acts d) from m ∙
    ap (λ (z : TrackingState). after_acts z (flat_map act_of (executions_until from d m))) same

fed_acts : (s : ServerState) (d : ℕ) (piece : List ℕ) (m : Option ℕ) →
    Acted s (executions_until (with_input s d piece) d m) (pumped_until (with_input s d piece) d m)
unfolding with_input
fed_acts s d piece m = until_acts s (with_input s d piece) d m
    (by_change (λ t. t.tracking ≡ s.tracking) (joined piece) d s (λ x e. refl) (λ e. refl))

took_acts : (s : ServerState) (d n : ℕ) (m : Option ℕ) (b : Bool) →
    Acted s (cond b (executions_until (without_output s d n) d m) [])
    (cond b (pumped_until (without_output s d n) d m) s)
unfolding without_output
took_acts s d n m true = until_acts s (without_output s d n) d m
    (by_change (λ t. t.tracking ≡ s.tracking) (taken_from n) d s (λ x e. refl) (λ e. refl))
took_acts s d n m false = refl

bytes_act : (s : ServerState) (u : UpsId) (piece : List ℕ) (o : Outcome) →
    after_acts s.tracking (acts_in_event s (DriverBytes u piece) o) ≡
    after_ends u.place (lines_read u piece (refused_after o) s) s.tracking
unfolding lines_read
bytes_act s u piece o = ap (λ (b : Bool). acted
    (cond (b && has_driver u s) (whole (unfinished ++ piece)) [])) (eq-eqb u.place u.place refl) ∙
    by_ups (ups_at u.place s)
  where
    m : Option ℕ
    m = refused_after o

    acted : List Heard → TrackingState
    acted lines = after_acts s.tracking (acts_heard u.place lines)

    unfinished : List ℕ
    unfinished = option_map_or (λ (x : UpsState). x.unfinished) (ups_at u.place s) []

    whole : List ℕ → List Heard
    whole text = heard_at s.moment u.place s.tracking (as_far m (whole_lines text))

    by_ups : (p : Option UpsState) →
        acted (cond (option_map_or (λ (x : UpsState). x.report.connected) p false)
        (whole (option_map_or (λ (x : UpsState). x.unfinished) p [] ++ piece)) [])
        ≡ after_ends u.place (option_map_or
        (λ (x : UpsState). cond x.report.connected (as_far m (whole_lines (x.unfinished ++ piece)))
        []) p []) s.tracking
    by_ups p = grind (arith, ends_heard)

event_acts : (s : ServerState) (e : Event) (o : Outcome) → (after s e o).tracking ≡
    after_acts s.tracking (acts_in_event s e o)
unfolding after_by executions_by ticked
event_acts s (DriverBytes u piece) o =
    ap (λ (z : ServerState). z.tracking) (bytes_change u piece (refused_after o) s) ∙ sym (bytes_act s u piece o)
event_acts s (Open address) o = of_opened (λ t. t.tracking ≡ s.tracking) s address
    (refused_after o) refl (λ room. refl)
event_acts s (Feed c piece) o = fed_acts s c piece (refused_after o)
event_acts s (Took c n) o = took_acts s c n (refused_after o) (may_take (session c s) n)
event_acts s e o = refl

pub run_acts : WhatIsTrackedComesOfTheActs
run_acts old new [] [] r = ap (λ (z : ServerState). z.tracking) r
run_acts old new (e ∷ es) (o ∷ os) (mid, step, r) =
    let next : ServerState = after old e o in
    run_acts next new es os (later new es os step r) ∙
    ap (λ (z : TrackingState). after_acts z (acts next es os)) (event_acts old e o) ∙
    sym (after_both old.tracking (acts_in_event old e o) (acts next es os))
run_acts old new es os r = absurd r

pub run_tracks : EachRunTracksItsOrders
run_tracks old new es os is_new r =
    let all : List Act = acts old es os in
    let begins : old.tracking ≡ nothing_tracked = ap (λ (z : ServerState). z.tracking) is_new.is in
    let is : new.tracking ≡ after_acts nothing_tracked all = run_acts old new es os r ∙
    ap (λ (z : TrackingState). after_acts z all) begins in
    record {
      once = subst IsSoundTracking (sym is) (acts_keep_it_sound nothing_tracked all nothing_is_sound);
      in_order = ap (λ (z : TrackingState). map (λ order. order.id) (given nothing_tracked all) ++
          z.ids) is ∙ first_in_first_out nothing_tracked all;
      last = ap (λ (z : TrackingState). map as_given z.orders) is ∙
          the_last_are_kept nothing_tracked all nothing_is_sound;
      settled = λ earlier rest place id split at few.
          let t : TrackingState = after_acts nothing_tracked earlier in
          ap (progress_of id) (is ∙ ap (after_acts nothing_tracked) split ∙
          after_both nothing_tracked earlier (ordered place ∷ rest))
          ∙ its_driver_settles_it_once t place id rest
          (acts_keep_it_sound nothing_tracked earlier nothing_is_sound) at few;
    }
