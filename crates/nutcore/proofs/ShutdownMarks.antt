-- Only lines set a forced shutdown, and those that have the right.
use Rattle.std.proofs.Common.{arith, ◌≡◌, ◌⊎◌, ℕ, zero, suc, Bool, true, false, List}
use Rattle.std.proofs.Common.{[], ◌∷◌, ◌++◌, Option, Some, None, refl, sym, ◌∙◌, ap}
use Rattle.std.proofs.Common.{subst, take, inl, inr}
use Rattle.std.specs.Prelude.{slice_get, codes, All}
use Rattle.std.specs.Option.{option_map_or}
use Rattle.std.proofs.lemmas.Bool.{cases_Bool, false≢true}
use Rattle.std.proofs.lemmas.List.Elements.{All-nil, All-head, All-tail, All-push, All-weaker}
use Rattle.nutcore.proofs.Common.{slice_get-map, never_both, UpsId, Change, TrackingState, Event}
use Rattle.nutcore.proofs.Common.{SessionState, UpsState, ServerState, changed_at}
use Rattle.nutcore.proofs.Common.{with_session_changed}
use Rattle.nutdriver.specs.Variable.{VariableState}
use Rattle.nutdriver.specs.declared.report.Report.{Report}
use Rattle.nutdriver.specs.declared.report.LineOutcome.{LineOutcome}
use Rattle.nutdriver.specs.Report.{after_line as report_after, end_in}
use Rattle.nutanswer.specs.declared.reply.Change.TheVariants as changes
use Rattle.nutcore.specs.Reports.{with_end, is_unawaited}
use Rattle.nutcore.specs.Ups.{with_fsd, after_outcome, after_texts, ups_after_text, ups_after_bytes}
use Rattle.nutcore.specs.Reply.{changed_upses, seen, seen_ups}
use Rattle.nutcore.specs.Pump.{next_line_for, after_line, notified}
use Rattle.nutcore.specs.Step.{after_by, joined, taken_from, opened}
use Rattle.nutcore.specs.DriverEvents.{ticked}
use Rattle.nutcore.specs.History.{Execution, of_line, of_notice, executions}
use Rattle.nutcore.specs.ByRight.{SetsShutdownByRight, WasShutDown, is_shut_down}
use Rattle.nutcore.specs.ByRight.{AForcedShutdownReachesEverybody, IsByRight}
use Rattle.nutcore.proofs.Changed.{by_change}
use Rattle.nutcore.proofs.Changes.{of_upses as of_changed_upses}
use Rattle.nutcore.proofs.UpsPlaces.{same_ups, at_changed}
use Rattle.nutcore.proofs.Pumping.{is_next, after_line_is, change_at}
use Rattle.nutcore.proofs.Rows.{comes_of_line, by_right}
use Rattle.nutcore.proofs.Events.{IsPlain, OfDrivers, of_parts}
use Rattle.nutcore.proofs.Marks.{IsMark, GoesOn, told, held_after, held_at}
use Rattle.nutcommand.specs.declared.command.Command.TheVariants.{Fsd}
use Rattle.nutlisting.specs.Shown.{shown}
use Rattle.nutanswer.specs.Checks.{KnownUps, ups_named}
use Rattle.nutanswer.specs.View.{UpsSeen}
use Rattle.nutanswer.proofs.PublicLaws.{a_named_ups_is_seen}
use Rattle.nutusers.specs.declared.rights.Right.TheVariants as rights
use Rattle.nutcore.proofs.FreshRuns.{mapped_at}
use Rattle.nutwords.specs.WholeLines.{whole_lines}

-- the forced shutdown of the UPS at a place
abbrev fsd_at : ℕ → List UpsState → Bool
fsd_at q xs = option_map_or (λ (x : UpsState). x.fsd) (slice_get xs q) false

abbrev Keeps : (UpsState → UpsState) → Type 0
Keeps f = (x : UpsState) → (f x).fsd ≡ x.fsd

changed_keeps : (f : UpsState → UpsState) → Keeps f → (p q : ℕ) (xs : List UpsState) →
    fsd_at q (changed_at f p xs) ≡ fsd_at q xs
changed_keeps f k p q [] = refl
changed_keeps f k zero zero (x ∷ xs) = k x
changed_keeps f k zero (suc q) (x ∷ xs) = refl
changed_keeps f k (suc p) zero (x ∷ xs) = refl
changed_keeps f k (suc p) (suc q) (x ∷ xs) = changed_keeps f k p q xs

outcome_fsd : (unawaited : Bool) (x : UpsState) (r : Report × LineOutcome) →
    (after_outcome unawaited x r).fsd ≡ x.fsd
outcome_fsd unawaited x r = grind arith

texts_fsd : (moment place : ℕ) (t : TrackingState) (lines : List (List ℕ)) (x : UpsState) →
    (after_texts moment place t lines x).fsd ≡ x.fsd
texts_fsd moment place t [] x = refl
texts_fsd moment place t (line ∷ lines) x =
    texts_fsd moment place (with_end place (end_in line) t) lines _ ∙
    outcome_fsd (is_unawaited place (end_in line) t) x (report_after moment x.report line)

text_fsd : (moment place : ℕ) (t : TrackingState) (text : List ℕ) (refused : Option ℕ) →
    Keeps (ups_after_text moment place t text refused)
text_fsd moment place t text None x = grind (arith, texts_fsd moment place t (whole_lines text) x)
text_fsd moment place t text (Some k) x = texts_fsd moment place t (take k (whole_lines text)) x

bytes_fsd : (moment place : ℕ) (t : TrackingState) (piece : List ℕ) (refused : Option ℕ) →
    Keeps (ups_after_bytes moment place t piece refused)
bytes_fsd moment place t piece refused x = grind (arith, text_fsd moment place t (x.unfinished ++ piece) refused x)

-- no driver sets one, nor time
drivers_keep : (s : ServerState) (m : Option ℕ) → OfDrivers s.moment s.tracking m Keeps
drivers_keep s m = record {
  comes = λ x. grind arith;
  tells = λ place piece. bytes_fsd s.moment place s.tracking piece m;
  takes = λ n x. grind arith;
  goes = λ x. grind arith;
}

tick_keeps : (u : UpsId) (s : ServerState) (seconds : ℕ) → is_shut_down u (ticked seconds s) ≡ is_shut_down u s
unfolding ticked
tick_keeps u s seconds = rw slice_get-map (grind arith)

-- what isn't the line of a client sets no forced shutdown
by_plain : (u : UpsId) (s : ServerState) (e : Event) (m : Option ℕ) → IsPlain e →
    is_shut_down u (after_by s e m) ≡ is_shut_down u s
unfolding opened
by_plain u s e m =
    of_parts s m Keeps (drivers_keep s m)
    (λ e t. IsPlain e → is_shut_down u t ≡ is_shut_down u s)
    (λ e v f lines its apart keeps plain. changed_keeps f keeps v.place u.place s.upses)
    (λ seconds plain. tick_keeps u s seconds)
    (λ address plain. opens address m) (λ c piece plain. absurd plain)
    (λ c n plain. absurd plain) (λ c plain. refl) (λ id plain. refl) e
  where
    opens : (address : List ℕ) (m : Option ℕ) → is_shut_down u (opened s address m) ≡ is_shut_down u s
    opens address m = grind arith

-- nor does a session that is changed
by_session : (u : UpsId) (f : SessionState → SessionState) (s : ServerState) (c : ℕ) →
    is_shut_down u (with_session_changed f c s) ≡ is_shut_down u s
by_session u f s c = by_change (λ t. is_shut_down u t ≡ is_shut_down u s) f c s (λ x e. refl) (λ e. refl)

-- where one is set, the UPS there was changed so
sets_there : (f : UpsState → UpsState) (P : Type 0) →
    ((x : UpsState) → x.fsd ≡ false → (f x).fsd ≡ true → P) →
    (p q : ℕ) (xs : List UpsState) → fsd_at q xs ≡ false → fsd_at q (changed_at f p xs) ≡
    true → (p ≡ q) × P
sets_there f P h p q [] before after = never_both _ after before
sets_there f P h zero zero (x ∷ xs) before after = (refl, h x before after)
sets_there f P h zero (suc q) (x ∷ xs) before after = never_both _ after before
sets_there f P h (suc p) zero (x ∷ xs) before after = never_both _ after before
sets_there f P h (suc p) (suc q) (x ∷ xs) before after = let there =
    sets_there f P h p q xs before after in (ap suc there.0, there.1)

-- a line that sets it has the row of FSD
change_sets : (u : UpsId) (change : Change) (xs : List UpsState) → fsd_at u.place xs ≡ false →
    fsd_at u.place (changed_upses change xs) ≡ true → change ≡ changes.Fsd u
change_sets u change xs before after =
    of_changed_upses (λ told ys. fsd_at u.place ys ≡ true → change ≡ changes.Fsd u) change xs
    (λ set. never_both _ set before) (λ v f told does set.
    let sets = sets_there f (change ≡ changes.Fsd v)
    (λ x unset forced. elim (does.fsd x)
    [ inl same ↦ never_both _ forced (same ∙ unset) | inr by ↦ by.1 ]) v.place u.place xs before set in
    sets.1 ∙ ap (λ (w : UpsId). changes.Fsd w) (same_ups v u sets.0)) after

line_sets : (u : UpsId) (s : ServerState) (c : ℕ) (line : List ℕ) → next_line_for s c ≡
    Some line → is_shut_down u s ≡ false → is_shut_down u (after_line s c) ≡ true →
    SetsShutdownByRight u (of_line s c line)
line_sets u s c line next before after =
    let n = is_next s c line next in
    let came = comes_of_line s c line (changes.Fsd u) refl
    (change_sets u (change_at s c line) s.upses before (rw (after_line_is s c line n.asking n.found next) at after)) in
    by_right s c line came.command _ _ _ u came.read came.row

-- only such lines set it
set_by_lines : (u : UpsId) → IsMark (λ s. is_shut_down u s ≡ true) (SetsShutdownByRight u)
set_by_lines u = record {
  line = λ s c line next set. elim (cases_Bool (is_shut_down u s))
      [ inl was ↦ inl was | inr never ↦ inr (line_sets u s c line next never set) ];
  notice = λ s c set. sym (by_session u notified s c) ∙ set;
  joins = λ s c piece set. sym (by_session u (joined piece) s c) ∙ set;
  gives = λ s c n set. sym (by_session u (taken_from n) s c) ∙ set;
  plain = λ s e m plain set. sym (by_plain u s e m plain) ∙ set;
}

-- a forced shutdown that is granted
granted_changes : (u : UpsId) (s : ServerState) (c : ℕ) (line : List ℕ)
    (words : List (List ℕ)) → (h : IsByRight s c line Fsd rights.Fsd words u) →
    change_at s c line ≡ changes.Fsd u
granted_changes u s c line words h =
    rw (h.command, h.username_given, h.password_given, h.granted, h.named) (ap (λ (v : UpsId). changes.Fsd v) h.this)

line_shuts_down : (u : UpsId) (s : ServerState) (c : ℕ) (line : List ℕ) →
    next_line_for s c ≡ Some line → SetsShutdownByRight u (of_line s c line) →
    is_shut_down u (after_line s c) ≡ true
line_shuts_down u s c line next h =
    let n = is_next s c line next in
    let stands = mapped_at seen_ups s.upses u.place h.known.state
    (ap (λ (v : UpsId). slice_get (seen s).upses v.place) (sym h.this) ∙
    (a_named_ups_is_seen (seen s) h.ups h.known h.named).stands) in
    rw (
      after_line_is s c line n.asking n.found next,
      granted_changes u s c line _ h,
      at_changed with_fsd u.place s.upses stands.of stands.there,
    )

-- so a line that is executed leaves it set where it was
forced_stays : (f : UpsState → UpsState) →
    ((x : UpsState) → x.fsd ≡ true → (f x).fsd ≡ true) →
    (p q : ℕ) (xs : List UpsState) → fsd_at q xs ≡ true → fsd_at q (changed_at f p xs) ≡ true
forced_stays f keeps p q [] h = h
forced_stays f keeps zero zero (x ∷ xs) h = keeps x h
forced_stays f keeps zero (suc q) (x ∷ xs) h = h
forced_stays f keeps (suc p) zero (x ∷ xs) h = h
forced_stays f keeps (suc p) (suc q) (x ∷ xs) h = forced_stays f keeps p q xs h

line_keeps : (u : UpsId) (s : ServerState) (c : ℕ) (line : List ℕ) → next_line_for s c ≡
    Some line → is_shut_down u s ≡ true → is_shut_down u (after_line s c) ≡ true
line_keeps u s c line next set =
    let n = is_next s c line next in
    rw (after_line_is s c line n.asking n.found next)
    (of_changed_upses (λ told ys. fsd_at u.place ys ≡ true) (change_at s c line) s.upses set
    (λ v f told does. forced_stays f
    (λ x forced. elim (does.fsd x) [ inl same ↦ same ∙ forced | inr by ↦ by.0 ]) v.place u.place s.upses set))

-- what was set, and what one of those before set
module _ (u : UpsId) (start : ServerState) where
  abbrev Shows : ServerState → Execution → Type 0
  Shows s x = SetsShutdownByRight u x → is_shut_down u s ≡ true

  abbrev Reaches : List Execution → ServerState → Type 0
  Reaches before s = (is_shut_down u start ≡ true → is_shut_down u s ≡ true) × All (Shows s) before

  carried : (before : List Execution) (s t : ServerState) →
      (is_shut_down u s ≡ true → is_shut_down u t ≡ true) → Reaches before s → Reaches before t
  carried before s t stays h = (
    λ was. stays (h.0 was),
    All-weaker (Shows s) (Shows t) (λ x set sets. stays (set sets)) before h.1,
  )

  with_one : (before : List Execution) (s t : ServerState) (x : Execution) →
      (is_shut_down u s ≡ true → is_shut_down u t ≡ true) → Shows t x →
      Reaches before s → Reaches (before ++ x ∷ []) t
  with_one before s t x stays sets h = let more = carried before s t stays h in
      (more.0, All-push (Shows t) before x more.1 sets)

  reaches : GoesOn Reaches
  reaches = record {
    line = λ before s d line next. with_one before s (after_line s d) (of_line s d line)
        (line_keeps u s d line next) (line_shuts_down u s d line next);
    notice = λ before s d. with_one before s (with_session_changed notified d s) (of_notice s d)
        (λ set. by_session u notified s d ∙ set) (λ never. absurd never);
    joins = λ before s d piece. carried before s (with_session_changed (joined piece) d s)
        (λ set. by_session u (joined piece) s d ∙ set);
    gives = λ before s d n. carried before s (with_session_changed (taken_from n) d s)
        (λ set. by_session u (taken_from n) s d ∙ set);
    plain = λ before s e m plain. carried before s (after_by s e m) (λ set. by_plain u s e m plain ∙ set);
  }

  one_of : (P : Execution → Type 0) (before after : List Execution) (x : Execution) →
      All P (before ++ x ∷ after) → P x
  one_of P [] after x all = All-head P x after all
  one_of P (y ∷ before) after x all = one_of P before after x (All-tail P y (before ++ x ∷ after) all)

  reached : (executed : List Execution) (s : ServerState) → Reaches executed s →
      WasShutDown u start executed → is_shut_down u s ≡ true
  reached executed s h (inl was) = h.0 was
  reached executed s h (inr (x, (before, after, is), sets)) =
      one_of (Shows s) before after x (subst (All (Shows s)) is h.1) sets

-- what clients are shown of it
is_seen : (s : ServerState) (ups : Option (List ℕ)) (known : KnownUps) →
    ups_named (seen s) ups ≡ Some known → known.state.fsd ≡ is_shut_down known.id s
is_seen s ups known named =
    let stands = mapped_at seen_ups s.upses known.id.place known.state
    (a_named_ups_is_seen (seen s) ups known named).stands in
    rw stands.there (ap (λ (x : UpsSeen). x.fsd) (sym stands.is))

status_shown : (fsd : Bool) (status : VariableState) (Was : Type 0) → (fsd ≡ true → Was) →
    (Was → fsd ≡ true)
    → (Was × (shown fsd (codes "ups.status") status ≡ codes "FSD " ++ status.value)) ⊎
    ((Was → ⊥) × (shown fsd (codes "ups.status") status ≡ status.value))
status_shown true status Was was set = inl (was refl, refl)
status_shown false status Was was set = inr (λ h. absurd (false≢true (set h)), refl)

pub shutdowns : AForcedShutdownReachesEverybody
shutdowns = record {
  set = λ old new events outcomes u run. (
    held_after (told (set_by_lines u) old) old new events outcomes run (λ so. inl so),
    reached u old (executions old events outcomes) new
        (held_after (reaches u old) old new events outcomes run (λ so. so, All-nil (Shows u old old))),
  );
  shown = λ old new events outcomes before after s c line ups known status run e named.
      let u : UpsId = known.id in
      let same = is_seen s ups known named in
      status_shown known.state.fsd status (WasShutDown u old before)
      (λ fsd. held_at (told (set_by_lines u) old) old new events outcomes run (λ so. inl so)
      before after s c line e (sym same ∙ fsd))
      (λ was. same ∙ reached u old before s
      (held_at (reaches u old) old new events outcomes run (λ so. so, All-nil (Shows u old old))
      before after s c line e) was);
}
