-- What is noted of the UPSs: the state of their data, their status, and their refused lines.
use Rattle.std.proofs.Common.{◌≡◌, ◌≢◌, ◌∙◌, inl, inr, ℕ, zero, suc, ◌+◌}
use Rattle.std.proofs.Common.{◌<◌, Bool, true, false, eqb}
use Rattle.std.proofs.Common.{List, [], ◌∷◌, ◌++◌, Option, Some, None, refl, sym, ap, ap₂, subst, cond}
use Rattle.std.proofs.Common.{arith, max, take, append-nil}
use Rattle.std.specs.List.{filter_map, cons_option}
use Rattle.std.specs.Option.{option_and_then}
use Rattle.std.specs.Str.{bytes_eq}
use Rattle.std.proofs.lemmas.Bool.{cases_Bool, eq-eqb}
use Rattle.std.proofs.lemmas.List.Elements.{filter_map-append}
use Rattle.std.proofs.lemmas.Slice.Eq.{bytes_eq-Decides}
use Rattle.nutwords.specs.WholeLines.{whole_lines, unfinished_after, is_too_long}
use Rattle.nutdriver.specs.declared.report.Report.{Report}
use Rattle.nutdriver.specs.declared.report.LineOutcome.{LineOutcome}
use Rattle.nutdriver.specs.Report.{lost_report, after_line, end_in}
use Rattle.nuttracking.specs.Tracking.{nothing_tracked}
use Rattle.nutusers.specs.UpsList.{id_at}
use Rattle.nutcore.proofs.Common.{slice_get, slice_get-map, option_map, option_map_or, cond_both, same_Some}
use Rattle.nutcore.proofs.Common.{eqb-true, eqb-false, never_both, UpsId, TrackingState, Event, Outcome, SessionState}
use Rattle.nutcore.proofs.Common.{UpsState, ServerState, session, ups_at, with_ups_changed, after}
use Rattle.nutcore.specs.declared.event.Event.TheVariants as event
use Rattle.nutcore.specs.declared.note.DataState.{DataState}
use Rattle.nutcore.specs.declared.note.DataState.TheVariants.{Lost, Awaited}
use Rattle.nutcore.specs.declared.note.Deed.{Deed}
use Rattle.nutcore.specs.declared.note.Who.{Who}
use Rattle.nutcore.specs.declared.note.Note.{Note}
use Rattle.nutcore.specs.declared.note.Note.TheVariants.{Data, LineRefused, LoggedIn, LoggedOut, Did}
use Rattle.nutcore.specs.Session.{without}
use Rattle.nutcore.specs.Reports.{with_end, is_unawaited}
use Rattle.nutcore.specs.Ups.{ping_is_due, after_tick, after_connecting, after_loss, after_text, after_texts}
use Rattle.nutcore.specs.Ups.{with_unfinished, as_far, is_refused, ups_after_text, ups_after_bytes}
use Rattle.nutcore.specs.Step.{with_input, without_output, may_take}
use Rattle.nutcore.specs.DriverEvents.{connected, disconnected, after_driver_took}
use Rattle.nutcore.specs.Step.{pumped_until, after_by, refused_after}
use Rattle.nutcore.specs.DriverEvents.{changed_both, lines_read, ticked}
use Rattle.nutcore.specs.History.{Execution, executions_by}
use Rattle.nutcore.specs.Isolation.{without_commands, kept_from_clients}
use Rattle.nutcore.specs.DriverHistory.{heard_at, heard_in_event}
use Rattle.nutcore.specs.DriverRuns.{report_of}
use Rattle.nutcore.specs.Sound.{IsSoundUps, IsSound}
use Rattle.nutcore.specs.Notes.{who_of, logout_of, note_of, notes_of_lines}
use Rattle.nutcore.specs.Notes.{data_state_of, status_of, fault_of, outcome_note, end_note}
use Rattle.nutcore.specs.Notes.{shown_of, status_note, data_note}
use Rattle.nutcore.specs.Notes.{line_notes, texts_notes, loss_notes, is_lost_by, text_notes, connect_notes, bytes_notes}
use Rattle.nutcore.specs.Notes.{down_notes, of_ups_notes, tick_note, tick_notes, all_notes}
use Rattle.nutcore.specs.NotedRuns.{Leads, data_in, status_in, fault_in, faults_among}
use Rattle.nutcore.proofs.Changed.{of_opened}
use Rattle.nutcore.proofs.DriverChanges.{line_leaves}
use Rattle.nutcore.proofs.DriverText.{bytes_change}
use Rattle.nutcore.proofs.Isolation.{masked_at, own}
use Rattle.nutcore.proofs.Noted.{leads_on, leads_nowhere, skip, noted_or_same, endless, IsBlind, blind_data}
use Rattle.nutcore.proofs.Noted.{ups_up, ups_bytes, ups_down, deaf_close, IsDeaf, deaf_logout, deaf_execution}
use Rattle.nutcore.proofs.SoundUps.{each_get, heard_line}
use Rattle.nutcore.proofs.UpsPlaces.{same_ups, changed_there, other_ups}

differs : (a b : ℕ) → a ≢ b → eqb a b ≡ false
differs a b other = elim (cases_Bool (eqb a b)) [ inl k ↦ absurd (other (eqb-true a b k)) | inr k ↦ k ]

took_masked : (n : ℕ) (x : UpsState) → without_commands (after_driver_took n x) ≡ without_commands x
took_masked n x = grind arith

-- what is noted of a client says nothing of a UPS
pub record IsOfUpses {A : Type 0} (f : Note → Option A) : Type 0 where
  pub into : (v : UpsId) (who : Who) → f (LoggedIn v who) ≡ None
  pub out : (v : UpsId) (who : Who) → f (LoggedOut v who) ≡ None
  pub did : (deed : Deed) → f (Did deed) ≡ None

module _ {A : Type 0} (f : Note → Option A) (reads : IsOfUpses f) where
  deaf : (x : SessionState) → IsDeaf f x
  deaf x = record { logs_in = λ v. reads.into v (who_of x); logs_out = λ v. reads.out v (who_of x); does = reads.did }

  lines_silent : (xs : List Execution) → filter_map f (notes_of_lines xs) ≡ []
  lines_silent [] = refl
  lines_silent (y ∷ xs) = skip f (note_of y) (notes_of_lines xs)
      (deaf_execution f y (λ s x found. deaf x)) ∙ lines_silent xs

  close_silent : (o : Option SessionState) → filter_map f (cons_option (option_and_then logout_of o) []) ≡ []
  close_silent o = deaf_close f (λ x. deaf_logout f x (deaf x)) o

-- what is read off a UPS, by the greatest age and the moment, and off the notes of this UPS
pub record IsReadOff {A : Type 0} (none : A) (g : ℕ → ℕ → UpsState → A) (u : UpsId)
    (f : Note → Option A) : Type 0 where
  pub line : (a m : ℕ) (b : Bool) (x : UpsState) (line : List ℕ) →
      Leads (g a m x) (filter_map f (line_notes a m u b x line)) (g a m (after_text m b x line))
  pub loss : (a m : ℕ) (x : UpsState) → x.report.connected ≡ true →
      Leads (g a m x) (filter_map f (loss_notes u x)) (g a m (after_loss x))
  pub connects : (a m : ℕ) (x : UpsState) → IsSoundUps m x → x.report.connected ≡ false →
      Leads (g a m x) (filter_map f (Data u Awaited ∷ [])) (g a m (after_connecting m x))
  pub ticks : (a was now : ℕ) (x : UpsState) →
      Leads (g a was x) (filter_map f
      (cons_option (data_note u (data_state_of a was x) (data_state_of a now x)) [])) (g a now (after_tick a now x))
  pub others : (v : UpsId) → eqb v.place u.place ≡ false → IsBlind f v
  pub clients : IsOfUpses f
  pub masked : (a m : ℕ) (x : UpsState) → g a m (without_commands x) ≡ g a m x
  pub beside : (a m : ℕ) (x : UpsState) (bytes : List ℕ) → g a m (with_unfinished bytes x) ≡ g a m x

module _ {A : Type 0} (none : A) (g : ℕ → ℕ → UpsState → A) (u : UpsId)
    (f : Note → Option A) (reads : IsReadOff none g u f) where
  abbrev pub read_at : ServerState → A
  read_at s = option_map_or (g s.max_age s.moment) (ups_at u.place s) none

  -- what the notes of an event say of it
  abbrev pub Says : ServerState → List Note → ServerState → Type 0
  Says s notes t = Leads (read_at s) (filter_map f notes) (read_at t)

  silent : (s t : ServerState) (notes : List Note) → filter_map f notes ≡ [] → read_at t ≡
      read_at s → Says s notes t
  silent s t notes nothing same = leads_nowhere (read_at s) (read_at t) (filter_map f notes) nothing same

  -- its driver's lines, and what it reported
  by_texts : (a m : ℕ) (t : TrackingState) (lines : List (List ℕ)) (x : UpsState) →
      Leads (g a m x) (filter_map f (texts_notes a m u t lines x)) (g a m (after_texts m u.place t lines x))
  by_texts a m t [] x = refl
  by_texts a m t (line ∷ lines) x =
      let b : Bool = is_unawaited u.place (end_in line) t in
      let next : TrackingState = with_end u.place (end_in line) t in
      let y : UpsState = after_text m b x line in
      rw (filter_map-append f (line_notes a m u b x line) (texts_notes a m u next lines y))
      (leads_on (filter_map f (line_notes a m u b x line))
      (filter_map f (texts_notes a m u next lines y)) (g a m x) (g a m y)
      (g a m (after_texts m u.place next lines y)) (reads.line a m b x line) (by_texts a m next lines y))

  stays : (m place : ℕ) (t : TrackingState) (lines : List (List ℕ)) (x : UpsState) →
      x.report.connected ≡ true → (after_texts m place t lines x).report.connected ≡ true
  stays m place t [] x is = is
  stays m place t (line ∷ lines) x is =
      let b : Bool = is_unawaited place (end_in line) t in
      let y : UpsState = after_text m b x line in
      stays m place (with_end place (end_in line) t) lines y
      (ap (λ (r : Report). r.connected) (line_leaves b x (after_line m x.report line)).report ∙
      ap (λ (p : ℕ × Bool). p.1) (heard_line m x.report line) ∙ is)

  by_rest : (a m : ℕ) (y : UpsState) (b : Bool) (rest : List ℕ) → y.report.connected ≡
      true → Leads (g a m y) (filter_map f (cond b (loss_notes u y) []))
      (g a m (cond b (after_loss y) (with_unfinished rest y)))
  by_rest a m y true rest is = reads.loss a m y is
  by_rest a m y false rest is = reads.beside a m y rest

  by_text : (a m : ℕ) (t : TrackingState) (text : List ℕ) (k : Option ℕ) (x : UpsState) →
      x.report.connected ≡ true →
      Leads (g a m x) (filter_map f (text_notes a m u t text k x)) (g a m (ups_after_text m u.place t text k x))
  by_text a m t text k x is =
      let lines : List (List ℕ) = as_far k (whole_lines text) in
      let y : UpsState = after_texts m u.place t lines x in
      rw (filter_map-append f (texts_notes a m u t lines x) (cond (is_lost_by text k) (loss_notes u y) []))
      (leads_on (filter_map f (texts_notes a m u t lines x))
      (filter_map f (cond (is_lost_by text k) (loss_notes u y) [])) (g a m x) (g a m y)
      (g a m (ups_after_text m u.place t text k x))
      (by_texts a m t lines x) (ends k (stays m u.place t lines x is)))
    where
      ends : (k : Option ℕ) → let y : UpsState = after_texts m u.place t (as_far k (whole_lines text)) x in
          y.report.connected ≡ true →
          Leads (g a m y) (filter_map f (cond (is_lost_by text k) (loss_notes u y) []))
          (g a m (ups_after_text m u.place t text k x))
      ends None still = by_rest a m (after_texts m u.place t (whole_lines text) x)
          (is_too_long (unfinished_after text)) (unfinished_after text) still
      ends (Some k) still = reads.loss a m (after_texts m u.place t (take k (whole_lines text)) x) still

  -- an event of a driver: of this UPS, or of another
  of_driver : (v : UpsId) (s : ServerState) (h : UpsState → UpsState) (lines : List (List ℕ))
      (notes : UpsState → List Note)
      → ((x : UpsState) → v ≡ u → ups_at u.place s ≡ Some x →
      Leads (g s.max_age s.moment x) (filter_map f (notes x)) (g s.max_age s.moment (h x)))
      → (eqb v.place u.place ≡ false → filter_map f (of_ups_notes v s notes) ≡ []) →
      Says s (of_ups_notes v s notes) (changed_both h lines v s)
  of_driver v s h lines notes here other = elim (cases_Bool (eqb v.place u.place)) [
    | inl k ↦ (let same : v ≡ u = same_ups v u (eqb-true v.place u.place k) in
        subst (λ (w : UpsId). Says s (of_ups_notes w s notes) (changed_both h lines w s)) (sym same)
        (rw (changed_there h u.place s.upses) (by_ups (ups_at u.place s) refl (λ x there. here x same there))))
    | inr k ↦ silent s (changed_both h lines v s) (of_ups_notes v s notes) (other k)
        (ap (λ (o : Option UpsState). option_map_or (g s.max_age s.moment) o none)
        (other_ups h v.place u.place s.upses (λ (e : u.place ≡ v.place). eqb-false v.place u.place k (sym e))))
  ]
    where
      by_ups : (o : Option UpsState) → ups_at u.place s ≡ o →
          ((x : UpsState) → ups_at u.place s ≡ Some x →
          Leads (g s.max_age s.moment x) (filter_map f (notes x)) (g s.max_age s.moment (h x)))
          → Leads (option_map_or (g s.max_age s.moment) o none)
          (filter_map f (option_map_or notes o [])) (option_map_or (g s.max_age s.moment) (option_map h o) none)
      by_ups None at here = refl
      by_ups (Some x) at here = here x at

  sound_at : (s : ServerState) (x : UpsState) → IsSound s → ups_at u.place s ≡ Some x → IsSoundUps s.moment x
  sound_at s x h there = each_get (IsSoundUps s.moment) s.upses u.place x there h.upses

  ups_comes : (a m : ℕ) (x : UpsState) (b : Bool) → x.report.connected ≡ b →
      IsSoundUps m x → Leads (g a m x) (filter_map f (cond b [] (Data u Awaited ∷ [])))
      (g a m (cond b x (after_connecting m x)))
  ups_comes a m x true is h = refl
  ups_comes a m x false gone h = reads.connects a m x h gone

  ups_reports : (s : ServerState) (piece : List ℕ) (k : Option ℕ) (x : UpsState) (b : Bool) →
      x.report.connected ≡ b
      → Leads (g s.max_age s.moment x)
      (filter_map f (cond b (text_notes s.max_age s.moment u s.tracking (x.unfinished ++ piece) k x)
      [])) (g s.max_age s.moment (cond b (ups_after_text s.moment u.place s.tracking (x.unfinished ++ piece) k x) x))
  ups_reports s piece k x true is = by_text s.max_age s.moment s.tracking (x.unfinished ++ piece) k x is
  ups_reports s piece k x false gone = refl

  ups_goes : (a m : ℕ) (x : UpsState) (b : Bool) → x.report.connected ≡ b →
      Leads (g a m x) (filter_map f (cond b (loss_notes u x) [])) (g a m (cond b (after_loss x) x))
  ups_goes a m x true is = reads.loss a m x is
  ups_goes a m x false gone = refl

  -- what commands change matters to nothing that is read
  unmasked : (s : ServerState) (o : Option UpsState) →
      option_map_or (g s.max_age s.moment) (option_map without_commands o) none ≡
      option_map_or (g s.max_age s.moment) o none
  unmasked s None = refl
  unmasked s (Some x) = reads.masked s.max_age s.moment x

  masked_data : (s : ServerState) → read_at (kept_from_clients s) ≡ read_at s
  masked_data s = ap (λ (o : Option UpsState). option_map_or (g s.max_age s.moment) o none)
      (slice_get-map without_commands s.upses u.place) ∙ unmasked s (ups_at u.place s)

  same_data : (s t : ServerState) → kept_from_clients t ≡ kept_from_clients s → read_at t ≡ read_at s
  same_data s t kept = sym (masked_data t) ∙ ap read_at kept ∙ masked_data s

  -- a tick goes through the UPSs
  ticks_behind : (a was now place : ℕ) (xs : List UpsState) → u.place < place →
      filter_map f (tick_notes a was now place xs) ≡ []
  ticks_behind a was now place [] lt = refl
  ticks_behind a was now place (x ∷ xs) lt =
      skip f (tick_note a was now place x) (tick_notes a was now (suc place) xs)
      (blind_data f (id_at place) (reads.others (id_at place)
      (differs place u.place (λ (e : place ≡ u.place). omega (arith, lt, e)))) _ _)
      ∙ ticks_behind a was now (suc place) xs (omega (arith, lt))

  -- one note before those of other UPSs
  ends_with : (a b : A) (o : Option Note) (notes : List Note) → filter_map f notes ≡ [] →
      Leads a (filter_map f (cons_option o [])) b → Leads a (filter_map f (cons_option o notes)) b
  ends_with a b None notes behind leads = rw behind leads
  ends_with a b (Some note) notes behind leads = rw behind leads

  by_ticks : (a was now place p : ℕ) (xs : List UpsState) → u.place ≡ place + p
      → Leads (option_map_or (g a was) (slice_get xs p) none)
      (filter_map f (tick_notes a was now place xs))
      (option_map_or (g a now) (option_map (after_tick a now) (slice_get xs p)) none)
  by_ticks a was now place p [] at = refl
  by_ticks a was now place zero (x ∷ xs) at =
      let this : id_at place ≡ u = same_ups (id_at place) u (omega (arith, at)) in
      let before : DataState = data_state_of a was x in
      let later : DataState = data_state_of a now x in
      let notes : List Note = tick_notes a was now (suc place) xs in
      subst (λ v. Leads (g a was x) (filter_map f (cons_option (data_note v before later) notes))
      (g a now (after_tick a now x))) (sym this)
      (ends_with (g a was x) (g a now (after_tick a now x)) (data_note u before later) notes
      (ticks_behind a was now (suc place) xs (omega (arith, at))) (reads.ticks a was now x))
  by_ticks a was now place (suc p) (x ∷ xs) at =
      rw (skip f (tick_note a was now place x) (tick_notes a was now (suc place) xs)
      (blind_data f (id_at place) (reads.others (id_at place)
      (differs place u.place (λ (e : place ≡ u.place). omega (arith, at, e)))) _ _))
      (by_ticks a was now (suc place) p xs (omega (arith, at)))

  tick_says : (s : ServerState) (seconds : ℕ) →
      Says s (tick_notes s.max_age s.moment (max seconds s.moment) 0 s.upses) (ticked seconds s)
  unfolding ticked
  tick_says s seconds =
      let now : ℕ = max seconds s.moment in
      rw (slice_get-map (after_tick s.max_age now) s.upses u.place)
      (by_ticks s.max_age s.moment now 0 u.place s.upses (omega arith))

  -- in each event
  pub event_says : (s : ServerState) (e : Event) (o : Outcome) → IsSound s →
      Says s (all_notes s e (refused_after o)) (after s e o)
  unfolding after_by
  event_says s (event.DriverUp v) o h =
      of_driver v s (connected s.moment) [] (connect_notes v)
      (λ x same there. subst (λ (w : UpsId). Leads (g s.max_age s.moment x)
      (filter_map f (connect_notes w x)) (g s.max_age s.moment (connected s.moment x))) (sym same)
      (ups_comes s.max_age s.moment x x.report.connected refl (sound_at s x h there)))
      (λ k. ups_up f v (reads.others v k) s)
  event_says s (event.DriverBytes v piece) o h =
      let m : Option ℕ = refused_after o in
      subst (λ t. Says s (of_ups_notes v s (bytes_notes s v piece m)) t) (sym (bytes_change v piece m s))
      (of_driver v s (ups_after_bytes s.moment v.place s.tracking piece m) (lines_read v piece m s)
      (bytes_notes s v piece m)
      (λ x same there. subst (λ (w : UpsId). Leads (g s.max_age s.moment x)
      (filter_map f (bytes_notes s w piece m x))
      (g s.max_age s.moment (ups_after_bytes s.moment w.place s.tracking piece m x))) (sym same)
      (ups_reports s piece m x x.report.connected refl))
      (λ k. ups_bytes f v (reads.others v k) s piece m))
  event_says s (event.DriverTook v n) o h =
      silent s (with_ups_changed (after_driver_took n) v s) [] refl
      (same_data s (with_ups_changed (after_driver_took n) v s)
      (ap (λ (xs : List UpsState). let t : ServerState =
      record s { sessions = []; upses = xs; tracking = nothing_tracked } in t)
      (masked_at (after_driver_took n) (took_masked n) v.place s.upses)))
  event_says s (event.DriverDown v) o h =
      of_driver v s disconnected [] (down_notes v)
      (λ x same there. subst (λ (w : UpsId). Leads (g s.max_age s.moment x)
      (filter_map f (down_notes w x)) (g s.max_age s.moment (disconnected x))) (sym same)
      (ups_goes s.max_age s.moment x x.report.connected refl))
      (λ k. ups_down f v (reads.others v k) s)
  event_says s (event.Tick seconds) o h = tick_says s seconds
  event_says s (event.Open address) o h = of_opened (λ t. Says s [] t) s address (refused_after o) refl (λ room. refl)
  event_says s (event.Feed c piece) o h =
      let t : ServerState = pumped_until (with_input s c piece) c (refused_after o) in
      let xs : List Execution = executions_by s (event.Feed c piece) (refused_after o) in
      silent s t (notes_of_lines xs) (lines_silent f reads.clients xs)
      (same_data s t (own s (event.Feed c piece) (refused_after o) c refl).server)
  event_says s (event.Took c n) o h =
      let t : ServerState = cond (may_take (session c s) n)
      (pumped_until (without_output s c n) c (refused_after o)) s in
      let xs : List Execution = executions_by s (event.Took c n) (refused_after o) in
      silent s t (notes_of_lines xs) (lines_silent f reads.clients xs)
      (same_data s t (own s (event.Took c n) (refused_after o) c refl).server)
  event_says s (event.Close c) o h =
      let t : ServerState = record s { sessions = without c s.sessions } in
      silent s t (cons_option (option_and_then logout_of (session c s)) [])
      (close_silent f reads.clients (session c s)) refl
  event_says s (event.Id id) o h = refl

-- the state of the data
module _ (u : UpsId) where
  noted : (was is : DataState) → Leads was (filter_map (data_in u) (cons_option (data_note u was is) [])) is
  noted was is = elim (noted_or_same u was is) [
    | inl same ↦ rw same.0 same.1
    | inr differs ↦ rw (differs.0, eq-eqb u.place u.place refl) (differs.1, refl)
  ]

  no_data_refused : (b : Bool) (o : LineOutcome) (line : List ℕ) →
      option_and_then (data_in u) (outcome_note u b o line) ≡ None
  no_data_refused b o line = cond_both (is_refused b o) (Some (LineRefused u (fault_of o) (shown_of line)))
      (end_note u o) (λ n. option_and_then (data_in u) n ≡ None) (λ e. refl)
      (λ e. endless (data_in u) u (λ id number. refl) o)

  no_data_status : (was is : Option (List ℕ)) → option_and_then (data_in u) (status_note u was is) ≡ None
  no_data_status was is = grind arith

  ticked_data : (a now : ℕ) (x : UpsState) → data_state_of a now (after_tick a now x) ≡ data_state_of a now x
  ticked_data a now x = cond_both (ping_is_due a now x) _ x
      (λ (y : UpsState). data_state_of a now y ≡ data_state_of a now x) (λ e. refl) (λ e. refl)

  not_lost : (a m : ℕ) (x : UpsState) → x.report.connected ≡ true → data_state_of a m x ≢ Lost
  not_lost a m x is = grind arith

  is_lost : (a m : ℕ) (x : UpsState) → x.report.connected ≡ false → data_state_of a m x ≡ Lost
  is_lost a m x gone = grind arith

  pub data_is_read : IsReadOff Lost data_state_of u (data_in u)
  data_is_read = record {
    line = λ a m b x line.
        let y : UpsState = after_text m b x line in
        rw (
          skip (data_in u) (status_note u (status_of x) (status_of y)) _
              (no_data_status (status_of x) (status_of y)),
          skip (data_in u) (outcome_note u b (after_line m x.report line).1 line)
              (cons_option (data_note u (data_state_of a m x) (data_state_of a m y)) [])
              (no_data_refused b (after_line m x.report line).1 line),
        )
        (noted (data_state_of a m x) (data_state_of a m y));
    loss = λ a m x is.
        rw (
          skip (data_in u) (status_note u (status_of x) None) []
              (no_data_status (status_of x) None),
          eq-eqb u.place u.place refl,
        ) (λ e. not_lost a m x is (sym e), refl);
    connects = λ a m x h gone. rw (is_lost a m x gone, eq-eqb u.place u.place refl)
        (λ e. cc e, connected_awaits a m x);
    ticks = λ a was now x. rw (ticked_data a now x) (noted (data_state_of a was x) (data_state_of a now x));
    others = λ v other. record {
      state = λ state. rw other refl;
      status = λ status. refl;
      refused = λ fault shown. refl;
      ended = λ id number. refl;
    };
    clients = record { into = λ v who. refl; out = λ v who. refl; did = λ deed. refl };
    masked = λ a m x. refl;
    beside = λ a m x bytes. refl;
  }
    where
      connected_awaits : (a m : ℕ) (x : UpsState) → data_state_of a m (after_connecting m x) ≡ Awaited
      connected_awaits a m x = grind arith

-- the status
module _ (u : UpsId) where
  abbrev status : ℕ → ℕ → UpsState → Option (List ℕ)
  status a m x = status_of x

  changed : (was is : Option (List ℕ)) →
      Leads was (filter_map (status_in u) (cons_option (status_note u was is) [])) is
  changed None None = refl
  changed (Some was) None = rw (eq-eqb u.place u.place refl) (λ e. cc e, refl)
  changed None (Some is) = rw (eq-eqb u.place u.place refl) (λ e. cc e, refl)
  changed (Some was) (Some is) = elim (cases_Bool (bytes_eq was is)) [
    | inl k ↦ rw k (sym (ap (λ (z : List ℕ). Some z) ((bytes_eq-Decides was is).0 k)))
    | inr k ↦ rw (k, eq-eqb u.place u.place refl)
        (λ e. never_both (bytes_eq was is) ((bytes_eq-Decides was is).1 (sym (same_Some is was e))) k, refl)
  ]

  no_status_refused : (b : Bool) (o : LineOutcome) (line : List ℕ) →
      option_and_then (status_in u) (outcome_note u b o line) ≡ None
  no_status_refused b o line = cond_both (is_refused b o) (Some (LineRefused u (fault_of o) (shown_of line)))
      (end_note u o) (λ n. option_and_then (status_in u) n ≡ None) (λ e. refl)
      (λ e. endless (status_in u) u (λ id number. refl) o)

  no_status_data : (was is : DataState) → option_and_then (status_in u) (data_note u was is) ≡ None
  no_status_data was is = elim (noted_or_same u was is)
      [ inl same ↦ rw same.0 refl | inr differs ↦ rw differs.0 refl ]

  -- what follows the note of it says nothing of it
  alone : (o : Option Note) (notes : List Note) → filter_map (status_in u) notes ≡ [] →
      filter_map (status_in u) (cons_option o notes) ≡ filter_map (status_in u) (cons_option o [])
  alone None notes silent = silent
  alone (Some note) notes silent = ap (cons_option (status_in u note)) silent

  ticked_status : (a now : ℕ) (x : UpsState) → status_of (after_tick a now x) ≡ status_of x
  ticked_status a now x = cond_both (ping_is_due a now x) _ x
      (λ (y : UpsState). status_of y ≡ status_of x) (λ e. refl) (λ e. refl)

  no_status : (m : ℕ) (x : UpsState) → IsSoundUps m x → x.report.connected ≡ false → status_of x ≡ None
  no_status m x h gone = ap status_of (h.lost gone)

  pub status_is_read : IsReadOff None status u (status_in u)
  status_is_read = record {
    line = λ a m b x line.
        let y : UpsState = after_text m b x line in
        rw (alone (status_note u (status_of x) (status_of y)) _
        (skip (status_in u) (outcome_note u b (after_line m x.report line).1 line) _
        (no_status_refused b (after_line m x.report line).1 line) ∙
        skip (status_in u) (data_note u (data_state_of a m x) (data_state_of a m y)) []
        (no_status_data (data_state_of a m x) (data_state_of a m y))))
        (changed (status_of x) (status_of y));
    loss = λ a m x is. changed (status_of x) None;
    connects = λ a m x h gone. sym (no_status m x h gone);
    ticks = λ a was now x. rw (skip (status_in u)
        (data_note u (data_state_of a was x) (data_state_of a now x)) []
        (no_status_data (data_state_of a was x) (data_state_of a now x))) (ticked_status a now x);
    others = λ v other. record {
      state = λ state. refl;
      status = λ status. rw other refl;
      refused = λ fault shown. refl;
      ended = λ id number. refl;
    };
    clients = record { into = λ v who. refl; out = λ v who. refl; did = λ deed. refl };
    masked = λ a m x. refl;
    beside = λ a m x bytes. refl;
  }

-- refused lines, each once
module _ (u : UpsId) where
  fault_data : (v : UpsId) (was is : DataState) → option_and_then (fault_in u) (data_note v was is) ≡ None
  fault_data v was is = elim (noted_or_same v was is)
      [ inl same ↦ rw same.0 refl | inr differs ↦ rw differs.0 refl ]

  fault_status : (v : UpsId) (was is : Option (List ℕ)) →
      option_and_then (fault_in u) (status_note v was is) ≡ None
  fault_status v was is = grind arith

  refused : (b : Bool) (o : LineOutcome) (line : List ℕ) →
      filter_map (fault_in u) (cons_option (outcome_note u b o line) []) ≡
      cons_option (cond (is_refused b o) (Some (fault_of o)) None) []
  refused b o line = elim (cases_Bool (is_refused b o)) [
    | inl k ↦ rw (k, eq-eqb u.place u.place refl) refl
    | inr k ↦ rw k (skip (fault_in u) (end_note u o) [] (endless (fault_in u) u (λ id number. refl) o))
  ]

  then_none : (o : Option Note) (notes : List Note) → filter_map (fault_in u) notes ≡ [] →
      filter_map (fault_in u) (cons_option o notes) ≡ filter_map (fault_in u) (cons_option o [])
  then_none None notes silent = silent
  then_none (Some note) notes silent = ap (cons_option (fault_in u note)) silent

  of_line_refused : (a m : ℕ) (b : Bool) (x : UpsState) (line : List ℕ) → let r =
      after_line m x.report line in filter_map (fault_in u) (line_notes a m u b x line) ≡
      cons_option (cond (is_refused b r.1) (Some (fault_of r.1)) None) []
  of_line_refused a m b x line =
      let r = after_line m x.report line in
      let y : UpsState = after_text m b x line in
      skip (fault_in u) (status_note u (status_of x) (status_of y)) _ (fault_status u (status_of x) (status_of y))
      ∙ then_none (outcome_note u b r.1 line) _
      (skip (fault_in u) (data_note u (data_state_of a m x) (data_state_of a m y)) []
      (fault_data u (data_state_of a m x) (data_state_of a m y)))
      ∙ refused b r.1 line

  cons_first : {X : Type 0} (o : Option X) (xs : List X) → cons_option o [] ++ xs ≡ cons_option o xs
  cons_first None xs = refl
  cons_first (Some x) xs = refl

  of_texts : (a m : ℕ) (t : TrackingState) (lines : List (List ℕ)) (x : UpsState) →
      filter_map (fault_in u) (texts_notes a m u t lines x) ≡ faults_among x.report (heard_at m u.place t lines)
  of_texts a m t [] x = refl
  of_texts a m t (line ∷ lines) x =
      let b : Bool = is_unawaited u.place (end_in line) t in
      let next : TrackingState = with_end u.place (end_in line) t in
      let r = after_line m x.report line in
      let y : UpsState = after_text m b x line in
      filter_map-append (fault_in u) (line_notes a m u b x line) (texts_notes a m u next lines y)
      ∙ ap₂ (λ xs ys. xs ++ ys) (of_line_refused a m b x line)
      (of_texts a m next lines y ∙ ap
      (λ (report : Report). faults_among report (heard_at m u.place next lines)) (line_leaves b x r).report)
      ∙ cons_first (cond (is_refused b r.1) (Some (fault_of r.1)) None)
      (faults_among r.0 (heard_at m u.place next lines))

  no_loss : (v : UpsId) (x : UpsState) → filter_map (fault_in u) (loss_notes v x) ≡ []
  no_loss v x = skip (fault_in u) (status_note v (status_of x) None) [] (fault_status v (status_of x) None)

  of_text : (a m : ℕ) (t : TrackingState) (text : List ℕ) (k : Option ℕ) (x : UpsState) →
      filter_map (fault_in u) (text_notes a m u t text k x) ≡
      faults_among x.report (heard_at m u.place t (as_far k (whole_lines text)))
  of_text a m t text k x =
      let lines : List (List ℕ) = as_far k (whole_lines text) in
      let y : UpsState = after_texts m u.place t lines x in
      filter_map-append (fault_in u) (texts_notes a m u t lines x) (cond (is_lost_by text k) (loss_notes u y) [])
      ∙ ap₂ (λ xs ys. xs ++ ys) (of_texts a m t lines x)
      (cond_both (is_lost_by text k) (loss_notes u y) []
      (λ notes. filter_map (fault_in u) notes ≡ []) (λ e. no_loss u y) (λ e. refl))
      ∙ append-nil (faults_among x.report (heard_at m u.place t lines))

  blind_fault : (v : UpsId) → eqb v.place u.place ≡ false → IsBlind (fault_in u) v
  blind_fault v other = record {
    state = λ state. refl;
    status = λ status. refl;
    refused = λ fault shown. rw other refl;
    ended = λ id number. refl;
  }

  -- nor is a line refused where a driver connects or is lost, or where the clock goes on
  no_line : (v : UpsId) (s : ServerState) (notes : UpsState → List Note) →
      ((x : UpsState) → filter_map (fault_in u) (notes x) ≡ []) →
      filter_map (fault_in u) (of_ups_notes v s notes) ≡ []
  no_line v s notes none = by_ups (ups_at v.place s)
    where
      by_ups : (o : Option UpsState) → filter_map (fault_in u) (option_map_or notes o []) ≡ []
      by_ups None = refl
      by_ups (Some x) = none x

  no_tick : (a was now place : ℕ) (xs : List UpsState) →
      filter_map (fault_in u) (tick_notes a was now place xs) ≡ []
  no_tick a was now place [] = refl
  no_tick a was now place (x ∷ xs) =
      skip (fault_in u) (tick_note a was now place x) (tick_notes a was now (suc place) xs)
      (fault_data (id_at place) _ _) ∙ no_tick a was now (suc place) xs

  own_bytes : (s : ServerState) (piece : List ℕ) (o : Outcome) →
      filter_map (fault_in u) (of_ups_notes u s (bytes_notes s u piece (refused_after o))) ≡
      faults_among (report_of u s) (heard_in_event u s (event.DriverBytes u piece) o)
  own_bytes s piece o = rw (eq-eqb u.place u.place refl) (by_ups (ups_at u.place s))
    where
      m : Option ℕ
      m = refused_after o

      by_connection : (x : UpsState) (b : Bool) →
          filter_map (fault_in u) (cond b (text_notes s.max_age s.moment u s.tracking (x.unfinished ++ piece) m x) [])
          ≡ faults_among x.report (cond b
          (heard_at s.moment u.place s.tracking (as_far m (whole_lines (x.unfinished ++ piece)))) [])
      by_connection x true = of_text s.max_age s.moment s.tracking (x.unfinished ++ piece) m x
      by_connection x false = refl

      by_ups : (p : Option UpsState) → filter_map (fault_in u) (option_map_or (bytes_notes s u piece m) p [])
          ≡ faults_among (option_map_or (λ x. x.report) p lost_report)
          (cond (option_map_or (λ x. x.report.connected) p false)
          (heard_at s.moment u.place s.tracking
          (as_far m (whole_lines (option_map_or (λ x. x.unfinished) p [] ++ piece)))) [])
      by_ups None = refl
      by_ups (Some x) = by_connection x x.report.connected

  clients : IsOfUpses (fault_in u)
  clients = record { into = λ v who. refl; out = λ v who. refl; did = λ deed. refl }

  pub event_refuses : (s : ServerState) (e : Event) (o : Outcome) →
      filter_map (fault_in u) (all_notes s e (refused_after o)) ≡
      faults_among (report_of u s) (heard_in_event u s e o)
  event_refuses s (event.DriverUp v) o =
      no_line v s (connect_notes v) (λ x. cond_both x.report.connected [] (Data v Awaited ∷ [])
      (λ notes. filter_map (fault_in u) notes ≡ []) (λ e. refl) (λ e. refl))
  event_refuses s (event.DriverBytes v piece) o = elim (cases_Bool (eqb v.place u.place)) [
    | inl k ↦ subst (λ (w : UpsId). filter_map (fault_in u)
        (of_ups_notes w s (bytes_notes s w piece (refused_after o))) ≡
        faults_among (report_of u s) (heard_in_event u s (event.DriverBytes w piece) o))
        (sym (same_ups v u (eqb-true v.place u.place k))) (own_bytes s piece o)
    | inr k ↦ rw k (ups_bytes (fault_in u) v (blind_fault v k) s piece (refused_after o))
  ]
  event_refuses s (event.DriverDown v) o =
      no_line v s (down_notes v) (λ x. cond_both x.report.connected (loss_notes v x) []
      (λ notes. filter_map (fault_in u) notes ≡ []) (λ e. no_loss v x) (λ e. refl))
  event_refuses s (event.Tick seconds) o = no_tick s.max_age s.moment (max seconds s.moment) 0 s.upses
  event_refuses s (event.Feed c piece) o =
      lines_silent (fault_in u) clients (executions_by s (event.Feed c piece) (refused_after o))
  event_refuses s (event.Took c n) o =
      lines_silent (fault_in u) clients (executions_by s (event.Took c n) (refused_after o))
  event_refuses s (event.Close c) o = close_silent (fault_in u) clients (session c s)
  event_refuses s e o = refl
