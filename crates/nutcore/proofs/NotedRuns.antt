-- What is noted over a run.
use Rattle.std.proofs.Common.{◌≡◌, ◌∙◌, List, [], ◌∷◌, ◌++◌, ℕ, Option}
use Rattle.std.proofs.Common.{None, All, refl, sym, ap, ap₂, subst, arith, max}
use Rattle.std.specs.List.{filter_map}
use Rattle.std.specs.Option.{option_and_then}
use Rattle.std.proofs.lemmas.List.Elements.{filter_map-append, All-head, All-tail}
use Rattle.nutcore.proofs.Common.{UpsId, Event, Outcome, SessionState, ServerState, session, Step, after, Run}
use Rattle.nutcore.specs.declared.event.Event.TheVariants.{DriverUp, DriverBytes, DriverDown, Tick, Feed, Took, Close}
use Rattle.nutcore.specs.declared.note.Note.{Note}
use Rattle.nutcore.specs.Step.{refused_after}
use Rattle.nutcore.specs.History.{executions_by, executions_in_event, executions}
use Rattle.nutcore.specs.Notes.{logout_of, note_of, notes_of_lines, all_notes, notes_of}
use Rattle.nutcore.specs.Notes.{IsReadAtOnce, data_state_of, status_of}
use Rattle.nutcore.specs.declared.note.DataState.TheVariants.{Lost}
use Rattle.nutcore.specs.NotedRuns.{notes_along, Leads, data_at, data_in, status_at, status_in, fault_in, faults_along}
use Rattle.nutcore.specs.NotedRuns.{login_at, login_in, deed_in, TheNotesOfARunAreWhatChanged}
use Rattle.nutcore.specs.Sound.{IsSound, EachEventKeepsTheServerSound}
use Rattle.nutcore.proofs.Histories.{later}
use Rattle.nutcore.proofs.Noted.{leads_on, IsBlind, ups_up, ups_bytes, ups_down, blind_tick, deaf_close}
use Rattle.nutcore.proofs.NotedUpses.{event_says, data_is_read, status_is_read, event_refuses}
use Rattle.nutcore.proofs.NotedLogins.{event_logs}
use Rattle.nutcore.proofs.NoteRoom.{no_note_is_cut}

-- what clients did, in each event
no_deed : (x : SessionState) → option_and_then deed_in (logout_of x) ≡ None
no_deed x = grind arith

blind : (v : UpsId) → IsBlind deed_in v
blind v = record {
  state = λ state. refl;
  status = λ status. refl;
  refused = λ fault shown. refl;
  ended = λ id number. refl;
}

event_does : (s : ServerState) (e : Event) (m : Option ℕ) →
    filter_map deed_in (all_notes s e m) ≡ filter_map deed_in (notes_of_lines (executions_by s e m))
unfolding executions_by
event_does s (DriverUp u) m = ups_up deed_in u (blind u) s
event_does s (DriverBytes u piece) m = ups_bytes deed_in u (blind u) s piece m
event_does s (DriverDown u) m = ups_down deed_in u (blind u) s
event_does s (Tick seconds) m = blind_tick deed_in blind s.max_age s.moment (max seconds s.moment) 0 s.upses
event_does s (Feed c piece) m = refl
event_does s (Took c n) m = refl
event_does s (Close c) m = deaf_close deed_in no_deed (session c s)
event_does s e m = refl

-- what each event says in its notes, a run says
module _ {A : Type 0} (reads : ServerState → A) (f : Note → Option A)
    (says : (s : ServerState) (e : Event) (o : Outcome) → IsSound s →
    Leads (reads s) (filter_map f (all_notes s e (refused_after o))) (reads (after s e o)))
    (keeps : EachEventKeepsTheServerSound) where
  run_says : (s t : ServerState) (es : List Event) (os : List Outcome) → IsSound s →
      All IsReadAtOnce es → Run s es os t → Leads (reads s) (filter_map f (notes_along s es os)) (reads t)
  run_says s t [] [] h few r = ap reads r
  run_says s t (e ∷ es) (o ∷ os) h few (mid, step, r) =
      let next : ServerState = after s e o in
      let here = subst (λ (notes : List Note). Leads (reads s) (filter_map f notes) (reads next))
      (sym (no_note_is_cut s e o h (All-head IsReadAtOnce e es few))) (says s e o h) in
      rw (filter_map-append f (notes_of s e o) (notes_along next es os))
      (leads_on (filter_map f (notes_of s e o)) (filter_map f (notes_along next es os)) (reads s)
      (reads next) (reads t) here (run_says next t es os
      (subst IsSound step.leaves (keeps s mid e o step h)) (All-tail IsReadAtOnce e es few) (later t es os step r)))
  run_says s t es os h few r = absurd r

-- an event of a run: no note of it is cut, and the server stays sound, with its list
module _ (keeps : EachEventKeepsTheServerSound) where
  sound_after : (s mid : ServerState) (e : Event) (o : Outcome) → Step s e o mid → IsSound s →
      IsSound (after s e o)
  sound_after s mid e o step h = subst IsSound step.leaves (keeps s mid e o step h)

  run_refuses : (u : UpsId) (s t : ServerState) (es : List Event) (os : List Outcome) →
      IsSound s → All IsReadAtOnce es → Run s es os t →
      filter_map (fault_in u) (notes_along s es os) ≡ faults_along u s es os
  run_refuses u s t [] [] h few r = refl
  run_refuses u s t (e ∷ es) (o ∷ os) h few (mid, step, r) =
      let next : ServerState = after s e o in
      let here = ap (filter_map (fault_in u))
      (no_note_is_cut s e o h (All-head IsReadAtOnce e es few)) ∙ event_refuses u s e o in
      filter_map-append (fault_in u) (notes_of s e o) (notes_along next es os)
      ∙ ap₂ (λ xs ys. xs ++ ys) here
      (run_refuses u next t es os (sound_after s mid e o step h) (All-tail IsReadAtOnce e es few)
      (later t es os step r))
  run_refuses u s t es os h few r = absurd r

  run_does : (s t : ServerState) (es : List Event) (os : List Outcome) → IsSound s →
      All IsReadAtOnce es → Run s es os t → filter_map deed_in (notes_along s es os) ≡
      filter_map deed_in (notes_of_lines (executions s es os))
  run_does s t [] [] h few r = refl
  run_does s t (e ∷ es) (o ∷ os) h few (mid, step, r) =
      let next : ServerState = after s e o in
      let here = ap (filter_map deed_in) (no_note_is_cut s e o h (All-head IsReadAtOnce e es few))
      ∙ event_does s e (refused_after o) in
      let both = ap (filter_map deed_in)
      (filter_map-append note_of (executions_in_event s e o) (executions next es os)) ∙
      filter_map-append deed_in (notes_of_lines (executions_in_event s e o)) (notes_of_lines (executions next es os)) in
      filter_map-append deed_in (notes_of s e o) (notes_along next es os) ∙
      ap₂ (λ xs ys. xs ++ ys) here
      (run_does next t es os (sound_after s mid e o step h) (All-tail IsReadAtOnce e es few)
      (later t es os step r)) ∙ sym both
  run_does s t es os h few r = absurd r

  pub noted_runs : TheNotesOfARunAreWhatChanged
  noted_runs = record {
    states = λ old new events outcomes u h few run. run_says (data_at u) (data_in u)
        (event_says Lost data_state_of u (data_in u) (data_is_read u)) keeps old new events outcomes h few run;
    statuses = λ old new events outcomes u h few run. run_says (status_at u) (status_in u)
        (event_says None (λ a m. status_of) u (status_in u) (status_is_read u)) keeps old new
        events outcomes h few run;
    refusals = λ old new events outcomes u h few run. run_refuses u old new events outcomes h few run;
    logins = λ old new events outcomes c h few run. run_says (login_at c) (login_in c)
        (λ s e o h. event_logs c s e o) keeps old new events outcomes h few run;
    deeds = λ old new events outcomes h few run. run_does old new events outcomes h few run;
  }
