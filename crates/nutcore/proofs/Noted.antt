-- What is read off the notes of an event.
use Rattle.std.proofs.Common.{◌≡◌, ◌≢◌, ◌∙◌, ◌⊎◌, inl, inr, ℕ, suc, Bool}
use Rattle.std.proofs.Common.{List, [], ◌∷◌, ◌++◌, Option, Some, None, Result, Ok, refl}
use Rattle.std.proofs.Common.{sym, ap, ap₂, subst, cond}
use Rattle.std.specs.List.{filter_map, cons_option}
use Rattle.std.specs.Option.{option_and_then}
use Rattle.std.specs.Str.{bytes_eq}
use Rattle.arrayvec.specs.declared.array_vec.ArrayVec.{ArrayVec}
use Rattle.nutdriver.specs.declared.fault.DriverFault.{DriverFault}
use Rattle.nutusers.specs.UpsList.{id_at}
use Rattle.nutcommand.specs.declared.command.Command.{Command}
use Rattle.nutcommand.specs.declared.command.Command.TheVariants.{Login, Primary, Fsd, SetVar, InstCmd}
use Rattle.nutcommand.specs.declared.err_word.ErrWord.{ErrWord}
use Rattle.nutcommand.specs.Command.{read_command}
use Rattle.nutanswer.specs.declared.reply.Change.TheVariants as changes
use Rattle.std.proofs.lemmas.List.Elements.{filter_map-append}
use Rattle.nutcore.proofs.Common.{cond_both, option_map, option_map_or, UpsId, TrackingState}
use Rattle.nutcore.proofs.Common.{Change, SessionState, UpsState}
use Rattle.nutcore.proofs.Common.{ServerState, session, ups_at}
use Rattle.nutcore.specs.declared.note.DataState.{DataState}
use Rattle.nutcore.specs.declared.note.DataState.TheVariants as states
use Rattle.nutcore.specs.declared.note.Note.{Note}
use Rattle.nutcore.specs.declared.note.Note.TheVariants.{Data, StatusChanged, LineRefused}
use Rattle.nutcore.specs.declared.note.Note.TheVariants.{OrderEnded, LoggedIn, LoggedOut, Did}
use Rattle.nutcore.specs.declared.note.Deed.{Deed}
use Rattle.nutcore.specs.declared.note.TheConstants.{SHOWN_LIMIT}
use Rattle.nutcore.specs.History.{Execution, of_line, of_notice, client_of}
use Rattle.nutcore.specs.Reply.{refusal_by, change_by}
use Rattle.nutwords.specs.WholeLines.{whole_lines}
use Rattle.nutdriver.specs.declared.report.LineOutcome.{LineOutcome}
use Rattle.nutdriver.specs.Report.{after_line, end_in}
use Rattle.nutcore.specs.Reports.{with_end, is_unawaited}
use Rattle.nutcore.specs.Ups.{is_refused, as_far, after_text, after_texts}
use Rattle.nutcore.specs.Notes.{who_of, logout_of, deed_of, note_read, note_of, data_state_of}
use Rattle.nutcore.specs.Notes.{status_of, fault_of, shown_of, end_note}
use Rattle.nutdriver.specs.declared.report.LineOutcome.TheVariants.{Accepted, Tracked, Refused}
use Rattle.nutcore.specs.Notes.{outcome_note, status_note, data_note, line_notes, texts_notes, loss_notes, is_lost_by}
use Rattle.nutcore.specs.Notes.{text_notes, connect_notes, bytes_notes, down_notes, of_ups_notes, tick_note, tick_notes}
use Rattle.nutcore.specs.NotedRuns.{Leads}

-- one path after another
pub leads_on : {A : Type 0} (xs ys : List A) (a b d : A) → Leads a xs b → Leads b ys d → Leads a (xs ++ ys) d
leads_on [] ys a b d f g = subst (λ z. Leads z ys d) f g
leads_on (x ∷ xs) ys a b d f g = (f.0, leads_on xs ys x b d f.1 g)

-- one that leads nowhere
pub leads_nowhere : {A : Type 0} (a b : A) (xs : List A) → xs ≡ [] → b ≡ a → Leads a xs b
leads_nowhere a b xs none same = subst (λ ys. Leads a ys b) (sym none) same

pub skip : {X : Type 0} (f : Note → Option X) (o : Option Note) (notes : List Note) →
    option_and_then f o ≡ None → filter_map f (cons_option o notes) ≡ filter_map f notes
skip f None notes none = refl
skip f (Some note) notes none = ap (λ x. cons_option x (filter_map f notes)) none

-- how the data stand is noted where they stood otherwise
pub noted_or_same : (u : UpsId) (was is : DataState) →
    ((data_note u was is ≡ None) × (is ≡ was)) ⊎ ((data_note u was is ≡ Some (Data u is)) × (is ≢ was))
noted_or_same u states.Lost states.Lost = inl (refl, refl)
noted_or_same u states.Awaited states.Awaited = inl (refl, refl)
noted_or_same u states.Good states.Good = inl (refl, refl)
noted_or_same u states.Stale states.Stale = inl (refl, refl)
noted_or_same u was is = inr (refl, λ e. cc e)

-- what is read of no note of this UPS
pub record IsBlind {X : Type 0} (f : Note → Option X) (v : UpsId) : Type 0 where
  pub state : (state : DataState) → f (Data v state) ≡ None
  pub status : (status : Option (List ℕ)) → f (StatusChanged v status) ≡ None
  pub refused : (fault : Option DriverFault) (shown : Option (ArrayVec ℕ SHOWN_LIMIT (Unit {0}))) →
      f (LineRefused v fault shown) ≡ None
  pub ended : (id number : ℕ) → f (OrderEnded v id number) ≡ None

-- of no end of an order
pub endless : {X : Type 0} (f : Note → Option X) (v : UpsId)
    → ((id number : ℕ) → f (OrderEnded v id number) ≡ None)
    → (o : LineOutcome) → option_and_then f (end_note v o) ≡ None
endless f v none Accepted = refl
endless f v none (Tracked id number) = none id number
endless f v none (Refused fault) = refl

module _ {X : Type 0} (f : Note → Option X) (v : UpsId) (blind : IsBlind f v) where
  pub blind_data : (was is : DataState) → option_and_then f (data_note v was is) ≡ None
  blind_data was is = elim (noted_or_same v was is)
      [ inl same ↦ rw same.0 refl | inr told ↦ rw told.0 (blind.state is) ]

  pub blind_refused : (b : Bool) (o : LineOutcome) (line : List ℕ) →
      option_and_then f (outcome_note v b o line) ≡ None
  blind_refused b o line = cond_both (is_refused b o) (Some (LineRefused v (fault_of o) (shown_of line)))
      (end_note v o) (λ n. option_and_then f n ≡ None) (λ e. blind.refused (fault_of o) (shown_of line))
      (λ e. endless f v blind.ended o)

  pub blind_status : (was is : Option (List ℕ)) → option_and_then f (status_note v was is) ≡ None
  blind_status None None = refl
  blind_status (Some was) None = blind.status None
  blind_status None (Some is) = blind.status (Some is)
  blind_status (Some was) (Some is) =
      cond_both (bytes_eq was is) None _ (λ o. option_and_then f o ≡ None) (λ e. refl)
      (λ e. blind.status (Some is))

  blind_line : (a m : ℕ) (b : Bool) (x : UpsState) (line : List ℕ) →
      filter_map f (line_notes a m v b x line) ≡ []
  blind_line a m b x line =
      let y : UpsState = after_text m b x line in
      skip f (status_note v (status_of x) (status_of y)) _ (blind_status (status_of x) (status_of y))
      ∙ skip f (outcome_note v b (after_line m x.report line).1 line) _
      (blind_refused b (after_line m x.report line).1 line)
      ∙ skip f (data_note v (data_state_of a m x) (data_state_of a m y)) []
      (blind_data (data_state_of a m x) (data_state_of a m y))

  blind_texts : (a m : ℕ) (t : TrackingState) (lines : List (List ℕ)) (x : UpsState) →
      filter_map f (texts_notes a m v t lines x) ≡ []
  blind_texts a m t [] x = refl
  blind_texts a m t (line ∷ lines) x =
      let b : Bool = is_unawaited v.place (end_in line) t in
      let next : TrackingState = with_end v.place (end_in line) t in
      let y : UpsState = after_text m b x line in
      filter_map-append f (line_notes a m v b x line) (texts_notes a m v next lines y) ∙
      ap₂ (λ xs ys. xs ++ ys) (blind_line a m b x line) (blind_texts a m next lines y)

  pub blind_loss : (x : UpsState) → filter_map f (loss_notes v x) ≡ []
  blind_loss x = skip f (Some (Data v states.Lost)) _ (blind.state states.Lost) ∙
      skip f (status_note v (status_of x) None) [] (blind_status (status_of x) None)

  pub blind_text : (a m : ℕ) (t : TrackingState) (text : List ℕ) (k : Option ℕ) (x : UpsState)
      → filter_map f (text_notes a m v t text k x) ≡ []
  blind_text a m t text k x =
      let lines : List (List ℕ) = as_far k (whole_lines text) in
      let y : UpsState = after_texts m v.place t lines x in
      filter_map-append f (texts_notes a m v t lines x) (cond (is_lost_by text k) (loss_notes v y) [])
      ∙ ap₂ (λ xs ys. xs ++ ys) (blind_texts a m t lines x)
      (cond_both (is_lost_by text k) (loss_notes v y) [] (λ notes. filter_map f notes ≡ [])
      (λ e. blind_loss y) (λ e. refl))

  -- nor of its driver's events
  blind_ups : (s : ServerState) (notes : UpsState → List Note) →
      ((x : UpsState) → filter_map f (notes x) ≡ []) → filter_map f (of_ups_notes v s notes) ≡ []
  blind_ups s notes none = by_ups (ups_at v.place s)
    where
      by_ups : (o : Option UpsState) → filter_map f (option_map_or notes o []) ≡ []
      by_ups None = refl
      by_ups (Some x) = none x

  pub blind_connect : (x : UpsState) → filter_map f (connect_notes v x) ≡ []
  blind_connect x = cond_both x.report.connected [] (Data v states.Awaited ∷ [])
      (λ notes. filter_map f notes ≡ []) (λ e. refl)
      (λ e. skip f (Some (Data v states.Awaited)) [] (blind.state states.Awaited))

  pub blind_bytes : (s : ServerState) (piece : List ℕ) (k : Option ℕ) (x : UpsState) →
      filter_map f (bytes_notes s v piece k x) ≡ []
  blind_bytes s piece k x = cond_both x.report.connected _ [] (λ notes. filter_map f notes ≡ [])
      (λ e. blind_text s.max_age s.moment s.tracking (x.unfinished ++ piece) k x) (λ e. refl)

  pub blind_down : (x : UpsState) → filter_map f (down_notes v x) ≡ []
  blind_down x = cond_both x.report.connected (loss_notes v x) []
      (λ notes. filter_map f notes ≡ []) (λ e. blind_loss x) (λ e. refl)

  pub ups_up : (s : ServerState) → filter_map f (of_ups_notes v s (connect_notes v)) ≡ []
  ups_up s = blind_ups s (connect_notes v) blind_connect

  pub ups_bytes : (s : ServerState) (piece : List ℕ) (k : Option ℕ) →
      filter_map f (of_ups_notes v s (bytes_notes s v piece k)) ≡ []
  ups_bytes s piece k = blind_ups s (bytes_notes s v piece k) (blind_bytes s piece k)

  pub ups_down : (s : ServerState) → filter_map f (of_ups_notes v s (down_notes v)) ≡ []
  ups_down s = blind_ups s (down_notes v) blind_down

pub blind_tick : {X : Type 0} (f : Note → Option X) → ((v : UpsId) → IsBlind f v) →
    (max_age was now place : ℕ) (xs : List UpsState) → filter_map f (tick_notes max_age was now place xs) ≡ []
blind_tick f blind max_age was now place [] = refl
blind_tick f blind max_age was now place (x ∷ xs) =
    skip f (tick_note max_age was now place x) (tick_notes max_age was now (suc place) xs)
    (blind_data f (id_at place) (blind (id_at place)) _ _) ∙ blind_tick f blind max_age was now (suc place) xs

-- what reads no logout reads nothing of a session that is closed
pub deaf_close : {X : Type 0} (f : Note → Option X) →
    ((x : SessionState) → option_and_then f (logout_of x) ≡ None) → (o : Option SessionState)
    → filter_map f (cons_option (option_and_then logout_of o) []) ≡ []
deaf_close f deaf None = refl
deaf_close f deaf (Some x) = skip f (logout_of x) [] (deaf x)

-- what reads no deed
pub deaf_deed : {X : Type 0} (f : Note → Option X) →
    ((deed : Deed) → f (Did deed) ≡ None) →
    (x : SessionState) (refusal : Option ErrWord) (id : Option ℕ) (read : Result (Option Command) ErrWord)
    → option_and_then f (deed_of x refusal id read) ≡ None
deaf_deed f does x refusal id (Ok (Some (Login ups))) = does _
deaf_deed f does x refusal id (Ok (Some (Primary ups))) = does _
deaf_deed f does x refusal id (Ok (Some (Fsd ups))) = does _
deaf_deed f does x refusal id (Ok (Some (SetVar ups name value))) = does _
deaf_deed f does x refusal id (Ok (Some (InstCmd ups name value))) = does _
deaf_deed f does x refusal id read = refl

-- what reads nothing of a session
pub record IsDeaf {X : Type 0} (f : Note → Option X) (x : SessionState) : Type 0 where
  pub logs_in : (u : UpsId) → f (LoggedIn u (who_of x)) ≡ None
  pub logs_out : (u : UpsId) → f (LoggedOut u (who_of x)) ≡ None
  pub does : (deed : Deed) → f (Did deed) ≡ None

module _ {X : Type 0} (f : Note → Option X) (x : SessionState) (deaf : IsDeaf f x) where
  pub deaf_logout : option_and_then f (logout_of x) ≡ None
  deaf_logout = of_login x.login
    where
      of_login : (o : Option UpsId) → option_and_then f (option_map (λ u. LoggedOut u (who_of x)) o) ≡ None
      of_login None = refl
      of_login (Some u) = deaf.logs_out u

  deaf_read : (read : Result (Option Command) ErrWord) (refusal : Option ErrWord) (change : Change)
      → option_and_then f (note_read x read refusal change) ≡ None
  deaf_read read (Some word) change = deaf_deed f deaf.does x (Some word) None read
  deaf_read read None (changes.Login u) = deaf.logs_in u
  deaf_read read None changes.Ending = deaf_logout
  deaf_read read None (changes.Fsd u) = deaf_deed f deaf.does x None None read
  deaf_read read None (changes.Order u line) = deaf_deed f deaf.does x None None read
  deaf_read read None (changes.Tracked u id line) = deaf_deed f deaf.does x None (Some id) read
  deaf_read read None change = refl

-- reads nothing of what is executed for it
pub deaf_execution : {X : Type 0} (f : Note → Option X) (y : Execution) →
    ((s : ServerState) (x : SessionState) → session (client_of y) s ≡ Some x → IsDeaf f x) →
    option_and_then f (note_of y) ≡ None
deaf_execution f (of_line s c line) deaf = of_session (session c s) (deaf s) (read_command line)
  where
    of_session : (o : Option SessionState) →
        ((x : SessionState) → o ≡ Some x → IsDeaf f x) → (read : Result (Option Command) ErrWord)
        → option_and_then f (option_and_then
        (λ x. note_read x read (refusal_by s c read) (change_by s c read)) o) ≡ None
    of_session None deaf read = refl
    of_session (Some x) deaf read = deaf_read f x (deaf x refl) read (refusal_by s c read) (change_by s c read)
deaf_execution f (of_notice s c) deaf = of_session (session c s) (deaf s)
  where
    of_session : (o : Option SessionState) →
        ((x : SessionState) → o ≡ Some x → IsDeaf f x) →
        option_and_then f (option_and_then logout_of o) ≡ None
    of_session None deaf = refl
    of_session (Some x) deaf = deaf_logout f x (deaf x refl)
