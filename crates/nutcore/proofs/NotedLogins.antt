-- What is noted of the login of a client.
use Rattle.std.proofs.Common.{◌≡◌, ◌≢◌, ◌∙◌, inl, inr, ℕ, Bool, true, false}
use Rattle.std.proofs.Common.{eqb, List, [], ◌∷◌, Option, Some, None, Result, Ok, Err, refl}
use Rattle.std.proofs.Common.{sym, ap, subst, cond, max}
use Rattle.std.specs.List.{filter_map, cons_option}
use Rattle.std.specs.Option.{option_and_then}
use Rattle.std.specs.Result.{result_err}
use Rattle.std.proofs.lemmas.Bool.{cases_Bool, eq-eqb}
use Rattle.std.proofs.lemmas.List.Elements.{filter_map-append}
use Rattle.nutcommand.specs.declared.command.Command.{Command}
use Rattle.nutcommand.specs.declared.err_word.ErrWord.{ErrWord}
use Rattle.nutanswer.specs.declared.reply.Change.TheVariants as changes
use Rattle.nutcommand.specs.Command.{read_command}
use Rattle.nutanswer.specs.Answer.{Answer, answer_to, change_of_answer}
use Rattle.nutanswer.specs.Rows.{ComesOf}
use Rattle.nutanswer.proofs.PublicLaws.{each_change_comes_of_its_command}
use Rattle.nutcore.proofs.Common.{option_map, eqb-true, UpsId, Change, Event, Outcome, SessionState}
use Rattle.nutcore.proofs.Common.{ServerState, session, with_session_changed, after}
use Rattle.nutcore.specs.declared.event.Event.TheVariants as event
use Rattle.nutcore.specs.declared.note.Note.{Note}
use Rattle.nutcore.specs.declared.note.Note.TheVariants.{LoggedOut}
use Rattle.nutcore.specs.Session.{new_session, without}
use Rattle.nutcore.specs.Reply.{seen, asker, asker_of, reply, refusal_by, change_by, changed_session}
use Rattle.nutcore.specs.Pump.{next_line_for, answered, after_line, notified}
use Rattle.nutcore.specs.Step.{joined, with_input, taken_from, without_output, may_take}
use Rattle.nutcore.specs.Step.{pumped_until, after_by, refused_after}
use Rattle.nutcore.specs.DriverEvents.{ticked}
use Rattle.nutcore.specs.History.{Execution, of_line, of_notice, executions_until, executions_by}
use Rattle.nutcore.specs.Notes.{who_of, logout_of, deed_of, note_read, note_of, notes_of_lines, all_notes}
use Rattle.nutcore.specs.NotedRuns.{Leads, login_at, login_in}
use Rattle.nutcore.proofs.Changed.{of_opened, session_changed, presence_other}
use Rattle.nutcore.proofs.DriverText.{bytes_change}
use Rattle.nutcore.proofs.Found.{find_id, find_without, find_without_other, of_pushed}
use Rattle.nutcore.proofs.Histories.{own_or_other, until_keeps}
use Rattle.nutcore.proofs.Loops.{found_after_line}
use Rattle.nutcore.proofs.Noted.{leads_on, leads_nowhere, skip, IsBlind, ups_up, ups_bytes}
use Rattle.nutcore.proofs.Noted.{ups_down, blind_tick, IsDeaf, deaf_deed, deaf_execution}
use Rattle.nutcore.proofs.Progress.{Presence}
use Rattle.nutcore.proofs.Pumping.{is_next, other_after_line}

abbrev login : Option SessionState → Option UpsId
login o = option_and_then (λ x. x.login) o

-- what the notes of an event say of the client's login
abbrev Logs : ℕ → ServerState → List Note → ServerState → Type 0
Logs c s notes t = Leads (login_at c s) (filter_map (login_in c) notes) (login_at c t)

-- whose session it is
its_id : (c : ℕ) (s : ServerState) (x : SessionState) → session c s ≡ Some x → eqb x.id c ≡ true
its_id c s x found = eq-eqb x.id c (find_id c s.sessions x found)

-- what is noted of another's says nothing of this one
apart : (c d : ℕ) → c ≢ d → (s : ServerState) (x : SessionState) → session d s ≡
    Some x → IsDeaf (login_in c) x
apart c d differ s x found = elim (cases_Bool (eqb x.id c)) [
  | inl own ↦ absurd (differ (sym (eqb-true x.id c own) ∙ find_id d s.sessions x found))
  | inr other ↦ record { logs_in = λ u. rw other refl; logs_out = λ u. rw other refl; does = λ deed. refl }
]

-- a session that is changed, and keeps its login
kept_login : (f : SessionState → SessionState) → ((x : SessionState) → (f x).id ≡ x.id) →
    ((x : SessionState) → (f x).login ≡ x.login) → (c d : ℕ) (s : ServerState) →
    login_at c (with_session_changed f d s) ≡ login_at c s
kept_login f id same c d s = own_or_other c d
    (λ z b. login_at z (with_session_changed f d s) ≡ login_at z s)
    (ap login (session_changed f id d s) ∙ mapped (session d s))
    (λ differ. ap (λ (p : Presence). login p.session) (presence_other f id c d s differ))
  where
    mapped : (o : Option SessionState) → login (option_map f o) ≡ login o
    mapped None = refl
    mapped (Some x) = same x

-- a logout
out_by : (c : ℕ) (x : SessionState) (o : Option UpsId) → eqb x.id c ≡ true →
    Leads o (filter_map (login_in c) (cons_option (option_map (λ u. LoggedOut u (who_of x)) o) [])) None
out_by c x None its = refl
out_by c x (Some u) its = rw its (λ e. cc e, refl)

outs : (c : ℕ) (o : Option SessionState) →
    ((x : SessionState) → o ≡ Some x → eqb x.id c ≡ true) →
    Leads (login o) (filter_map (login_in c) (cons_option (option_and_then logout_of o) [])) None
outs c None its = refl
outs c (Some x) its = out_by c x x.login (its x refl)

-- of a client that is over then
out_logs : (c d : ℕ) (s t : ServerState) → login_at d t ≡ None →
    (c ≢ d → login_at c t ≡ login_at c s) →
    Logs c s (cons_option (option_and_then logout_of (session d s)) []) t
out_logs c d s t over same = own_or_other c d
    (λ z b. Logs z s (cons_option (option_and_then logout_of (session d s)) []) t)
    (subst (λ (o : Option UpsId). Leads (login_at d s)
    (filter_map (login_in d) (cons_option (option_and_then logout_of (session d s)) [])) o)
    (sym over) (outs d (session d s) (λ x found. its_id d s x found)))
    (λ differ. leads_nowhere (login_at c s) (login_at c t) _
    (skip (login_in c) (option_and_then logout_of (session d s)) []
    (deaf_execution (login_in c) (of_notice s d) (λ z x found. apart c d differ z x found))) (same differ))

-- a line of the client, whose session is x before it
module _ (c : ℕ) (s : ServerState) (x y : SessionState) (its : eqb x.id c ≡ true)
    (found : session c s ≡ Some x) (same : y.login ≡ x.login) (read : Result (Option Command) ErrWord) where
  -- what is noted of a refusal, or of a change, and what it leaves
  abbrev Ends : Option ErrWord → Change → Type 0
  Ends refusal change = Leads x.login
      (filter_map (login_in c) (cons_option (note_read x read refusal change) [])) (changed_session change y).login

  deed : (refusal : Option ErrWord) (id : Option ℕ) →
      Leads x.login (filter_map (login_in c) (cons_option (deed_of x refusal id read) [])) y.login
  deed refusal id = leads_nowhere x.login y.login _
      (skip (login_in c) (deed_of x refusal id read) [] (deaf_deed (login_in c) (λ deed. refl) x refusal id read)) same

  of_change : (change : Change) →
      ((u : UpsId) → change ≡ changes.Login u → x.login ≡ None) → Ends None change
  of_change (changes.Login u) fresh = rw (its, fresh u refl) (λ e. cc e, refl)
  of_change changes.Ending fresh = out_by c x x.login its
  of_change (changes.Fsd u) fresh = deed None None
  of_change (changes.Order u line) fresh = deed None None
  of_change (changes.Tracked u id line) fresh = deed None (Some id)
  of_change change fresh = same

  of_answer : (command : Command) (a : Result Answer ErrWord) →
      ComesOf (seen s) (asker c s) command (change_of_answer a) → Ends (result_err a) (change_of_answer a)
  of_answer command (Err word) row = deed (Some word) None
  of_answer command (Ok answer) row = of_change (change_of_answer (Ok answer)) (λ u is.
      let fresh = (subst (ComesOf (seen s) (asker c s) command) is row).fresh in
      ap (λ (o : Option SessionState). (asker_of o).login) (sym found) ∙ fresh)

  of_read : (r : Result (Option Command) ErrWord) → Ends (refusal_by s c r) (change_by s c r)
  of_read (Err word) = deed (Some word) None
  of_read (Ok None) = same
  of_read (Ok (Some command)) = of_answer command (answer_to (seen s) (asker c s) command)
      (each_change_comes_of_its_command (seen s) (asker c s) command)

line_logs : (c d : ℕ) (s : ServerState) (line : List ℕ) → next_line_for s d ≡ Some line →
    Logs c s (notes_of_lines (of_line s d line ∷ [])) (after_line s d)
line_logs c d s line next =
    let n = is_next s d line next in
    let read : Result (Option Command) ErrWord = read_command line in
    own_or_other c d (λ z b. Logs z s (notes_of_lines (of_line s d line ∷ [])) (after_line s d))
    (subst (λ (o : Option SessionState). Leads (login o)
    (filter_map (login_in d) (cons_option
    (option_and_then (λ x. note_read x read (refusal_by s d read) (change_by s d read)) o) []))
    (login (session d (after_line s d)))) (sym n.found)
    (subst (λ (o : Option SessionState). Leads n.asking.login
    (filter_map (login_in d) (cons_option
    (note_read n.asking read (refusal_by s d read) (change_by s d read)) [])) (login o))
    (sym (found_after_line s d line n.asking n.found next))
    (of_read d s n.asking (answered line (reply s d line) n.asking) (its_id d s n.asking n.found)
    n.found refl read read)))
    (λ differ. leads_nowhere (login_at c s) (login_at c (after_line s d)) _
    (skip (login_in c) (note_of (of_line s d line)) []
    (deaf_execution (login_in c) (of_line s d line) (λ z x found. apart c d differ z x found)))
    (ap (λ (p : Presence). login p.session) (other_after_line c d s line next differ)))

-- the notice
none_left : (o : Option SessionState) → login (option_map notified o) ≡ None
none_left None = refl
none_left (Some x) = refl

pump_logs : (c d : ℕ) (s : ServerState) (m : Option ℕ) →
    Logs c s (notes_of_lines (executions_until s d m)) (pumped_until s d m)
pump_logs c d = until_keeps d (λ s xs t. Logs c s (notes_of_lines xs) t) (record {
  stays = λ s. refl;
  joins = λ s m t xs ys f g. subst (λ (logins : List (Option UpsId)). Leads (login_at c s) logins (login_at c t))
      (sym (ap (filter_map (login_in c)) (filter_map-append note_of xs ys) ∙
      filter_map-append (login_in c) (notes_of_lines xs) (notes_of_lines ys)))
      (leads_on (filter_map (login_in c) (notes_of_lines xs))
      (filter_map (login_in c) (notes_of_lines ys)) (login_at c s) (login_at c m) (login_at c t) f g);
  by_line = line_logs c d;
  by_notice = λ s long. out_logs c d s (with_session_changed notified d s)
      (ap login (session_changed notified (λ x. refl) d s) ∙ none_left (session d s))
      (λ differ. ap (λ (p : Presence). login p.session) (presence_other notified (λ x. refl) c d s differ));
})

-- a pump after a change that keeps all logins
after_same : (c : ℕ) (s j t : ServerState) (notes : List Note) → login_at c j ≡
    login_at c s → Logs c j notes t → Logs c s notes t
after_same c s j t notes same logs = subst (λ o. Leads o (filter_map (login_in c) notes) (login_at c t)) same logs

if_done : (c : ℕ) (s t : ServerState) (xs : List Execution) (b : Bool) →
    Logs c s (notes_of_lines xs) t → Logs c s (notes_of_lines (cond b xs [])) (cond b t s)
if_done c s t xs true logs = logs
if_done c s t xs false logs = refl

-- in each event
blind : (c : ℕ) (v : UpsId) → IsBlind (login_in c) v
blind c v = record {
  state = λ state. refl;
  status = λ status. refl;
  refused = λ fault shown. refl;
  ended = λ id number. refl;
}

pub event_logs : (c : ℕ) (s : ServerState) (e : Event) (o : Outcome) →
    Logs c s (all_notes s e (refused_after o)) (after s e o)
unfolding after_by with_input without_output ticked executions_by
event_logs c s (event.DriverUp v) o = leads_nowhere (login_at c s) _ _ (ups_up (login_in c) v (blind c v) s) refl
event_logs c s (event.DriverBytes v piece) o =
    leads_nowhere (login_at c s) _ _
    (ups_bytes (login_in c) v (blind c v) s piece (refused_after o))
    (ap (login_at c) (bytes_change v piece (refused_after o) s))
event_logs c s (event.DriverTook v n) o = refl
event_logs c s (event.DriverDown v) o = leads_nowhere (login_at c s) _ _ (ups_down (login_in c) v (blind c v) s) refl
event_logs c s (event.Tick seconds) o =
    leads_nowhere (login_at c s) _ _
    (blind_tick (login_in c) (blind c) s.max_age s.moment (max seconds s.moment) 0 s.upses) refl
event_logs c s (event.Open address) o =
    of_opened (λ t. Logs c s [] t) s address (refused_after o) refl
    (λ room. of_pushed (λ x. login x ≡ login_at c s) c (new_session s.next_id address)
    s.sessions refl (λ its none. sym (ap login none)))
event_logs c s (event.Feed d piece) o =
    let j : ServerState = with_input s d piece in
    after_same c s j (pumped_until j d (refused_after o))
    (notes_of_lines (executions_until j d (refused_after o)))
    (kept_login (joined piece) (λ x. refl) (λ x. refl) c d s) (pump_logs c d j (refused_after o))
event_logs c s (event.Took d n) o =
    let j : ServerState = without_output s d n in
    if_done c s (pumped_until j d (refused_after o)) (executions_until j d (refused_after o)) (may_take (session d s) n)
    (after_same c s j (pumped_until j d (refused_after o))
    (notes_of_lines (executions_until j d (refused_after o)))
    (kept_login (taken_from n) (λ x. refl) (λ x. refl) c d s) (pump_logs c d j (refused_after o)))
event_logs c s (event.Close d) o =
    let t : ServerState = record s { sessions = without d s.sessions } in
    out_logs c d s t (ap login (find_without d s.sessions))
    (λ differ. ap login (find_without_other c d s.sessions differ))
event_logs c s (event.Id id) o = refl
