-- Answers come of what happens, and not of bytes that come and go.
use Rattle.std.proofs.Common.{arith, ◌≡◌, ◌∙◌, ℕ, true, false, List, [], ◌∷◌}
use Rattle.std.proofs.Common.{◌++◌, Option, Some, refl, sym, ap, subst, cond, eqb, map}
use Rattle.std.proofs.Common.{append_assoc, append-nil}
use Rattle.std.specs.Prelude.{option_map}
use Rattle.nutcore.proofs.Common.{Change, Event, Outcome, SessionState, ServerState, session}
use Rattle.nutcore.proofs.Common.{with_session_changed, after, Run}
use Rattle.nutanswer.specs.View.{Seen, ClientSeen}
use Rattle.nutcore.specs.declared.event.Event.TheVariants.{Feed, Took}
use Rattle.nutcore.specs.Session.{find, begin_ending}
use Rattle.nutcore.specs.Reply.{seen, seen_client, reply, changed_session, after_change, too_long_notice}
use Rattle.nutcore.specs.Pump.{next_line_for, answered, after_line, is_overlong, notified}
use Rattle.nutcore.specs.Step.{joined, with_input, taken_from, without_output, may_take}
use Rattle.nutcore.specs.Step.{pumped_until, after_by, refused_after}
use Rattle.nutcore.specs.History.{Execution, of_line, of_notice, client_of, text_of}
use Rattle.nutcore.specs.History.{executions_until, executions_by, executions, of_client, texts_of}
use Rattle.nutcore.specs.History.{answers}
use Rattle.nutcore.specs.Happenings.{Happening, line_is_executed, notice_is_sent, event_comes}
use Rattle.nutcore.specs.Happenings.{happening_of, happened_in_event, happenings, without_bytes}
use Rattle.nutcore.specs.Happenings.{apart_from_bytes, AnswersComeOfWhatHappens, IsAlike}
use Rattle.nutcore.specs.Happenings.{AReplyComesOfWhatIsSeen}
use Rattle.nutcore.proofs.Changed.{by_change, change_is}
use Rattle.nutcore.proofs.Events.{core_event}
use Rattle.nutcore.proofs.Found.{find_id, mapped_put}
use Rattle.nutcore.proofs.Histories.{IsOfPump, until_keeps, two_lists, later}
use Rattle.nutcore.proofs.Pumping.{is_next, after_line_is, change_at, changed_is, overlong_there}
use Rattle.nutcore.proofs.ApartFromBytes.{found_without, put_without}
use Rattle.std.proofs.lemmas.List.{map-append}
use Rattle.std.proofs.lemmas.List.Sums.{fold-append}
use Rattle.std.specs.List.{fold}

-- what is answered comes of what is seen
pub reply_of_seen : AReplyComesOfWhatIsSeen
reply_of_seen s t c d line same asks = record { reply = grind arith; change = grind arith }

seen_without : (xs : List SessionState) → map seen_client (map without_bytes xs) ≡ map seen_client xs
seen_without [] = refl
seen_without (x ∷ xs) = ap (λ (cs : List ClientSeen). seen_client x ∷ cs) (seen_without xs)

changed_without : (change : Change) (line text : List ℕ) (x : SessionState) →
    without_bytes (changed_session change (answered line text x)) ≡ changed_session change (without_bytes x)
changed_without change line text x = grind arith

-- the server: what is answered is the same
pub core_alike : (s : ServerState) (c : ℕ) (line : List ℕ) → IsAlike (apart_from_bytes s) s c c line
core_alike s c line =
    reply_of_seen (apart_from_bytes s) s c c line
    (ap (λ (clients : List ClientSeen). let v : Seen = record (seen s) { clients = clients } in v)
    (seen_without s.sessions))
    (rw found_without (grind arith))

-- bytes that come and go change nothing else
core_bytes : (f : SessionState → SessionState) → ((x : SessionState) → (f x).id ≡ x.id) →
    ((x : SessionState) → without_bytes (f x) ≡ without_bytes x) →
    (s : ServerState) (c : ℕ) → apart_from_bytes (with_session_changed f c s) ≡ apart_from_bytes s
core_bytes f id same s c =
    by_change (λ t. apart_from_bytes t ≡ apart_from_bytes s) f c s
    (λ x e. ap (λ (xs : List SessionState). let t : ServerState = record s { sessions = xs } in t)
    (mapped_put without_bytes x (f x) s.sessions
    (ap (λ k. find k s.sessions) (id x ∙ find_id c s.sessions x e) ∙ e) (same x)))
    (λ e. refl)

pub core_input : (s : ServerState) (c : ℕ) (piece : List ℕ) →
    apart_from_bytes (with_input s c piece) ≡ apart_from_bytes s
unfolding with_input
core_input s c piece = core_bytes (joined piece) (λ x. refl) (λ x. refl) s c

core_output : (s : ServerState) (c n : ℕ) → apart_from_bytes (without_output s c n) ≡ apart_from_bytes s
unfolding without_output
core_output s c n = core_bytes (taken_from n) (λ x. refl) (λ x. refl) s c

-- what a client was answered, and the server, before a happening and after it
abbrev heard : List ℕ → ServerState → List ℕ × ServerState
heard texts k = (texts, k)

abbrev happen : ℕ → List ℕ × ServerState → Happening → List ℕ × ServerState
happen c z (line_is_executed d line) = heard (z.0 ++ cond (eqb d c) (reply z.1 d line) []) (after_change z.1 d line)
happen c z (notice_is_sent d) = heard (z.0 ++ cond (eqb d c) too_long_notice [])
    (with_session_changed begin_ending d z.1)
happen c z (event_comes e m) = heard z.0 (after_by z.1 e m)

-- the line and the notice
core_line : (s : ServerState) (c : ℕ) (line : List ℕ) → next_line_for s c ≡ Some line →
    after_change (apart_from_bytes s) c line ≡ apart_from_bytes (after_line s c)
core_line s c line next =
    let n = is_next s c line next in
    rw (
      after_line_is s c line n.asking n.found next,
      (core_alike s c line).change,
      changed_is (change_at s c line) c (apart_from_bytes s) (without_bytes n.asking)
          (found_without c s.sessions ∙ ap (option_map without_bytes) n.found),
      put_without,
      changed_without (change_at s c line) line (reply s c line) n.asking,
    )

core_notice : (s : ServerState) (c : ℕ) → is_overlong s c ≡ true →
    with_session_changed begin_ending c (apart_from_bytes s) ≡ apart_from_bytes (with_session_changed notified c s)
core_notice s c long =
    let due = overlong_there (session c s) long in
    rw (
      change_is notified c s due.0 due.1,
      change_is begin_ending c (apart_from_bytes s) (without_bytes due.0)
          (found_without c s.sessions ∙ ap (option_map without_bytes) due.1),
      put_without,
    )

-- happenings lead from a server to another, and answer each client as these executions do
abbrev Leads : ServerState → List Happening → List Execution → ServerState → Type 0
Leads s hs xs t = (c : ℕ) (before : List ℕ) →
    fold (happen c) (heard before (apart_from_bytes s)) hs ≡
    heard (before ++ texts_of (of_client c xs)) (apart_from_bytes t)

heard_is : {v w : List ℕ} {k j : ServerState} → v ≡ w → k ≡ j → heard v k ≡ heard w j
heard_is {w = w} {k = k} e f = ap (λ (v : List ℕ). heard v k) e ∙ ap (heard w) f

both_lead : (s m t : ServerState) (hs gs : List Happening) (xs ys : List Execution) →
    Leads s hs xs m → Leads m gs ys t → Leads s (hs ++ gs) (xs ++ ys) t
both_lead s m t hs gs xs ys f g c before =
    fold-append (happen c) (heard before (apart_from_bytes s)) hs gs ∙
    ap (λ (z : List ℕ × ServerState). fold (happen c) z gs) (f c before) ∙
    g c (before ++ texts_of (of_client c xs))
    ∙ heard_is (append_assoc before _ _ ∙
    ap (λ (w : List ℕ). before ++ w) (sym (two_lists text_of c xs ys))) refl

one_told : (x : Execution) (text : List ℕ) (c : ℕ) → text ≡ text_of x →
    cond (eqb (client_of x) c) text [] ≡ texts_of (of_client c (x ∷ []))
one_told x text c is = grind (arith, append-nil)

-- so do the executions of a pump
abbrev PumpLeads : ServerState → List Execution → ServerState → Type 0
PumpLeads s xs t = Leads s (map happening_of xs) xs t

pump_leads : (d : ℕ) → IsOfPump d PumpLeads
pump_leads d = record {
  stays = λ s c before. heard_is (sym (append-nil before)) refl;
  joins = λ s m t xs ys f g. subst (λ (hs : List Happening). Leads s hs (xs ++ ys) t)
      (sym (map-append happening_of xs ys)) (both_lead s m t (map happening_of xs) (map happening_of ys) xs ys f g);
  by_line = λ s line next c before. heard_is
      (ap (λ (w : List ℕ). before ++ w)
      (one_told (of_line s d line) (reply (apart_from_bytes s) d line) c
      (core_alike s d line).reply)) (core_line s d line next);
  by_notice = λ s long c before. heard_is
      (ap (λ (w : List ℕ). before ++ w) (one_told (of_notice s d) too_long_notice c refl)) (core_notice s d long);
}

event_leads : (s : ServerState) (e : Event) (o : Outcome) →
    Leads s (happened_in_event s e o) (executions_by s e (refused_after o)) (after_by s e (refused_after o))
unfolding executions_by after_by
event_leads s (Feed d piece) o = λ c before.
    ap (λ (k : ServerState). fold (happen c) (heard before k)
    (happened_in_event s (Feed d piece) o)) (sym (core_input s d piece)) ∙
    until_keeps d PumpLeads (pump_leads d) (with_input s d piece) (refused_after o) c before
event_leads s (Took d n) o =
    let j : ServerState = without_output s d n in
    let m : Option ℕ = refused_after o in
    elim (may_take (session d s) n) as
    (λ b. PumpLeads s (cond b (executions_until j d m) []) (cond b (pumped_until j d m) s)) [
      | true ↦ (λ c before. ap (λ (k : ServerState). fold (happen c) (heard before k)
          (map happening_of (executions_until j d m))) (sym (core_output s d n)) ∙
          until_keeps d PumpLeads (pump_leads d) j m c before)
      | false ↦ (pump_leads d).stays s
    ]
event_leads s e o = λ c before. heard_is (sym (append-nil before)) (core_event s e (refused_after o) tt)

run_leads : (s t : ServerState) (es : List Event) (os : List Outcome) → Run s es os t →
    Leads s (happenings s es os) (executions s es os) t
run_leads s t [] [] r = λ c before. heard_is (sym (append-nil before)) (ap apart_from_bytes (sym r))
run_leads s t (e ∷ es) (o ∷ os) (mid, step, r) =
    let next : ServerState = after s e o in
    both_lead s next t (happened_in_event s e o) (happenings next es os)
    (executions_by s e (refused_after o)) (executions next es os) (event_leads s e o)
    (run_leads next t es os (later t es os step r))
run_leads s t es os r = absurd r

pub answers_of_happenings : AnswersComeOfWhatHappens
answers_of_happenings s s' t t' es fs os ps r q same happened =
    let both : (c : ℕ) → heard (answers c s es os) (apart_from_bytes s') ≡
    heard (answers c t fs ps) (apart_from_bytes t') = λ c.
    sym (run_leads s s' es os r c []) ∙
    ap (λ (k : ServerState). fold (happen c) (heard [] k) (happenings s es os)) same
    ∙ ap (λ (hs : List Happening). fold (happen c) (heard [] (apart_from_bytes t)) hs) happened
    ∙ run_leads t t' fs ps q c [] in
    record {
      answers = λ c. ap (λ (z : List ℕ × ServerState). z.0) (both c);
      servers = ap (λ (z : List ℕ × ServerState). z.1) (both 0);
    }
