-- The events of a script are one run of the server.
use Rattle.std.proofs.Common.{◌≡◌, ℕ, Bool, true, false, ◌&&◌, List, [], ◌∷◌}
use Rattle.std.proofs.Common.{◌++◌, ◌∙◌, refl, sym, ap, subst, eqb, arith, take}
use Rattle.std.proofs.Common.{append-nil, append_assoc, if◌then◌else◌}
use Rattle.std.specs.List.{flat_map}
use Rattle.std.proofs.lemmas.Grind.{common_steps}
use Rattle.std.proofs.lemmas.Bool.{eqb-true, and_left}
use Rattle.std.specs.Option.{option_map_or}
use Rattle.nutusers.specs.declared.ups_list.UpsId.{UpsId}
use Rattle.nutcore.specs.declared.event.Event.{Event}
use Rattle.nutcore.specs.declared.event.Event.TheVariants as events
use Rattle.nutusers.specs.UpsList.{Ups}
use Rattle.nutusers.specs.Users.{User}
use Rattle.nutusers.specs.Descriptions.{Descriptions}
use Rattle.nutcore.specs.Server.{ServerState, session, new_server}
use Rattle.nutcore.specs.Parts.{ups_at}
use Rattle.nutcore.specs.Headline.{IsLawful, WhatWasSentAndIsOwedIsTheAnswers}
use Rattle.nutcore.specs.Pump.{owed_of}
use Rattle.nutcore.specs.Step.{after, may_take}
use Rattle.nutcore.specs.DriverEvents.{driver_may_take}
use Rattle.nutcore.specs.Run.{Run}
use Rattle.nutcore.specs.declared.event.Outcome.{Outcome}
use Rattle.nutcore.specs.declared.event.Peer.{Peer}
use Rattle.nutcore.specs.declared.event.Peer.TheVariants.{Client, Driver}
use Rattle.nutcore.specs.DriverOrders.{all_taken as driver_taken}
use Rattle.nutcore.specs.DriverOrders.{taken_in_event as driver_taken_in_event, owed_to_driver}
use Rattle.nutcore.specs.History.{taken, taken_in_event, owed}
use Rattle.nutreplay.specs.declared.script.action.Action.{Action}
use Rattle.nutreplay.specs.declared.script.action.Action.TheVariants as asked
use Rattle.nutreplay.specs.Script.{ScriptLine}
use Rattle.nutreplay.specs.declared.transcript.sent.Taken.{Taken}
use Rattle.nutreplay.specs.Script.{took, actions_of}
use Rattle.nutreplay.specs.Transcript.{TranscriptState, new_transcript, Happens, TakesAgain}
use Rattle.nutreplay.specs.Transcript.{all_taken, again, IsDone, AreDone, count_offered, sent_to}
use Rattle.nutreplay.specs.Transcript.{taken_by, opened_by}
use Rattle.nutreplay.proofs.Taking.{when_true, when_false}
use Rattle.nutreplay.specs.OneRun.{Happening, events_of, outcomes_of, once, takings, of_line}
use Rattle.nutreplay.specs.OneRun.{of_lines, RecordsRun, AnOutputRecordsOneRun}

-- runs, one after another
run_joined : (s m t : ServerState) (hs is : List Happening) →
    Run s (events_of hs) (outcomes_of hs) m → Run m (events_of is) (outcomes_of is) t →
    Run s (events_of (hs ++ is)) (outcomes_of (hs ++ is)) t
run_joined s m t [] is same r = subst (λ (z : ServerState). Run z (events_of is) (outcomes_of is) t) same r
run_joined s m t (h ∷ hs) is (mid, first, rest) r = (mid, first, run_joined mid m t hs is rest r)

-- what each event of a run adds, in order
module _ (in_event : ServerState → Event → List ℕ)
    (whole : ServerState → List Event → List Outcome → List ℕ)
    (none : (s : ServerState) → whole s [] [] ≡ [])
    (more : (s : ServerState) (e : Event) (o : Outcome) (es : List Event) (os : List Outcome) →
    whole s (e ∷ es) (o ∷ os) ≡ in_event s e ++ whole (after s e o) es os)
  where
    abbrev of_run : ServerState → List Happening → List ℕ
    of_run s hs = whole s (events_of hs) (outcomes_of hs)

    each_joined : (s m : ServerState) (hs is : List Happening) →
        Run s (events_of hs) (outcomes_of hs) m → of_run s (hs ++ is) ≡ of_run s hs ++ of_run m is
    each_joined s m [] is same = ap (λ (z : ServerState). of_run z is) (sym same) ∙
        sym (ap (λ (xs : List ℕ). xs ++ of_run m is) (none s))
    each_joined s m (h ∷ hs) is (mid, first, rest) =
        let here : List ℕ = in_event s h.event in
        let next : ServerState = after s h.event h.outcome in
        let left : of_run next (hs ++ is) ≡ of_run next hs ++ of_run m is =
        subst (λ (z : ServerState). of_run z (hs ++ is) ≡ of_run z hs ++ of_run m is)
        first.leaves (each_joined mid m hs is rest) in
        more s h.event h.outcome (events_of (hs ++ is)) (outcomes_of (hs ++ is))
        ∙ ap (λ (xs : List ℕ). here ++ xs) left
        ∙ sym (append_assoc here (of_run next hs) (of_run m is))
        ∙ ap (λ (xs : List ℕ). xs ++ of_run m is) (sym (more s h.event h.outcome (events_of hs) (outcomes_of hs)))

taken_joined : (c : ℕ) (s m : ServerState) (hs is : List Happening) →
    Run s (events_of hs) (outcomes_of hs) m →
    taken c s (events_of (hs ++ is)) (outcomes_of (hs ++ is)) ≡
    taken c s (events_of hs) (outcomes_of hs) ++ taken c m (events_of is) (outcomes_of is)
taken_joined c = each_joined (taken_in_event c) (taken c) (λ s. refl) (λ s e o es os. refl)

driver_taken_joined : (u : UpsId) (s m : ServerState) (hs is : List Happening) →
    Run s (events_of hs) (outcomes_of hs) m →
    driver_taken u s (events_of (hs ++ is)) (outcomes_of (hs ++ is)) ≡
    driver_taken u s (events_of hs) (outcomes_of hs) ++ driver_taken u m (events_of is) (outcomes_of is)
driver_taken_joined u = each_joined (driver_taken_in_event u) (driver_taken u) (λ s. refl) (λ s e o es os. refl)

-- what a client took by one event
sent_joined : (p : Peer) (ts us : List Taken) → sent_to p (ts ++ us) ≡ sent_to p ts ++ sent_to p us
sent_joined p [] us = refl
sent_joined p (t ∷ ts) us = grind (arith, common_steps, sent_joined p ts us)

none_either_way : (may same : Bool) (xs : List ℕ) → same ≡ false →
    (if may then (if same then xs else []) else []) ≡ []
none_either_way true same xs e = when_false same xs e
none_either_way false same xs e = refl

took_if : (c d n : ℕ) (s : ServerState) (b : Bool) → eqb d c ≡ b →
    (if eqb d c then taken_in_event d s (events.Took d n) else []) ≡ taken_in_event c s (events.Took d n)
unfolding taken_in_event
took_if c d n s true e = when_true (eqb d c) (taken_in_event d s (events.Took d n)) e ∙
    ap (λ (z : ℕ). taken_in_event z s (events.Took d n)) (eqb-true d c e)
took_if c d n s false e = when_false (eqb d c) (taken_in_event d s (events.Took d n)) e ∙
    sym (none_either_way (may_take (session d s) n) (eqb d c) (take n (owed_of (session d s))) e)

sent_by : (c : ℕ) (s : ServerState) (e : Event) → sent_to (Client c) (taken_by s e) ≡ taken_in_event c s e
unfolding taken_in_event
sent_by c s (events.DriverUp u) = refl
sent_by c s (events.DriverBytes u piece) = refl
sent_by c s (events.DriverTook u n) = refl
sent_by c s (events.DriverDown u) = refl
sent_by c s (events.Tick seconds) = refl
sent_by c s (events.Open address) = refl
sent_by c s (events.Feed d piece) = refl
sent_by c s (events.Took d n) = append-nil (if eqb d c then taken_in_event d s (events.Took d n) else []) ∙
    took_if c d n s (eqb d c) refl
sent_by c s (events.Close d) = refl
sent_by c s (events.Id id) = refl

driver_took_if : (u v : UpsId) (n : ℕ) (s : ServerState) (b : Bool) → eqb v.place u.place ≡
    b → (if eqb v.place u.place then driver_taken_in_event v s (events.DriverTook v n) else []) ≡
    driver_taken_in_event u s (events.DriverTook v n)
driver_took_if u v n s true e =
    let at : ℕ → List ℕ = λ p. if eqb v.place p && option_map_or (driver_may_take n)
    (ups_at p s) false then take n (option_map_or (λ x. x.owed) (ups_at p s) []) else [] in
    when_true (eqb v.place u.place) (driver_taken_in_event v s (events.DriverTook v n)) e ∙
    ap at (eqb-true v.place u.place e)
driver_took_if u v n s false e =
    when_false (eqb v.place u.place) (driver_taken_in_event v s (events.DriverTook v n)) e
    ∙
    sym (when_false (eqb v.place u.place && option_map_or (driver_may_take n) (ups_at u.place s)
    false) (take n (owed_to_driver u s)) (and_left _ _ e))

driver_sent_by : (u : UpsId) (s : ServerState) (e : Event) → sent_to (Driver u) (taken_by s e) ≡
    driver_taken_in_event u s e
driver_sent_by u s (events.DriverUp v) = refl
driver_sent_by u s (events.DriverBytes v piece) = refl
driver_sent_by u s (events.DriverTook v n) =
    append-nil (if eqb v.place u.place then driver_taken_in_event v s (events.DriverTook v n) else []) ∙
    driver_took_if u v n s (eqb v.place u.place) refl
driver_sent_by u s (events.DriverDown v) = refl
driver_sent_by u s (events.Tick seconds) = refl
driver_sent_by u s (events.Open address) = refl
driver_sent_by u s (events.Feed c piece) = refl
driver_sent_by u s (events.Took c n) = refl
driver_sent_by u s (events.Close c) = refl
driver_sent_by u s (events.Id id) = refl

opened_joined : (hs is : List Happening) → flat_map opened_by (outcomes_of (hs ++ is)) ≡
    flat_map opened_by (outcomes_of hs) ++ flat_map opened_by (outcomes_of is)
opened_joined [] is = refl
opened_joined (h ∷ hs) is = ap (λ (xs : List ℕ). opened_by h.outcome ++ xs)
    (opened_joined hs is) ∙ sym (append_assoc (opened_by h.outcome)
    (flat_map opened_by (outcomes_of hs)) (flat_map opened_by (outcomes_of is)))

-- Between two states of a transcript lies this run.
pub record IsRun (hs : List Happening) (old new : TranscriptState) : Type 0 where
  pub run : Run old.server (events_of hs) (outcomes_of hs) new.server
  pub clients : new.clients ≡ old.clients ++ flat_map opened_by (outcomes_of hs)
  pub sent : (c : ℕ) → sent_to (Client c) new.taken ≡ sent_to (Client c) old.taken ++
      taken c old.server (events_of hs) (outcomes_of hs)
  pub driver : (u : UpsId) → sent_to (Driver u) new.taken ≡ sent_to (Driver u) old.taken ++
      driver_taken u old.server (events_of hs) (outcomes_of hs)

nothing : (old new : TranscriptState) → new.server ≡ old.server → new.clients ≡
    old.clients → new.taken ≡ old.taken → IsRun [] old new
nothing old new s k t = record {
  run = s;
  clients = k ∙ sym (append-nil old.clients);
  sent = λ c. ap (sent_to (Client c)) t ∙ sym (append-nil (sent_to (Client c) old.taken));
  driver = λ u. ap (sent_to (Driver u)) t ∙ sym (append-nil (sent_to (Driver u) old.taken));
}

joined : (hs is : List Happening) (old mid new : TranscriptState) → IsRun hs old mid →
    IsRun is mid new → IsRun (hs ++ is) old new
joined hs is old mid new a b = record {
  run = run_joined old.server mid.server new.server hs is a.run b.run;
  clients =
      b.clients ∙ ap (λ (xs : List ℕ). xs ++ flat_map opened_by (outcomes_of is)) a.clients
      ∙ append_assoc old.clients (flat_map opened_by (outcomes_of hs)) (flat_map opened_by (outcomes_of is))
      ∙ ap (λ (xs : List ℕ). old.clients ++ xs) (sym (opened_joined hs is));
  sent = λ c.
      b.sent c ∙ ap (λ (xs : List ℕ). xs ++ taken c mid.server (events_of is) (outcomes_of is)) (a.sent c)
      ∙ append_assoc (sent_to (Client c) old.taken)
      (taken c old.server (events_of hs) (outcomes_of hs)) (taken c mid.server (events_of is) (outcomes_of is))
      ∙ ap (λ (xs : List ℕ). sent_to (Client c) old.taken ++ xs)
      (sym (taken_joined c old.server mid.server hs is a.run));
  driver = λ u.
      b.driver u ∙ ap (λ (xs : List ℕ). xs ++
      driver_taken u mid.server (events_of is) (outcomes_of is)) (a.driver u)
      ∙ append_assoc (sent_to (Driver u) old.taken)
      (driver_taken u old.server (events_of hs) (outcomes_of hs))
      (driver_taken u mid.server (events_of is) (outcomes_of is))
      ∙ ap (λ (xs : List ℕ). sent_to (Driver u) old.taken ++ xs)
      (sym (driver_taken_joined u old.server mid.server hs is a.run));
}

once_runs : (line : ℕ) (event : Event) (old new : TranscriptState)
    (h : Happens line event old new) → IsRun (once line event old new h) old new
once_runs line event old new h = record {
  run = (new.server, h.steps, refl);
  clients = h.clients ∙ ap (λ (xs : List ℕ). old.clients ++ xs) (sym (append-nil (opened_by h.outcome)));
  sent = λ c.
      ap (sent_to (Client c)) h.taken ∙ sent_joined (Client c) old.taken (taken_by old.server event)
      ∙ ap (λ (xs : List ℕ). sent_to (Client c) old.taken ++ xs)
      (sent_by c old.server event ∙ sym (append-nil (taken_in_event c old.server event)));
  driver = λ u.
      ap (sent_to (Driver u)) h.taken ∙ sent_joined (Driver u) old.taken (taken_by old.server event)
      ∙ ap (λ (xs : List ℕ). sent_to (Driver u) old.taken ++ xs)
      (driver_sent_by u old.server event ∙ sym (append-nil (driver_taken_in_event u old.server event)));
}

takings_run : (line : ℕ) (p : Peer) (old new : TranscriptState) (h : TakesAgain line p old new)
    → IsRun (takings line p old new h) old new
takings_run line p old new (all_taken t none) = nothing t t refl refl refl
takings_run line p old new (again first mid last some h rest) =
    joined (once line (took p (count_offered p first)) first mid h) (takings line p mid last rest)
    first mid last (once_runs line (took p (count_offered p first)) first mid h) (takings_run line p mid last rest)

line_runs : (line : ℕ) (action : Action) (old new : TranscriptState)
    (h : IsDone line action old new) → IsRun (of_line line action old new h) old new
line_runs line (asked.Happens event) old new h = once_runs line event old new h
line_runs line (asked.TookAll p) old new h =
    joined (once line (took p (count_offered p old)) old h.0 h.1) (takings line p h.0 new h.2) old
    h.0 new (once_runs line (took p (count_offered p old)) old h.0 h.1) (takings_run line p h.0 new h.2)

pub lines_run : (lines : List ScriptLine) (old new : TranscriptState) (h : AreDone lines old new)
    → IsRun (of_lines lines old new h) old new
lines_run [] old new h = nothing old new (ap (λ (t : TranscriptState). t.server) h)
    (ap (λ (t : TranscriptState). t.clients) h) (ap (λ (t : TranscriptState). t.taken) h)
lines_run (line ∷ lines) old new h =
    joined (of_line line.number line.action old h.0 h.1) (of_lines lines h.0 new h.2) old h.0 new
    (line_runs line.number line.action old h.0 h.1) (lines_run lines h.0 new h.2)

-- a new server has no sessions
new_lawful : (list : List Ups) (users : List User) (descriptions : Descriptions) (max_age : ℕ) →
    IsLawful (new_server list users descriptions max_age)
new_lawful list users descriptions max_age = λ c some. cc some

pub output_records : WhatWasSentAndIsOwedIsTheAnswers → AnOutputRecordsOneRun
output_records law list users descriptions max_age script output is_output =
    let start : ServerState = new_server list users descriptions max_age in
    let hs : List Happening = of_lines (actions_of list script) (new_transcript start) is_output.end is_output.done in
    let whole : IsRun hs (new_transcript start) is_output.end =
    lines_run (actions_of list script) (new_transcript start) is_output.end is_output.done in
    record {
      run = whole.run;
      clients = whole.clients;
      sent = whole.sent;
      sent_to_driver = whole.driver;
      answered = λ c going.
          ap (λ (xs : List ℕ). xs ++ owed c is_output.end.server) (whole.sent c)
          ∙
          sym ((law start is_output.end.server (events_of hs) (outcomes_of hs)
          (new_lawful list users descriptions max_age) whole.run c).while_open going);
    }
