-- One event of a running server, which forgets first what the last one cost and did.
use Rattle.std.proofs.Common.{◌≡◌, ◌∙◌, ℕ, Bool, true, [], ◌∷◌, Option, Some}
use Rattle.std.proofs.Common.{None, Result, Err, refl, sym, ap, subst}
use Rattle.std.proofs.Common.{arith, take, inl, inr, IsErrAnd}
use Rattle.std.proofs.lemmas.Result.{err_from_is_err_and}
use Rattle.nutcore.proofs.Common.{Event, Fault, Outcome, ServerState, SessionState, UpsId, session, ups_at, Step}
use Rattle.nutcore.specs.declared.event.Event.TheVariants as event
use Rattle.nutcore.specs.declared.event.Outcome.TheVariants.{Refused}
use Rattle.nutcore.specs.declared.event.Fault.TheVariants.{NoSuchUps, NoSuchClient}
use Rattle.nutcore.specs.declared.note.TheConstants.{NOTE_LIMIT}
pub use Rattle.nutcore.specs.Calls.{IsEvent, done}
use Rattle.nutcore.specs.Cost.{RunningServer, forgetful, cost_of}
use Rattle.nutdriver.specs.Waste.{TreeWaste}
use Rattle.nutcore.specs.Isolation.{client_of, ups_of, is_harmless}
use Rattle.nutcore.specs.Notes.{all_notes, notes_of}
use Rattle.nutcore.specs.Promises.{IsNotConnected}
use Rattle.nutcore.specs.Pump.{after_all_lines, is_overlong}
use Rattle.nutcore.specs.Sound.{IsSound}
use Rattle.nutcore.specs.Step.{outcome_of, fed_by, without_output}
use Rattle.nutcore.specs.History.{executions_by}
use Rattle.nutcore.proofs.Events.{IsPlain, silent, is_quiet, not_memory, may_not, refused}
use Rattle.nutcore.proofs.Isolation.{free}
use Rattle.nutcore.proofs.Notes.{fed_nothing}
use Rattle.nutcore.proofs.Runs.{lawful}
use Rattle.nutcore.proofs.Stepping.{run_sent, run_taken_up}

-- what it does, costs and notes from then on is what the event is
pub event_from : (old v new : RunningServer) {w : TreeWaste} (e : Event) (o : Outcome) → v ≡ forgetful old.state w
    → IsSound v.state
    → Step v.state e o new.state
    → new.cost ≡ cost_of v.state e new.state → new.notes ≡ notes_of v.state e o → IsEvent old e o new
event_from old v new {w} e o begins sound step cost notes =
    let is : v.state ≡ old.state = ap (λ (r : RunningServer). r.state) begins in
    let able = lawful old.state (subst IsSound is sound).ids in
    let step : Step old.state e o new.state = subst (λ (s : ServerState). Step s e o new.state) is step in
    record {
      step = step;
      sent_and_owed = λ c. run_sent old.state new.state (e ∷ []) (o ∷ []) able (new.state, step, refl) c;
      taken_up = λ c. run_taken_up old.state new.state (e ∷ []) (o ∷ []) able (new.state, step, refl) c;
      cost = cost ∙ ap (λ (s : ServerState). cost_of s e new.state) is;
      notes = notes ∙ ap (λ (s : ServerState). notes_of s e o) is;
    }

-- nothing is noted by then
pub none_noted : {v : RunningServer} {s : ServerState} {w : TreeWaste} → v ≡ forgetful s w → v.notes ≡ []
none_noted begins = ap (λ (r : RunningServer). r.notes) begins

-- where no client sends or takes, it costs nothing
pub plain_event : {old v new : RunningServer} {w : TreeWaste} (e : Event) {o : Outcome} → IsPlain e
    → v ≡ forgetful old.state w → IsSound v.state → new.cost ≡ v.cost → Step v.state e o new.state
    → new.notes ≡ notes_of v.state e o → IsEvent old e o new
plain_event {old} {v} {new} {w} e {o} plain begins sound cost step notes =
    event_from old v new e o begins sound step
    (cost ∙ ap (λ (r : RunningServer). r.cost) begins ∙ sym ((silent e plain).costs v.state new.state)) notes

-- of an event that a harmless fault refuses nothing is noted
quiet_notes : (s : ServerState) (e : Event) → is_quiet (outcome_of s e) ≡ true → all_notes s e None ≡ []
unfolding outcome_of executions_by
quiet_notes s (event.DriverUp u) h = grind arith
quiet_notes s (event.DriverBytes u piece) h = grind arith
quiet_notes s (event.DriverDown u) h = grind arith
quiet_notes s (event.Tick seconds) h = cc h
quiet_notes s (event.Feed c piece) h = fed_nothing s c piece (absent (session c s) _ h)
  where
    absent : (o : Option SessionState) (overlong : Bool) → is_quiet (fed_by o piece overlong) ≡ true → o ≡ None
    absent o overlong h = grind arith
quiet_notes s (event.Took c n) h =
    rw (may_not (session c s) n (is_overlong (after_all_lines (without_output s c n) c) c) h)
    refl
quiet_notes s (event.Close c) h = grind arith
quiet_notes s e h = refl

-- a harmless fault refuses the event
pub record Refuses (s : ServerState) (e : Event) (fault : Fault) : Type 0 where
  pub is : outcome_of s e ≡ Refused fault
  pub harmless : is_harmless fault ≡ true

-- so it does where nothing was done since
pub refused_event : {old v : RunningServer} {w : TreeWaste} (e : Event) (fault : Fault) → v ≡ forgetful old.state w
    → IsSound v.state
    → Refuses v.state e fault → IsEvent old e (Refused fault) v
refused_event {old} {v} {w} e fault begins sound h =
    let quiet : is_quiet (outcome_of v.state e) ≡ true = subst (λ (o : Outcome). is_quiet o ≡ true) (sym h.is)
    h.harmless in
    event_from old v v e (Refused fault) begins sound (refused v.state e fault h.is h.harmless)
    (ap (λ (r : RunningServer). r.cost) begins ∙ free v.state e quiet)
    (none_noted begins ∙ sym
    (ap (λ (m : Option ℕ). take NOTE_LIMIT (all_notes v.state e m)) (not_memory fault h.harmless) ∙ ap
    (take NOTE_LIMIT) (quiet_notes v.state e quiet)))

-- and where `?` hands the fault on
pub handed_on : {A : Type 0} {old v : RunningServer} {w : TreeWaste} (e : Event)
    (out : Result A Fault → Outcome) (r : Result A Fault)
    {fault : Fault} → ((f : Fault) → out (Err f) ≡ Refused f)
    → IsErrAnd r (λ f. f ≡ fault) → v ≡ forgetful old.state w → IsSound v.state →
    Refuses v.state e fault → IsEvent old e
    (out r) v
handed_on {A} {old} {v} {w} e out r {fault} outs err begins sound h =
    let p = err_from_is_err_and r err in
    subst (λ (o : Outcome). IsEvent old e o v) (sym (ap out (p.1 ∙ ap Err p.2) ∙ outs fault))
    (refused_event e fault begins sound h)

-- a client that isn't there
pub no_client : (s : ServerState) (c : ℕ) (e : Event) (fault : Fault) →
    (fault ≡ NoSuchClient) × (session c s ≡ None)
    → client_of e ≡ Some c → Refuses s e fault
unfolding outcome_of
no_client s c e fault (is, none) its = record { is = refuses e its; harmless = ap is_harmless is }
  where
    refuses : (e : Event) → client_of e ≡ Some c → outcome_of s e ≡ Refused fault
    refuses (event.Feed d piece) its = grind arith
    refuses (event.Took d n) its = grind arith
    refuses (event.Close d) its = grind arith
    refuses e its = cc its

-- a UPS that isn't there, or has no driver
pub no_ups : (s : ServerState) (u : UpsId) (e : Event) (fault : Fault) → (fault ≡ NoSuchUps) ×
    (ups_at u.place s ≡ None)
    → ups_of e ≡ Some u → Refuses s e fault
unfolding outcome_of
no_ups s u e fault (is, none) its = record { is = refuses e its; harmless = ap is_harmless is }
  where
    refuses : (e : Event) → ups_of e ≡ Some u → outcome_of s e ≡ Refused fault
    refuses (event.DriverUp v) its = grind arith
    refuses (event.DriverBytes v piece) its = grind arith
    refuses (event.DriverTook v n) its = grind arith
    refuses (event.DriverDown v) its = grind arith
    refuses e its = cc its

-- an event for which a driver has to be connected
abbrev pub of_driver : Event → Option UpsId
of_driver (event.DriverUp u) = None
of_driver e = ups_of e

pub no_driver : (s : ServerState) (u : UpsId) (e : Event) (fault : Fault) → IsNotConnected u fault s
    → of_driver e ≡ Some u → Refuses s e fault
unfolding outcome_of
no_driver s u e fault h its = record {
  is = refuses e its;
  harmless = elim h [ inl (is, none) ↦ ap is_harmless is | inr (is, gone) ↦ ap is_harmless is ];
}
  where
    refuses : (e : Event) → of_driver e ≡ Some u → outcome_of s e ≡ Refused fault
    refuses (event.DriverBytes v piece) its = grind arith
    refuses (event.DriverTook v n) its = grind arith
    refuses (event.DriverDown v) its = grind arith
    refuses e its = cc its
