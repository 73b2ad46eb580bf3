-- A client that takes, among the events of others, gets everything: all that it is offered, or some
-- bytes at a time.
use Rattle.std.proofs.Common.{◌≡◌, ◌≢◌, ℕ, suc, ◌≤◌, Bool, true, false, List}
use Rattle.std.proofs.Common.{[], ◌∷◌, Option, Some, None, refl, sym, ◌∙◌, ap, subst}
use Rattle.std.proofs.Common.{cond, eqb, inl, inr, arith, length, ◌*◌}
use Rattle.std.specs.List.{filter}
use Rattle.std.specs.Option.{option_map_or}
use Rattle.std.proofs.Math.Nat.{add-mul}
use Rattle.std.proofs.lemmas.Bool.{cond_both, cond-false, ne_eqb, eqb-true, eq-eqb, cases_Bool}
use Rattle.nutlisting.specs.declared.outbox.TheConstants.{QUEUE_LIMIT}
use Rattle.nutcore.proofs.Common.{Event, Outcome, SessionState, ServerState, session, after, Run}
use Rattle.nutcore.specs.declared.event.Event.TheVariants.{Feed, Took, Close}
use Rattle.nutcore.specs.Session.{find, new_session}
use Rattle.nutcore.specs.Pump.{held_of, owed_of}
use Rattle.nutcore.specs.Step.{with_input, without_output, may_take, after_by, refused_after, outcome_of}
use Rattle.nutcore.specs.History.{Execution, texts_of, executions_until, executions_by, executions}
use Rattle.nutcore.specs.History.{executions_in_event, of_client}
use Rattle.nutcore.specs.Isolation.{client_of}
use Rattle.nutcore.specs.Taking.{is_event_of, events_of, lines_done}
use Rattle.nutcore.proofs.Events.{of_session_event}
use Rattle.nutcore.proofs.Histories.{later, lines_more, answers_more, of_its_pump, of_opened}
use Rattle.nutcore.proofs.Isolation.{own}
use Rattle.nutcore.proofs.Least.{IsIdle}
use Rattle.nutcore.proofs.Progress.{Presence}
use Rattle.nutcore.proofs.Taking.{HasNothingLeft, outcome_then, IsTake, one_take, take_does, idle_take, some_taken}
use Rattle.nutcore.specs.TakingSome.{IsTakeOf, TakesSomeAmongOthers, IsServed, WhoTakesSomeGetsEverything}

-- what a client holds and owes stays: its session does, or one is opened for it
pub record IsUntouched (old new : Option SessionState) : Type 0 where
  pub owes : owed_of new ≡ owed_of old
  pub holds : held_of new ≡ held_of old
  pub stopped : IsIdle old → IsIdle new

same_session : (old new : Option SessionState) → new ≡ old → IsUntouched old new
same_session old new e = rw e (record { owes = refl; holds = refl; stopped = λ h. h })

-- another's event executes nothing of the client, and leaves what it holds and owes
pub record IsAnothers (c : ℕ) (s : ServerState) (t : ServerState) (done : List Execution) : Type 0 where
  pub nothing : done ≡ []
  pub untouched : IsUntouched (session c s) (session c t)

pub anothers : (c : ℕ) (s : ServerState) (e : Event) (m : Option ℕ) →
    client_of e ≢ Some c → IsAnothers c s (after_by s e m) (of_client c (executions_by s e m))
unfolding executions_by after_by
anothers c s e m =
    of_session_event (λ e. client_of e ≢ Some c →
    IsAnothers c s (after_by s e m) (of_client c (executions_by s e m)))
    (λ e apart differ. record {
      nothing = ap (of_client c) (apart.silent.executes s m);
      untouched = same_session _ _ (ap (find c) (apart.sessions s m));
    })
    (λ address differ. record {
      nothing = refl;
      untouched = of_opened (λ p. IsUntouched (session c s) p.session) c s address m
          (λ u up. same_session (session c s) (session c s) refl)
          (λ its away. subst (λ (p : Presence). IsUntouched p.session
          (Some (new_session s.next_id address))) (sym away)
          (record { owes = refl; holds = refl; stopped = λ h. record { stopped = refl; short = refl } }));
    })
    (λ d piece differ. record {
      nothing = not_its d (with_input s d piece) differ;
      untouched = apart (Feed d piece) d refl differ;
    })
    (λ d n differ. record {
      nothing = cond_both (may_take (session d s) n) (executions_until (without_output s d n) d m)
          [] (λ xs. of_client c xs ≡ []) (λ may. not_its d (without_output s d n) differ) (λ never. refl);
      untouched = apart (Took d n) d refl differ;
    })
    (λ d differ. record { nothing = refl; untouched = apart (Close d) d refl differ }) e
  where
    not_its : (d : ℕ) (t : ServerState) → Some d ≢ Some c → of_client c (executions_until t d m) ≡ []
    not_its d t differ = of_its_pump c d t m ∙ cond-false _ _ _ (ne_eqb d c (λ (h : d ≡ c). differ (ap Some h)))

    apart : (e : Event) (d : ℕ) → client_of e ≡ Some d → client_of e ≢ Some c →
        IsUntouched (session c s) (session c (after_by s e m))
    apart e d its differ = same_session _ _
        ((own s e m d its).sessions c (λ (h : c ≡ d). differ (its ∙ ap Some (sym h))))

-- whose the event is
pub own_or_not : {A : Type 0} (c : ℕ) (e : Event) →
    (is_event_of c e ≡ true → client_of e ≡ Some c → A) →
    (is_event_of c e ≡ false → client_of e ≢ Some c → A) → A
own_or_not c e own other = by_client (client_of e) own other
  where
    by_client : {A : Type 0} (d : Option ℕ) →
        (option_map_or (λ k. eqb k c) d false ≡ true → d ≡ Some c → A) →
        (option_map_or (λ k. eqb k c) d false ≡ false → d ≢ Some c → A) → A
    by_client None own other = other refl (λ h. cc h)
    by_client (Some k) own other = elim (cases_Bool (eqb k c)) [
      | inl e ↦ own e (ap Some (eqb-true k c e))
      | inr e ↦ other e
          (λ h. let same : k ≡ c = cc h in let yes_same = eq-eqb k c same in cc)
    ]

module _ (k : ℕ) (few : k ≤ QUEUE_LIMIT) (c : ℕ) where
  as_take : (s : ServerState) (e : Event) (o : Outcome) (P : Event → Outcome → Type 0) →
      IsTakeOf k c s e o → P (some_taken k c s) (outcome_then k c s) → P e o
  as_take s e o P (event_is, outcome_is) p =
      subst (λ (z : Event). P z o) (sym event_is)
      (subst (P (some_taken k c s)) (sym (outcome_is ∙ ap (outcome_of s) event_is)) p)

  -- where nothing is left, it stays so
  stays_left : (s t : ServerState) (es : List Event) (os : List Outcome) → Run s es os t →
      TakesSomeAmongOthers k c s es os → HasNothingLeft c s → HasNothingLeft c t
  stays_left s t [] [] r among h = subst (HasNothingLeft c) (sym r) h
  stays_left s t (e ∷ es) (o ∷ os) (mid, step, r) among h =
      stays_left (after s e o) t es os (later t es os step r) among.1 (own_or_not c e
      (λ yes its. as_take s e o (λ e o. HasNothingLeft c (after s e o)) (among.0 its)
      (subst (HasNothingLeft c) (sym (idle_take k c s h)) h))
      (λ no other. let same = (anothers c s e (refused_after o) other).untouched in
      record { none = same.owes ∙ h.none; ended = same.stopped h.ended }))
  stays_left s t es os r among h = absurd r

  served_run : (s t : ServerState) (es : List Event) (os : List Outcome) → Run s es os t →
      TakesSomeAmongOthers k c s es os → IsServed k c s es os t
  served_run s t [] [] r among = record { lines = omega arith; served = λ h. absurd (omega (arith, h)) }
  served_run s t (e ∷ es) (o ∷ os) (mid, step, r) among =
      let next : ServerState = after s e o in
      let run = later t es os step r in
      let rest = served_run next t es os run among.1 in
      let done : List Execution = of_client c (executions_in_event s e o) in
      let texts = answers_more c (executions_in_event s e o) (executions next es os) in
      let lines = lines_more c (executions_in_event s e o) (executions next es os) in
      let times = ap (λ (n : ℕ). n * k) lines ∙ add-mul (length done) (lines_done c next es os) k in
      own_or_not c e
      (λ yes its.
      let is = as_take s e o (λ e o. IsTake k c s (after s e o)
      (of_client c (executions_in_event s e o))) (among.0 its) (one_take k c s) in
      let events : events_of c (e ∷ es) * k ≡ suc (events_of c es) * k =
      ap (λ (b : Bool). length (cond b (e ∷ filter (is_event_of c) es) (filter (is_event_of c) es)) * k) yes in
      record {
        lines = omega (arith, is.fewer, rest.lines, lines);
        served = λ enough. elim (take_does k c few s next done is) [
          | inl counts ↦ rest.served (omega (arith, enough, counts, times, texts, events))
          | inr none ↦ (let last = stays_left next t es os run among.1
              (record { none = none; ended = is.ended }) in (last.none, last.ended.stopped))
        ];
      })
      (λ no differ.
      let other = anothers c s e (refused_after o) differ in
      let owes = ap (λ (z : List ℕ). length z) other.untouched.owes in
      let holds = ap (λ (z : List ℕ). length z) other.untouched.holds in
      let none = ap (λ (z : List Execution). length z) other.nothing in
      let no_text = ap (λ (z : List Execution). length (texts_of z)) other.nothing in
      let no_line = ap (λ (z : List Execution). length z * k) other.nothing in
      let events = ap (λ (b : Bool). length
      (cond b (e ∷ filter (is_event_of c) es) (filter (is_event_of c) es)) * k) no in
      record {
        lines = omega (arith, rest.lines, holds, none, lines);
        served = λ enough. rest.served (omega (arith, enough, owes, texts, no_text, times, no_line, events));
      })
  served_run s t es os r among = absurd r

pub takes_some : WhoTakesSomeGetsEverything
takes_some old new es os c k few r among = served_run k few c old new es os r among
