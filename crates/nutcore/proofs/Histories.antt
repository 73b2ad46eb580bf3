-- What is said of a server, of what was executed since, and of the server then: where each part of
-- an event keeps it, each pump, each event and each run does.
use Rattle.std.proofs.Common.{◌≡◌, ◌≢◌, ℕ, zero, suc, ◌+◌, Bool, true, false}
use Rattle.std.proofs.Common.{List, [], ◌∷◌, ◌++◌, Option, Some, None, refl, sym}
use Rattle.std.proofs.Common.{◌∙◌, ap, subst, cond, eqb, length, append-nil, length-append}
use Rattle.std.proofs.Common.{take, ltb, arith, inl, inr}
use Rattle.std.specs.Prelude.{option_map}
use Rattle.std.specs.List.{flat_map}
use Rattle.std.proofs.lemmas.Bool.{cond_both, cases_Bool, eqb-true, eqb-false}
use Rattle.std.proofs.lemmas.Bool.Decides.{nat_tests}
use Rattle.std.proofs.lemmas.Grind.{flat_map-append}
use Rattle.std.proofs.lemmas.List.Elements.{filter-append}
use Rattle.nutcore.proofs.Common.{Event, Outcome, SessionState, ServerState, session}
use Rattle.nutcore.proofs.Common.{with_session_changed, Step, after, Run}
use Rattle.nutcore.specs.Session.{find, without, new_session}
use Rattle.nutcore.specs.Pump.{next_line_for, after_line, after_lines, after_all_lines}
use Rattle.nutcore.specs.Pump.{after_notice, is_overlong, holds_overlong, notified, pumped, held_of}
use Rattle.nutcore.specs.Pump.{owed_of}
use Rattle.nutcore.specs.Step.{accepted_bytes, joined, with_input, taken_from, without_output}
use Rattle.nutcore.specs.Step.{may_take, opened, pumped_until, after_by, refused_after}
use Rattle.nutcore.specs.History.{Execution, of_line, of_notice, client_of, text_of, next_execution}
use Rattle.nutcore.specs.History.{lines_executed, notice, pump_executions, executions_until}
use Rattle.nutcore.specs.History.{executions_by, executions, of_client, texts_of, taken_in_event}
use Rattle.nutcore.specs.History.{asked_in_event, taken, asked}
use Rattle.nutcore.proofs.Events.{IsPlain, of_event, of_session_event}
use Rattle.nutcore.proofs.Found.{cases_Option, find_without, find_without_other, of_pushed}
use Rattle.nutcore.proofs.Changed.{at_client, presence_changed, presence_other}
use Rattle.nutcore.proofs.Changed as changing_one
use Rattle.nutcore.proofs.Progress.{Presence, is_at, presence_is, presence}
use Rattle.nutcore.proofs.Pumping.{IsNext, is_next, session_after, own_after_line, other_after_line}
use Rattle.nutcore.proofs.Pumping.{stopped_none, of_notice_due}

-- of a pump of this client: its lines and its notice keep it, and so does one after another
pub record IsOfPump (d : ℕ) (R : ServerState → List Execution → ServerState → Type 0) : Type 0 where
  pub stays : (s : ServerState) → R s [] s
  pub joins : (s m t : ServerState) (xs ys : List Execution) → R s xs m → R m ys t → R s (xs ++ ys) t
  pub by_line : (s : ServerState) (line : List ℕ) → next_line_for s d ≡ Some line →
      R s (of_line s d line ∷ []) (after_line s d)
  pub by_notice : (s : ServerState) → is_overlong s d ≡ true →
      R s (of_notice s d ∷ []) (with_session_changed notified d s)

module _ (d : ℕ) (R : ServerState → List Execution → ServerState → Type 0) (h : IsOfPump d R) where
  next_keeps : (s : ServerState) → R s (next_execution s d (next_line_for s d)) (after_line s d)
  next_keeps s = elim (cases_Option (next_line_for s d))
      [ inl e ↦ rw (e, stopped_none s d e) (h.stays s) | inr (line, e) ↦ rw e (h.by_line s line e) ]

  lines_keep : (k : ℕ) (s : ServerState) → R s (lines_executed k s d) (after_lines k s d)
  unfolding lines_executed after_lines
  lines_keep zero s = h.stays s
  lines_keep (suc k) s =
      let next : ServerState = after_line s d in
      h.joins s next (after_lines k next d) (next_execution s d (next_line_for s d))
      (lines_executed k next d) (next_keeps s) (lines_keep k next)

  pub until_keeps : (s : ServerState) (m : Option ℕ) → R s (executions_until s d m) (pumped_until s d m)
  unfolding executions_until pumped_until pump_executions pumped after_all_lines
  until_keeps s None =
      let k : ℕ = length (held_of (session d s)) in
      let t : ServerState = after_lines k s d in
      h.joins s t (after_notice t d) (lines_executed k s d) (notice t d) (lines_keep k s)
      (of_notice_due (R t) t d (h.by_notice t) (λ quiet. h.stays t))
  until_keeps s (Some k) = lines_keep k s

-- a run goes on from what its first event leaves
pub later : {s mid : ServerState} {e : Event} {o : Outcome} (t : ServerState) (es : List Event)
    (os : List Outcome) → Step s e o mid → Run mid es os t → Run (after s e o) es os t
later t es os step r = subst (λ (z : ServerState). Run z es os t) step.leaves r

-- of each event, with what this client takes and is asked
pub record IsOfEvents (c : ℕ) (R : ServerState → List Execution → List ℕ → List ℕ →
    ServerState → Type 0) : Type 0 where
  pub stays : (s : ServerState) → R s [] [] [] s
  pub joins : (s m t : ServerState) (xs ys : List Execution) (k k' a a' : List ℕ) →
      R s xs k a m → R m ys k' a' t → R s (xs ++ ys) (k ++ k') (a ++ a') t
  pub by_line : (d : ℕ) (s : ServerState) (line : List ℕ) → next_line_for s d ≡
      Some line → R s (of_line s d line ∷ []) [] [] (after_line s d)
  pub by_notice : (d : ℕ) (s : ServerState) → is_overlong s d ≡ true →
      R s (of_notice s d ∷ []) [] [] (with_session_changed notified d s)
  pub by_input : (d : ℕ) (s : ServerState) (piece : List ℕ) →
      R s [] [] (cond (eqb d c) (accepted_bytes (session d s) piece) []) (with_input s d piece)
  pub by_output : (d : ℕ) (s : ServerState) (n : ℕ) → may_take (session d s) n ≡ true →
      R s [] (cond (eqb d c) (take n (owed_of (session d s))) []) [] (without_output s d n)
  pub by_plain : (s : ServerState) (e : Event) (m : Option ℕ) → IsPlain e → R s [] [] [] (after_by s e m)

module _ (c : ℕ) (R : ServerState → List Execution → List ℕ → List ℕ → ServerState →
    Type 0) (h : IsOfEvents c R) where
  pub pump_keeps : (d : ℕ) (s : ServerState) (m : Option ℕ) →
      R s (executions_until s d m) [] [] (pumped_until s d m)
  pump_keeps d s m = until_keeps d (λ s xs t. R s xs [] [] t)
      (record {
        stays = h.stays;
        joins = λ s m t xs ys f g. h.joins s m t xs ys [] [] [] [] f g;
        by_line = h.by_line d;
        by_notice = h.by_notice d;
      }) s m

  -- bytes come or go, and then the pump runs
  then_pump : (d : ℕ) (s j : ServerState) (m : Option ℕ) (k a : List ℕ) → R s [] k a j →
      R s (executions_until j d m) k a (pumped_until j d m)
  then_pump d s j m k a first = rw (append-nil k, append-nil a) at
      (h.joins s j (pumped_until j d m) [] (executions_until j d m) k [] a [] first (pump_keeps d j m))

  pub event_keeps : (s : ServerState) (e : Event) (m : Option ℕ) →
      R s (executions_by s e m) (taken_in_event c s e) (asked_in_event c s e) (after_by s e m)
  unfolding executions_by taken_in_event asked_in_event after_by
  event_keeps s e m = of_event (λ e. R s (executions_by s e m) (taken_in_event c s e)
      (asked_in_event c s e) (after_by s e m))
      (λ e silent. rw (silent.executes s m, silent.takes c s, silent.asks c s) (h.by_plain s e m silent.plain))
      (λ d piece. then_pump d s (with_input s d piece) m [] _ (h.by_input d s piece))
      (λ d n. elim (cases_Bool (may_take (session d s) n)) [
        | inl may ↦ rw may (then_pump d s (without_output s d n) m
            (cond (eqb d c) (take n (owed_of (session d s))) []) [] (h.by_output d s n may))
        | inr never ↦ rw never (h.stays s)
      ]) e

  pub run_keeps : (s t : ServerState) (es : List Event) (os : List Outcome) → Run s es os t →
      R s (executions s es os) (taken c s es os) (asked c s es os) t
  run_keeps s t [] [] r = subst (R s [] [] []) (sym r) (h.stays s)
  run_keeps s t (e ∷ es) (o ∷ os) (mid, step, r) =
      h.joins s (after s e o) t _ _ _ _ _ _ (event_keeps s e (refused_after o))
      (run_keeps (after s e o) t es os (later t es os step r))
  run_keeps s t es os r = absurd r

-- what is one client's of two lists
pub two_clients : (c : ℕ) (xs ys : List Execution) → of_client c (xs ++ ys) ≡ of_client c xs ++ of_client c ys
two_clients c xs ys = filter-append (λ x. eqb (client_of x) c) xs ys

pub two_lists : (f : Execution → List ℕ) (c : ℕ) (xs ys : List Execution) →
    flat_map f (of_client c (xs ++ ys)) ≡ flat_map f (of_client c xs) ++ flat_map f (of_client c ys)
two_lists f c xs ys = ap (flat_map f) (two_clients c xs ys) ∙ flat_map-append f (of_client c xs) (of_client c ys)

pub lines_more : (c : ℕ) (xs ys : List Execution) → length (of_client c (xs ++ ys)) ≡
    length (of_client c xs) + length (of_client c ys)
lines_more c xs ys = ap (λ (zs : List Execution). length zs) (two_clients c xs ys) ∙
    length-append (of_client c xs) (of_client c ys)

pub answers_more : (c : ℕ) (xs ys : List Execution) →
    length (texts_of (of_client c (xs ++ ys))) ≡ length (texts_of (of_client c xs)) +
    length (texts_of (of_client c ys))
answers_more c xs ys = ap (λ (zs : List ℕ). length zs) (two_lists text_of c xs ys) ∙
    length-append (texts_of (of_client c xs)) (texts_of (of_client c ys))

-- all that a client's pump executes is its own
pub of_its_pump : (c d : ℕ) (s : ServerState) (m : Option ℕ) →
    of_client c (executions_until s d m) ≡ cond (eqb d c) (executions_until s d m) []
of_its_pump c d = until_keeps d (λ s xs t. of_client c xs ≡ cond (eqb d c) xs []) (record {
  stays = λ s. cond_both (eqb d c) [] [] (λ (xs : List Execution). [] ≡ xs) (λ own. refl) (λ other. refl);
  joins = λ s m t xs ys f g. two_clients c xs ys ∙
      rw (f, g) (elim (cases_Bool (eqb d c)) [ inl own ↦ rw own | inr other ↦ rw other ]);
  by_line = λ s line next. refl;
  by_notice = λ s long. refl;
})

-- what one client does is its own, or another's
pub own_or_other : (c d : ℕ) (P : ℕ → Bool → Type 0) → P d true → (c ≢ d → P c false) → P c (eqb d c)
own_or_other c d P own other = elim (cases_Bool (eqb d c)) [
  | inl e ↦ rw e (subst (λ (z : ℕ). P z true) (eqb-true d c e) own)
  | inr e ↦ rw e (other (λ (h : c ≡ d). eqb-false d c e (sym h)))
]

-- what holds of a client as it is, whoever is given the next id, where it is closed, and where it
-- is opened, holds after each event by which no client sends or takes
pub of_opened : (P : Presence → Type 0) (c : ℕ) (s : ServerState) (address : List ℕ)
    (m : Option ℕ) → ((u : Bool) → (ltb c s.next_id ≡ true → u ≡ true) → P (is_at (session c s) u))
    → (s.next_id ≡ c → presence c s ≡ is_at None false →
    P (is_at (Some (new_session s.next_id address)) true)) → P (presence c (opened s address m))
of_opened P c s address m same new =
    let n : ℕ = s.next_id in
    changing_one.of_opened (λ t. P (presence c t)) s address m (same (ltb c n) (λ used. used))
    (λ may. of_pushed (λ o. P (is_at o (ltb c (n + 1)))) c (new_session n address) s.sessions
    (same (ltb c (n + 1)) (λ used. grind (arith, nat_tests)))
    (λ its none. let used : ltb c (n + 1) ≡ true = grind (arith, nat_tests) in
    let unused : ltb c n ≡ false = grind (arith, nat_tests) in
    subst (λ (u : Bool). P (is_at (Some (new_session n address)) u)) (sym used) (new its (presence_is none unused))))

pub of_plain_event : (P : Presence → Type 0) (c : ℕ) (s : ServerState) (e : Event)
    (m : Option ℕ) → IsPlain e →
    ((u : Bool) → (ltb c s.next_id ≡ true → u ≡ true) → P (is_at (session c s) u)) → P (at_client s c None)
    → ((address : List ℕ) → s.next_id ≡ c → presence c s ≡ is_at None false →
    P (is_at (Some (new_session s.next_id address)) true)) → P (presence c (after_by s e m))
unfolding after_by
of_plain_event P c s e m plain same none new =
    let stays : P (presence c s) = same (ltb c s.next_id) (λ used. used) in
    of_session_event (λ e. IsPlain e → P (presence c (after_by s e m)))
    (λ e apart plain. subst P (sym (presence_is (ap (find c) (apart.sessions s m))
    (ap (ltb c) (apart.next_id s m)))) stays)
    (λ address plain. of_opened P c s address m same (new address))
    (λ d piece never. absurd never) (λ d n never. absurd never)
    (λ d plain. own_or_other c d (λ z b. P (at_client s c (find z (without d s.sessions))))
    (subst (λ o. P (at_client s c o)) (sym (find_without d s.sessions)) none)
    (λ differ. subst (λ o. P (at_client s c o)) (sym (find_without_other c d s.sessions differ)) stays)) e plain

pub of_plain : (P : Option SessionState → Type 0) (c : ℕ) (s : ServerState) (e : Event)
    (m : Option ℕ) → IsPlain e → P (session c s) → P None →
    ((address : List ℕ) → s.next_id ≡ c → session c s ≡ None →
    P (Some (new_session s.next_id address))) → P (session c (after_by s e m))
of_plain P c s e m plain same none new =
    of_plain_event (λ p. P p.session) c s e m plain (λ u up. same) none
    (λ address its away. new address its (ap (λ (p : Presence). p.session) away))

-- what is said of a client before and after, of its executions, and of what it takes and is asked:
-- its lines and its notice, bytes that come and go, its opening and its closing keep it, and so do
-- ids that are given meanwhile
pub record IsOfClient (R : Presence → List Execution → List ℕ → List ℕ → Presence → Type 0) : Type 0 where
  pub joins : (p q r : Presence) (xs ys : List Execution) (k k' a a' : List ℕ) →
      R p xs k a q → R q ys k' a' r → R p (xs ++ ys) (k ++ k') (a ++ a') r
  pub stays : (o : Option SessionState) (u v : Bool) → (u ≡ true → v ≡ true) →
      R (is_at o u) [] [] [] (is_at o v)
  pub by_line : (c : ℕ) (s : ServerState) (line : List ℕ) (n : IsNext s c line) (u : Bool) →
      R (is_at (Some n.asking) u) (of_line s c line ∷ []) [] [] (is_at (Some (session_after s c line n.asking)) u)
  pub by_notice : (c : ℕ) (s : ServerState) (x : SessionState) (u : Bool) → holds_overlong x ≡
      true → R (is_at (Some x) u) (of_notice s c ∷ []) [] [] (is_at (Some (notified x)) u)
  pub by_input : (piece : List ℕ) (x : SessionState) (u : Bool) →
      R (is_at (Some x) u) [] [] (accepted_bytes (Some x) piece) (is_at (Some (joined piece x)) u)
  pub by_output : (n : ℕ) (x : SessionState) (u : Bool) →
      R (is_at (Some x) u) [] (take n x.owed) [] (is_at (Some (taken_from n x)) u)
  pub opens : (id : ℕ) (address : List ℕ) →
      R (is_at None false) [] [] [] (is_at (Some (new_session id address)) true)
  pub closes : (x : SessionState) (u : Bool) → R (is_at (Some x) u) [] [] [] (is_at None u)

module _ (R : Presence → List Execution → List ℕ → List ℕ → Presence → Type 0)
    (h : IsOfClient R) (c : ℕ) where
  unmoved : (p q : Presence) → q ≡ p → R p [] [] [] q
  unmoved p q e = subst (R p [] [] []) (sym e) (h.stays p.session p.used p.used (λ used. used))

  -- what changes a session, changes it only for its client
  changing : (Q : Bool → Presence → Presence → Type 0) (f : SessionState → SessionState) →
      ((x : SessionState) → (f x).id ≡ x.id) → (d : ℕ) (s : ServerState)
      → Q true (presence d s) (at_client s d (option_map f (session d s))) →
      Q false (presence c s) (presence c s) → Q (eqb d c) (presence c s) (presence c (with_session_changed f d s))
  changing Q f id d s own other = own_or_other c d
      (λ z b. Q b (presence z s) (presence z (with_session_changed f d s)))
      (subst (Q true (presence d s)) (sym (presence_changed f id d s)) own)
      (λ differ. subst (Q false (presence c s)) (sym (presence_other f id c d s differ)) other)

  at_events : IsOfEvents c (λ s xs k a t. R (presence c s) (of_client c xs) k a (presence c t))
  unfolding with_input without_output
  at_events = record {
    stays = λ s. unmoved (presence c s) _ refl;
    joins = λ s m t xs ys k k' a a' f g. subst
        (λ (zs : List Execution). R (presence c s) zs (k ++ k') (a ++ a') (presence c t)) (sym (two_clients c xs ys))
        (h.joins (presence c s) (presence c m) (presence c t) (of_client c xs) (of_client c ys) k k' a a' f g);
    by_line = λ d s line next.
        let n = is_next s d line next in
        own_or_other c d (λ z b. R (presence z s) (cond b (of_line s d line ∷ []) []) [] []
        (presence z (after_line s d)))
        (subst (λ (p : Presence). R p (of_line s d line ∷ []) [] []
        (presence d (after_line s d))) (sym (ap (at_client s d) n.found))
        (rw (own_after_line s d line n.asking n.found next) (h.by_line d s line n (ltb d s.next_id))))
        (λ differ. unmoved (presence c s) _ (other_after_line c d s line next differ));
    by_notice = λ d s long. changing (λ b p q. R p (cond b (of_notice s d ∷ []) []) [] [] q)
        notified (λ x. refl) d s (elim (cases_Option (session d s)) [
          | inl none ↦ cc (rw none at long)
          | inr (x, found) ↦ rw found
              (h.by_notice d s x _ (rw found at long))
        ]) (unmoved (presence c s) _ refl);
    by_input = λ d s piece. changing
        (λ b p q. R p [] [] (cond b (accepted_bytes (session d s) piece) []) q) (joined piece)
        (λ x. refl) d s (elim (cases_Option (session d s)) [
          | inl none ↦ rw none (unmoved _ _ refl)
          | inr (x, found) ↦ rw found
              (h.by_input piece x _)
        ]) (unmoved (presence c s) _ refl);
    by_output = λ d s n may. changing
        (λ b p q. R p [] (cond b (take n (owed_of (session d s))) []) [] q) (taken_from n)
        (λ x. refl) d s (elim (cases_Option (session d s))
        [ inl none ↦ cc (rw none at may) | inr (x, found) ↦ rw found (h.by_output n x _) ])
        (unmoved (presence c s) _ refl);
    by_plain = λ s e m plain. of_plain_event (R (presence c s) [] [] []) c s e m plain
        (h.stays (session c s) _) (elim (cases_Option (session c s))
        [ inl none ↦ rw none (unmoved _ _ refl) | inr (x, found) ↦ rw found (h.closes x _) ])
        (λ address its away. subst (λ (p : Presence). R p [] [] []
        (is_at (Some (new_session s.next_id address)) true)) (sym away) (h.opens s.next_id address));
  }

  pub of_event_of_client : (s : ServerState) (e : Event) (m : Option ℕ) →
      R (presence c s) (of_client c (executions_by s e m)) (taken_in_event c s e)
      (asked_in_event c s e) (presence c (after_by s e m))
  of_event_of_client s e m = event_keeps c
      (λ s xs k a t. R (presence c s) (of_client c xs) k a (presence c t)) at_events s e m

  pub of_run_of_client : (s t : ServerState) (es : List Event) (os : List Outcome) →
      Run s es os t → R (presence c s) (of_client c (executions s es os)) (taken c s es os)
      (asked c s es os) (presence c t)
  of_run_of_client s t es os r = run_keeps c
      (λ s xs k a t. R (presence c s) (of_client c xs) k a (presence c t)) at_events s t es os r
