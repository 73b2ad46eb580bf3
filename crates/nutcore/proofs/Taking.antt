-- A client that takes so many bytes, or all that it is offered where those are fewer: what one
-- take moves and executes; and that who takes again and again gets everything.
use Rattle.std.proofs.Common.{◌≡◌, ◌⊎◌, ℕ, ◌+◌, ◌*◌, ◌≤◌, false, List}
use Rattle.std.proofs.Common.{[], ◌∷◌, Option, Some, None, refl, sym, ◌∙◌, ap, subst}
use Rattle.std.proofs.Common.{cond, inl, inr, arith, length, take, length-take, min, zero, suc}
use Rattle.std.proofs.Common.{◌<◌}
use Rattle.std.proofs.Math.Nat.{add-mul}
use Rattle.std.proofs.lemmas.List.{nil_from_length}
use Rattle.std.proofs.lemmas.Bool.{cond_both, cases_Bool, cases_lt, le-leb}
use Rattle.nutlisting.specs.declared.outbox.TheConstants.{QUEUE_LIMIT}
use Rattle.nutcore.proofs.Common.{never_both, Event, Outcome, SessionState, ServerState, session, after}
use Rattle.nutcore.specs.declared.event.Event.TheVariants.{Took}
use Rattle.nutcore.specs.Pump.{pumped}
use Rattle.nutcore.specs.Step.{taken_from, without_output, may_take, offered, pumped_until}
use Rattle.nutcore.specs.Step.{after_by, refused_after, outcome_of}
use Rattle.nutcore.specs.History.{Execution, executions_in_event, of_client, texts_of}
use Rattle.nutcore.specs.History.{taken_in_event, asked_in_event, owed, held, executions}
use Rattle.nutcore.proofs.Bounded.{IsMeasured, measures}
use Rattle.nutcore.proofs.Changed.{by_change}
use Rattle.nutcore.proofs.Costs.{took_some, took_none}
use Rattle.nutcore.proofs.Histories.{of_event_of_client, lines_more, answers_more}
use Rattle.nutcore.proofs.Least.{HasStopped, no_session, pump_idle, pump_ended}
use Rattle.nutcore.proofs.Pumping.{put_same}
use Rattle.nutcore.specs.Taking.{enough_takes, GetsEverything, WhoTakesGetsEverything}

-- the client takes k bytes, or all
abbrev pub size : ℕ → ℕ → ServerState → ℕ
size k c s = min k (length (offered (session c s)))

abbrev pub some_taken : ℕ → ℕ → ServerState → Event
some_taken k c s = Took c (size k c s)

abbrev pub outcome_then : ℕ → ℕ → ServerState → Outcome
outcome_then k c s = outcome_of s (some_taken k c s)

abbrev pub server_then : ℕ → ℕ → ServerState → ServerState
server_then k c s = after s (some_taken k c s) (outcome_then k c s)

abbrev pub done_then : ℕ → ℕ → ServerState → List Execution
done_then k c s = of_client c (executions_in_event s (some_taken k c s) (outcome_then k c s))

-- of a whole queue, it is all that is offered
pub all_is_queue : (c : ℕ) (s : ServerState) → size QUEUE_LIMIT c s ≡ length (offered (session c s))
all_is_queue c s = omega (arith, length-take QUEUE_LIMIT (owed c s))

-- nothing is left: then it stays so
pub record HasNothingLeft (c : ℕ) (s : ServerState) : Type 0 where
  pub none : owed c s ≡ []
  pub ended : HasStopped s c

-- a take moves so many bytes, and its pump follows; what is executed takes from what is held
pub record IsTake (k c : ℕ) (s t : ServerState) (done : List Execution) : Type 0 where
  pub ended : HasStopped t c
  pub moved : length (owed c t) + size k c s ≤ length (owed c s) + length (texts_of done)
  pub fewer : length done + length (held c t) ≤ length (held c s)

module _ (k c : ℕ) where
  then_is : (s : ServerState) → server_then k c s ≡
      cond (may_take (session c s) (size k c s)) (pumped (without_output s c (size k c s)) c) s
  unfolding after_by pumped_until outcome_of
  then_is s = let memory : refused_after (outcome_then k c s) ≡ None = grind arith in
      ap (after_by s (some_taken k c s)) memory

  -- of a client that isn't open there is nothing to take
  none_there : (o : Option SessionState) → may_take o (min k (length (offered o))) ≡ false →
      (o ≡ None) × (0 ≡ min k (length (offered o)))
  none_there None never = (refl, omega arith)
  none_there (Some x) never = never_both _
      (le-leb _ _ (let le : min k (length (offered (Some x))) ≤ length (offered (Some x)) = omega arith in le)) never

  some_is_taken : (s : ServerState) → length (taken_in_event c s (some_taken k c s)) ≡ size k c s
  some_is_taken s = elim (cases_Bool (may_take (session c s) (size k c s))) [
    | inl may ↦ took_some s c (size k c s) may (omega arith)
    | inr never ↦ took_none s c (size k c s) never ∙ (none_there (session c s) never).1
  ]

  pub one_take : (s : ServerState) → IsTake k c s (server_then k c s) (done_then k c s)
  unfolding asked_in_event
  one_take s =
      let n : ℕ = size k c s in
      let is = of_event_of_client IsMeasured measures c s (some_taken k c s) (refused_after (outcome_then k c s)) in
      record {
        ended = subst (λ (z : ServerState). HasStopped z c) (sym (then_is s))
            (cond_both (may_take (session c s) n) (pumped (without_output s c n) c) s (λ z. HasStopped z c)
            (λ may. pump_ended (without_output s c n) c) (λ never. rw (none_there (session c s) never).0 no_session));
        moved = omega (arith, is.owes, some_is_taken s);
        fewer = omega (arith, is.holds);
      }

  -- it moves k bytes, or executes something, which counts as much, or leaves nothing owed
  pub take_does : k ≤ QUEUE_LIMIT → (s t : ServerState) (done : List Execution) →
      IsTake k c s t done → (length (owed c t) + k ≤ length (owed c s) +
      length (texts_of done) + length done * k) ⊎ (owed c t ≡ [])
  take_does few s t (x ∷ done) is = inl (omega (arith, is.moved, add-mul 1 (length done) k))
  take_does few s t [] is = elim (cases_lt (length (offered (session c s))) k) [
    | inl less ↦ inr (nil_from_length (owed c t)
        (omega (arith, is.moved, less, few, length-take QUEUE_LIMIT (owed c s))))
    | inr full ↦ inl (omega (arith, is.moved, full))
  ]

  -- to take nothing changes nothing; so where nothing is left, a take leaves it so
  none_taken : (s : ServerState) → without_output s c 0 ≡ s
  unfolding without_output
  none_taken s = by_change (λ t. t ≡ s) (taken_from 0) c s (λ x e. put_same s c x e) (λ e. refl)

  pub idle_take : (s : ServerState) → HasNothingLeft c s → server_then k c s ≡ s
  idle_take s h =
      let none : size k c s ≡ 0 = omega (arith, ap (λ (bytes : List ℕ). length (take QUEUE_LIMIT bytes)) h.none) in
      then_is s ∙ ap (λ (n : ℕ). cond (may_take (session c s) n) (pumped (without_output s c n) c) s) none
      ∙ cond_both (may_take (session c s) 0) (pumped (without_output s c 0) c) s (λ z. z ≡ s)
      (λ may. ap (λ (z : ServerState). pumped z c) (none_taken s) ∙ pump_idle s c h.ended) (λ never. refl)

-- a take, and those after it
one_more : (s : ServerState) (c : ℕ) (rest : GetsEverything c (server_then QUEUE_LIMIT c s)) →
    suc (length rest.events) ≤ enough_takes c s (some_taken QUEUE_LIMIT c s ∷ rest.events)
    (outcome_then QUEUE_LIMIT c s ∷ rest.outcomes) → GetsEverything c s
one_more s c rest few = record {
  events = some_taken QUEUE_LIMIT c s ∷ rest.events;
  outcomes = outcome_then QUEUE_LIMIT c s ∷ rest.outcomes;
  new = rest.new;
  run = (server_then QUEUE_LIMIT c s, record { allowed = inl refl; leaves = refl }, rest.run);
  takes = ((ap (λ (n : ℕ). Took c n) (all_is_queue c s), refl), rest.takes);
  nothing_owed = rest.nothing_owed;
  nothing_left = rest.nothing_left;
  few = few;
  lines = omega (
    arith,
    (one_take QUEUE_LIMIT c s).fewer,
    rest.lines,
    lines_more c (executions_in_event s (some_taken QUEUE_LIMIT c s) (outcome_then QUEUE_LIMIT c s))
        (executions (server_then QUEUE_LIMIT c s) rest.events rest.outcomes),
  );
}

-- less is held, or as much is held and less is owed, after each but the last
nearer : (h w : ℕ) (c : ℕ) (s : ServerState) → length (held c s) < h → length (owed c s) <
    w → GetsEverything c s
nearer zero w c s holds owes = absurd (omega (arith, holds))
nearer (suc h) zero c s holds owes = absurd (omega (arith, owes))
nearer (suc h) (suc w) c s holds owes =
    let t : ServerState = server_then QUEUE_LIMIT c s in
    let done : List Execution = done_then QUEUE_LIMIT c s in
    let is = one_take QUEUE_LIMIT c s in
    elim (take_does QUEUE_LIMIT c (omega arith) s t done is) [
      | inl counts ↦ (let rest : GetsEverything c t = elim (cases_lt 0 (length done)) [
        | inl some ↦ nearer h (suc (length (owed c t))) c t (omega (arith, holds, is.fewer, some)) (omega arith)
        | inr none ↦ (let no_text = ap (λ (xs : List Execution). length (texts_of xs))
            (nil_from_length done (omega (arith, none))) in
            nearer (suc h) w c t (omega (arith, holds, is.fewer)) (omega (arith, owes, counts, none, no_text)))
      ] in
          let now : List Execution = executions_in_event s (some_taken QUEUE_LIMIT c s)
          (outcome_then QUEUE_LIMIT c s) in
          let later : List Execution = executions t rest.events rest.outcomes in
          one_more s c rest (omega (arith, rest.few, counts, answers_more c now later, lines_more c now later)))
      | inr none ↦ one_more s c (record {
        events = [];
        outcomes = [];
        new = t;
        run = refl;
        takes = tt;
        nothing_owed = none;
        nothing_left = is.ended.stopped;
        few = omega arith;
        lines = omega arith;
      }) (omega arith)
    ]

pub gets_everything : WhoTakesGetsEverything
gets_everything s c = nearer (suc (length (held c s))) (suc (length (owed c s))) c s (omega arith) (omega arith)
