-- Each line is executed at its moment.
use Rattle.std.proofs.Common.{◌≡◌, ℕ, zero, suc, ◌+◌, List, [], ◌∷◌, ◌++◌}
use Rattle.std.proofs.Common.{Option, Some, None, refl, sym, ◌∙◌, ap, subst, inl, inr}
use Rattle.std.proofs.Common.{append_assoc}
use Rattle.std.specs.Prelude.{All}
use Rattle.std.proofs.lemmas.Bool.{cond_both}
use Rattle.std.proofs.lemmas.List.Elements.{All-nil, All-cons, All-append, All-weaker}
use Rattle.nutcore.proofs.Common.{Event, Outcome, ServerState, session, Step, after, Run}
use Rattle.nutcore.specs.Pump.{next_line_for, after_line, after_lines, is_overlong, after_all_lines}
use Rattle.nutcore.specs.Step.{refused_after, may_take, with_input, without_output}
use Rattle.nutcore.specs.History.{of_line, of_notice, next_execution, lines_executed}
use Rattle.nutcore.specs.History.{pump_executions, executions_until, executions_by, executions}
use Rattle.nutcore.specs.Headline.{IsInPump, IsInEvent, IsTimely, EachAnswerIsTimely}
use Rattle.nutcore.proofs.Events.{of_event}
use Rattle.nutcore.proofs.Found.{cases_Option}
use Rattle.nutcore.proofs.Histories.{later}
use Rattle.nutcore.proofs.Loops.{after_lines-suc}
use Rattle.nutcore.proofs.Runs.{run_push}

pump_line : (begun : ServerState) (c k : ℕ) (s : ServerState) (j : ℕ) → s ≡
    after_lines j begun c → All (IsInPump begun c) (lines_executed k s c)
unfolding lines_executed
pump_line begun c zero s j e = All-nil (IsInPump begun c)
pump_line begun c (suc k) s j e =
    All-append (IsInPump begun c) (next_execution s c (next_line_for s c))
    (lines_executed k (after_line s c) c)
    (elim (cases_Option (next_line_for s c)) [
      | inl none ↦ rw none (All-nil (IsInPump begun c))
      | inr (line, next) ↦ rw next
          (All-cons (IsInPump begun c) (of_line s c line) [] (refl, j, e, next) (All-nil (IsInPump begun c)))
    ])
    (pump_line begun c k (after_line s c) (j + 1)
    (ap (λ (z : ServerState). after_line z c) e ∙ sym (after_lines-suc j begun c)))

until_timely : (begun : ServerState) (c : ℕ) (m : Option ℕ) → All (IsInPump begun c) (executions_until begun c m)
unfolding executions_until pump_executions after_lines
until_timely begun c None =
    All-append (IsInPump begun c) _ _ (pump_line begun c _ begun 0 refl)
    (cond_both (is_overlong (after_all_lines begun c) c)
    (of_notice (after_all_lines begun c) c ∷ []) [] (All (IsInPump begun c))
    (λ due. All-cons (IsInPump begun c) (of_notice (after_all_lines begun c) c) []
    (refl, refl, due) (All-nil (IsInPump begun c))) (λ quiet. All-nil (IsInPump begun c)))
until_timely begun c (Some k) = pump_line begun c k begun 0 refl

event_timely : (s : ServerState) (e : Event) (m : Option ℕ) → All (IsInEvent s e) (executions_by s e m)
unfolding executions_by
event_timely s e m =
    of_event (λ e. All (IsInEvent s e) (executions_by s e m))
    (λ e silent. subst (All (IsInEvent s e)) (sym (silent.executes s m)) (All-nil (IsInEvent s e)))
    (λ c piece. until_timely (with_input s c piece) c m)
    (λ c n. cond_both (may_take (session c s) n) (executions_until (without_output s c n) c m) []
    (All (IsInPump (without_output s c n) c)) (λ may. until_timely (without_output s c n) c m)
    (λ never. All-nil (IsInPump (without_output s c n) c))) e

-- after the events before, so in the whole run
run_timely : (old s t : ServerState) (ds es : List Event) (ps os : List Outcome) →
    Run old ds ps s → Run s es os t → All (IsTimely old (ds ++ es) (ps ++ os)) (executions s es os)
run_timely old s t ds [] ps [] before r = All-nil (IsTimely old (ds ++ []) (ps ++ []))
run_timely old s t ds (e ∷ es) ps (o ∷ os) before (mid, step, r) =
    let next : ServerState = after s e o in
    All-append (IsTimely old (ds ++ e ∷ es) (ps ++ o ∷ os)) _ _
    (All-weaker (IsInEvent s e) (IsTimely old (ds ++ e ∷ es) (ps ++ o ∷ os))
    (λ x h. record {
      events_before = ds;
      event = e;
      events_after = es;
      outcomes_before = ps;
      outcome = o;
      outcomes_after = os;
      server = s;
      events_are = refl;
      outcomes_are = refl;
      reached = before;
      executed = h;
    }) _ (event_timely s e (refused_after o)))
    (rw (append_assoc ds (e ∷ []) es, append_assoc ps (o ∷ []) os) at
    (run_timely old next t (ds ++ e ∷ []) es (ps ++ o ∷ []) os
    (run_push old s next ds ps e o before
    (subst (λ (z : ServerState). Step s e o z) step.leaves step)) (later t es os step r)))
run_timely old s t ds es ps os before r = absurd r

pub each_answer_timely : EachAnswerIsTimely
each_answer_timely old new es os r = run_timely old old new [] es [] os refl r
