-- The pump executes the least number of lines after which it stops.
use Rattle.std.proofs.Common.{◌≡◌, ℕ, zero, suc, ◌<◌, ◌≤◌, Bool, true, false}
use Rattle.std.proofs.Common.{List, [], Option, None, refl, sym, ◌∙◌, ap, subst, arith}
use Rattle.std.proofs.Common.{length, inl, inr}
use Rattle.std.specs.Prelude.{is_none, option_and_then}
use Rattle.std.specs.Option.{option_map_or}
use Rattle.std.proofs.lemmas.List.{nil_from_length}
use Rattle.std.proofs.lemmas.Bool.{cases_Bool, ltb-false}
use Rattle.nutcore.specs.declared.event.Event.TheVariants.{Feed, Took}
use Rattle.nutcore.specs.declared.event.Outcome.TheVariants.{Done, Fed, Refused}
use Rattle.nutcore.specs.declared.event.Fault.TheVariants.{Memory}
use Rattle.nutcore.proofs.Common.{SessionState, ServerState, session, Step}
use Rattle.nutcore.specs.Reply.{reply}
use Rattle.nutcore.specs.Pump.{next_line, next_line_for, after_line, after_lines, pump_stops}
use Rattle.nutcore.specs.Pump.{held_of, owed_of, pumped, after_notice, after_all_lines}
use Rattle.nutcore.specs.Pump.{holds_overlong, notified, answered}
use Rattle.nutcore.specs.Step.{with_input, without_output, may_take, outcome_of, after_by, pumped_until}
use Rattle.nutcore.specs.Headline.{NothingIsLeftToExecute, OneAnswerAtMostIsOwedAbove}
use Rattle.nutcore.specs.Determined.{IsLeast}
use Rattle.nutcore.proofs.Changes.{keeps}
use Rattle.nutcore.proofs.Changed.{session_changed}
use Rattle.nutcore.proofs.Pumping.{is_next, change_at, no_notice, of_notice_due}
use Rattle.nutcore.proofs.Found.{cases_Option}
use Rattle.nutcore.proofs.Loops.{stopped_lines, line_shortens, all_lines_are, found_after_line}

-- the pump has stopped, and no line is too long
pub record IsIdle (o : Option SessionState) : Type 0 where
  pub stopped : is_none (option_and_then next_line o) ≡ true
  pub short : option_map_or holds_overlong o false ≡ false

abbrev pub HasStopped : ServerState → ℕ → Type 0
HasStopped s c = IsIdle (session c s)

-- so it is where nothing is held
pub empty_idle : (o : Option SessionState) → held_of o ≡ [] → IsIdle o
empty_idle o none = record { stopped = grind arith; short = grind arith }

-- after as many lines as bytes are held, the pump has stopped
pub stops_at_last : (n : ℕ) (s : ServerState) (c : ℕ) → length (held_of (session c s)) ≤
    n → pump_stops (after_lines n s c) c ≡ true
unfolding after_lines
stops_at_last zero s c le = (empty_idle (session c s)
    (nil_from_length (held_of (session c s)) (omega (arith, le)))).stopped
stops_at_last (suc n) s c le = elim (cases_Option (next_line_for s c)) [
  | inl e ↦ (let stop = ap is_none e in
      subst (λ (z : ServerState). pump_stops z c ≡ true) (sym (stopped_lines (suc n) s c stop)) stop)
  | inr (line, e) ↦ stops_at_last n (after_line s c) c
      (let less = line_shortens s c line e in omega (arith, less, le))
]

-- of the numbers at which a test holds, one is the least
least : (P : ℕ → Bool) (n : ℕ) → P n ≡ true → (k : ℕ) × (k ≤ n) ×
    (P k ≡ true) × ((j : ℕ) → j < k → P j ≡ false)
least P zero now = (0, omega arith, now, λ j lt. absurd (omega (arith, lt)))
least P (suc n) now = elim (cases_Bool (P 0)) [
  | inl first ↦ (0, omega arith, first, λ j lt. absurd (omega (arith, lt)))
  | inr none ↦ (let (k, within, there, before) = least (λ j. P (suc j)) n now in
      (suc k, omega (arith, within), there, earlier k none before))
]
  where
    earlier : (k : ℕ) → P 0 ≡ false → ((j : ℕ) → j < k → P (suc j) ≡ false) →
        (j : ℕ) → j < suc k → P j ≡ false
    earlier k none before zero lt = none
    earlier k none before (suc j) lt = before j (omega (arith, lt))

pub pump_least : (s : ServerState) (c : ℕ) → (k : ℕ) × IsLeast s c k
unfolding pumped
pump_least s c =
    let n = length (held_of (session c s)) in
    let (k, within, there, before) =
    least (λ k. pump_stops (after_lines k s c) c) n (stops_at_last n s c (omega arith)) in (
      k,
      record {
        there = there;
        before = before;
        pumped_is = ap (λ (z : ServerState). after_notice z c) (all_lines_are k s c within there);
      },
    )

-- so it is where there is no session
pub no_session : IsIdle None
no_session = record { stopped = refl; short = refl }

-- where it has stopped, a pump does nothing
pub pump_idle : (s : ServerState) (c : ℕ) → HasStopped s c → pumped s c ≡ s
unfolding pumped after_all_lines
pump_idle s c h = ap (λ (z : ServerState). after_notice z c)
    (stopped_lines (length (held_of (session c s))) s c h.stopped) ∙ no_notice s c h.short

pub pump_absent : (s : ServerState) (c : ℕ) → session c s ≡ None → s ≡ pumped s c
pump_absent s c e = sym (pump_idle s c (rw e no_session))

pub pump_ended : (s : ServerState) (c : ℕ) → HasStopped (pumped s c) c
unfolding pumped after_all_lines
pump_ended s c =
    let n : ℕ = length (held_of (session c s)) in
    let t : ServerState = after_lines n s c in
    of_notice_due (λ xs r. HasStopped r c) t c
    (λ due. subst IsIdle (sym (session_changed notified (λ x. refl) c t))
    (record { stopped = grind arith; short = grind arith }))
    (λ short. record { stopped = stops_at_last n s c (omega arith); short = short })

-- so after bytes that were taken in, and after bytes that were taken
fed_stops : (old new : ServerState) (c n : ℕ) (piece : List ℕ) →
    Step old (Feed c piece) (Fed n) new → pump_stops new c ≡ true
unfolding after_by pumped_until
fed_stops old new c n piece step = rw step.leaves (pump_ended (with_input old c piece) c).stopped

took_stops : (old new : ServerState) (c n : ℕ) → Step old (Took c n) Done new → pump_stops new c ≡ true
unfolding outcome_of after_by pumped_until
took_stops old new c n step = elim step.allowed [
  | inl told ↦ (let may : may_take (session c old) n ≡ true = grind (arith, told) in
      rw (step.leaves, may) (pump_ended (without_output old c n) c).stopped)
  | inr lack ↦ (let e : Done ≡ Refused (Memory lack.0) = lack.1 in cc)
]

pub nothing_left : NothingIsLeftToExecute
nothing_left = record { fed = fed_stops; took = took_stops }

-- a line is executed while little is owed, and its answer is joined
pub one_answer_above : OneAnswerAtMostIsOwedAbove
one_answer_above s c line next =
    let n = is_next s c line next in
    let kept = keeps (change_at s c line) (answered line (reply s c line) n.asking) in (
      rw n.found (ltb-false _ _ n.little),
      ap owed_of (found_after_line s c line n.asking n.found next) ∙ rw n.found kept.owed,
    )
