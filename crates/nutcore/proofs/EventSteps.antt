-- Each event of a client.
use Rattle.std.proofs.Common.{◌≡◌, ℕ, ◌+◌, ◌-◌, ◌≤◌, ◌<◌, Bool, true}
use Rattle.std.proofs.Common.{false, List, [], ◌∷◌, ◌++◌, Option, Some, Result}
use Rattle.std.proofs.Common.{Ok, Err, refl, sym, ◌∙◌, ap, subst, set, inl, inr, arith, length, take}
use Rattle.std.specs.Prelude.{IsTrue}
use Rattle.std.proofs.lemmas.Bool.{cond-true}
use Rattle.nutcore.proofs.Common.{Fault, Outcome, SessionState, ServerState, session, Step}
use Rattle.nutcore.specs.declared.event.Event.TheVariants.{Open, Feed, Took, Close, Id}
use Rattle.nutcore.specs.declared.event.Outcome.TheVariants.{Done, Fed, Opened, Refused}
use Rattle.nutcore.specs.declared.event.Fault.TheVariants.{TooManyClients, TookTooMuch, LineTooLong, Memory}
use Rattle.nutcore.specs.Session.{without, new_session}
use Rattle.nutcore.specs.Pump.{after_all_lines, after_lines, pumped, is_overlong, wants_memory}
use Rattle.nuttracking.specs.Tracking.{id_fault}
use Rattle.nutcore.specs.Step.{joined, accepted, offered, refused_after, with_input, taken_from, without_output}
use Rattle.nutcore.specs.Step.{may_take, may_open, pumped_until, opened, after_by, fed_by}
use Rattle.nutcore.specs.DriverEvents.{handed_in, id_outcome}
use Rattle.nutcore.specs.Step.{outcome_of, MayLackMemory}
use Rattle.nutcore.specs.Calls.{done, IsEvent}
use Rattle.nutcore.specs.Cost.{RunningServer, forgetful}
use Rattle.nutdriver.specs.Waste.{TreeWaste}
use Rattle.nutcore.specs.History.{executions_until}
use Rattle.nutcore.specs.Notes.{notes_of_lines}
use Rattle.nutcore.specs.Sound.{IsSound}
use Rattle.nutcore.specs.declared.note.TheConstants.{NOTE_LIMIT}
use Rattle.nutcore.specs.Promises.{IsAt, PumpGives, cost_beyond}
use Rattle.nutcore.proofs.Serving.{change_set, StandsAt}
use Rattle.nutcore.proofs.Costs.{feed_costs, take_costs}
use Rattle.nutcore.proofs.Notes.{fed_noted, took_noted}
use Rattle.nutcore.proofs.OneEvent.{event_from, Refuses}

pub with_input_is : (s : ServerState) (c i : ℕ) (piece : List ℕ) (x y : SessionState) →
    IsAt c i s.sessions → session c s ≡ Some x → y ≡ joined piece x →
    (let code : ServerState = record s { sessions = set s.sessions i y } in code ≡ with_input s c piece)
unfolding with_input
with_input_is s c i piece x y h e ey = change_set (joined piece) s c i x y h e refl ey

pub without_output_is : (s : ServerState) (c i n : ℕ) (x y : SessionState) →
    IsAt c i s.sessions → session c s ≡ Some x → y ≡ taken_from n x →
    (let code : ServerState = record s { sessions = set s.sessions i y } in code ≡ without_output s c n)
unfolding without_output
without_output_is s c i n x y h e ey = change_set (taken_from n) s c i x y h e refl ey

-- what holds of the three ends of a pump holds of what it gives
of_gives : (P : Result (Unit {0}) Fault → ServerState → Type 0) (j : ServerState) (c : ℕ) →
    ((u : Unit {0}) → is_overlong (after_all_lines j c) c ≡ false → P (Ok u) (pumped j c)) →
    (is_overlong (after_all_lines j c) c ≡ true → P (Err LineTooLong) (pumped j c))
    → ((k : ℕ) → IsTrue (wants_memory (after_lines k j c) c) →
    P (Err (Memory k)) (after_lines k j c)) → (r : Result (Unit {0}) Fault) (t : ServerState) →
    PumpGives j c r t → P r t
of_gives P j c short long memory (Ok u) t (over, e) = subst (P (Ok u)) (sym e) (short u over)
of_gives P j c short long memory (Err LineTooLong) t (over, e) = subst (P (Err LineTooLong)) (sym e) (long over)
of_gives P j c short long memory (Err (Memory k)) t (wants, e) = subst (P (Err (Memory k))) (sym e) (memory k wants)
of_gives P j c short long memory (Err fault) t never = absurd never

abbrev pub fed_as : ℕ → Result (Unit {0}) Fault → Outcome
fed_as n (Ok u) = Fed n
fed_as n (Err fault) = Refused fault

pub feed_gives : (s j t : ServerState) (c : ℕ) (piece : List ℕ) (x : SessionState) (n : ℕ)
    (r : Result (Unit {0}) Fault) → session c s ≡ Some x → j ≡ with_input s c piece →
    Fed n ≡ fed_by (session c s) piece false → PumpGives j c r t → Step s (Feed c piece) (fed_as n r) t
unfolding outcome_of after_by pumped_until MayLackMemory
feed_gives s j t c piece x n r e ej count gives =
    of_gives (λ r t. Step s (Feed c piece) (fed_as n r) t) (with_input s c piece) c
    (λ u over. record {
      allowed = inl
          (count ∙ ap (λ (b : Bool). fed_by (session c s) piece b) (sym over));
      leaves = refl;
    })
    (λ over. record {
      allowed = inl
          (sym (ap (λ (o : Option SessionState). fed_by o piece
          (is_overlong (after_all_lines (with_input s c piece) c) c)) e ∙ cond-true _ _ _ over));
      leaves = refl;
    })
    (λ k wants. record { allowed = inr (k, refl, wants); leaves = refl })
    r t (subst (λ (z : ServerState). PumpGives z c r t) ej gives)

-- bytes taken
pub took_gives : (s j t : ServerState) (c n : ℕ) (x : SessionState) (r : Result (Unit {0}) Fault)
    → session c s ≡ Some x → may_take (session c s) n ≡ true → j ≡
    without_output s c n → PumpGives j c r t → Step s (Took c n) (done r) t
unfolding outcome_of after_by pumped_until MayLackMemory
took_gives s j t c n x r e may ej gives =
    of_gives (λ r t. Step s (Took c n) (done r) t) (without_output s c n) c
    (λ u short. record { allowed = inl (rw (e, rw e at may, short)); leaves = rw may })
    (λ long. record { allowed = inl (rw (e, rw e at may, long)); leaves = rw may })
    (λ k wants. record { allowed = inr (k, refl, (may, wants)); leaves = rw may })
    r t (subst (λ (z : ServerState). PumpGives z c r t) ej gives)

-- closing
pub close_present : (s : ServerState) (c : ℕ) (x : SessionState) (xs : List SessionState) →
    session c s ≡ Some x → xs ≡ without c s.sessions →
    (let t : ServerState = record s { sessions = xs } in Step s (Close c) Done t)
unfolding outcome_of after_by
close_present s c x xs e exs = record { allowed = inl (rw e); leaves = rw exs }

-- a client sends, and its lines are executed
pub feed_event : {old v new : RunningServer} {w : TreeWaste} {c i : ℕ} {piece : List ℕ}
    {x y : SessionState} {n kept : ℕ}
    (r : Result (Unit {0}) Fault) → v ≡ forgetful old.state w → IsSound v.state →
    StandsAt v.state c i x → y ≡ joined piece x
    → n ≡ accepted x piece
    → kept ≡ length (offered (Some x)) →
    (let j : ServerState = record v.state { sessions = set v.state.sessions i y } in PumpGives j c r new.state ×
    (new.notes ≡ take NOTE_LIMIT (notes_of_lines (executions_until j c (refused_after (done r))))))
    → kept ≤ length (offered (session c new.state)) → new.cost ≡
    cost_beyond kept (offered (session c new.state)) →
    IsEvent old (Feed c piece) (fed_as n r) new
feed_event {old} {v} {new} {w} {c} {i} {piece} {x} {y} {n} {kept} r begins sound here joins count
    left gives within cost =
    let j : ServerState = record v.state { sessions = set v.state.sessions i y } in
    let fed = with_input_is v.state c i piece x y here.at here.found joins in
    let before = left ∙ sym (ap (λ (o : Option SessionState). length (offered o)) here.found) in
    event_from old v new (Feed c piece) (fed_as n r) begins sound
    (feed_gives v.state j new.state c piece x n r here.found fed
    (ap Fed count ∙ sym (ap (λ (o : Option SessionState). fed_by o piece false) here.found)) gives.0)
    (cost ∙ feed_costs v.state new.state c kept piece before within)
    (fed_noted v.state j c piece (fed_as n r) new.notes fed
    (gives.1 ∙ ap (λ (m : Option ℕ). take NOTE_LIMIT (notes_of_lines (executions_until j c m))) (same_end n r)))
  where
    same_end : (n : ℕ) (r : Result (Unit {0}) Fault) → refused_after (done r) ≡ refused_after (fed_as n r)
    same_end n (Ok u) = refl
    same_end n (Err fault) = refl

-- or takes
may_take_true : (o : Option SessionState) (x : SessionState) (n k : ℕ) → o ≡ Some x → k ≡
    length (offered (Some x))
    → n ≤ k → may_take o n ≡ true
may_take_true o x n k e ek le = grind arith

pub take_event : {old v new : RunningServer} {w : TreeWaste} {c i n k : ℕ} {x y : SessionState}
    (r : Result (Unit {0}) Fault)
    → v ≡ forgetful old.state w → IsSound v.state → StandsAt v.state c i x → y ≡ taken_from n x
    → k ≡ length (offered (Some x)) → n ≤ k
    → (let j : ServerState = record v.state { sessions = set v.state.sessions i y } in PumpGives j c r new.state ×
    (new.notes ≡ take NOTE_LIMIT (notes_of_lines (executions_until j c (refused_after (done r))))))
    → k - n ≤ length (offered (session c new.state)) → new.cost ≡
    cost_beyond (k - n) (offered (session c new.state)) →
    IsEvent old (Took c n) (done r) new
take_event {old} {v} {new} {w} {c} {i} {n} {k} {x} {y} r begins sound here takes all few gives within cost =
    let took = without_output_is v.state c i n x y here.at here.found takes in
    let before = all ∙ sym (ap (λ (o : Option SessionState). length (offered o)) here.found) in
    let may = may_take_true (session c v.state) x n k here.found all few in
    event_from old v new (Took c n) (done r) begins sound
    (took_gives v.state _ new.state c n x r here.found may took gives.0)
    (cost ∙ take_costs v.state new.state c n (k - n) may (omega (arith, before, few)) (omega (arith, before)) within)
    (took_noted v.state _ c n (done r) new.notes may took gives.1)

pub took_much : (s : ServerState) (c n k : ℕ) (x : SessionState) → session c s ≡ Some x →
    k ≡ length (offered (Some x))
    → k < n → Refuses s (Took c n) TookTooMuch
unfolding outcome_of
took_much s c n k x found all much = record { is = grind arith; harmless = refl }

-- opening
pub open_full : (s : ServerState) (address : List ℕ) → may_open s ≡ false →
    Refuses s (Open address) TooManyClients
unfolding outcome_of
open_full s address never = record { is = rw never refl; harmless = refl }

pub open_refused : (s : ServerState) (address : List ℕ) → may_open s ≡ true →
    Step s (Open address) (Refused (Memory 0)) s
unfolding outcome_of after_by opened MayLackMemory
open_refused s address may = record { allowed = inr (0, refl, (refl, may)); leaves = refl }

pub open_done : (s : ServerState) (address : List ℕ) (xs : List SessionState) → may_open s ≡
    true → xs ≡ s.sessions ++ new_session s.next_id address ∷ [] →
    (let t : ServerState = record s { sessions = xs; next_id = s.next_id + 1 } in
    Step s (Open address) (Opened s.next_id) t)
unfolding outcome_of after_by opened
open_done s address xs may e = record { allowed = inl (rw may); leaves = rw (may, e) }

-- an id is handed in
pub id_handed : (s t : ServerState) (id : ℕ) (outcome : Outcome) → outcome ≡ id_outcome (id_fault id s.tracking)
    → t ≡ handed_in id s → Step s (Id id) outcome t
unfolding outcome_of after_by
id_handed s t id outcome told leaves = record { allowed = inl told; leaves = leaves }
