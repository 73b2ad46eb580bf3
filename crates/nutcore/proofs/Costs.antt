-- What events cost.
use Rattle.std.proofs.Common.{◌≡◌, ◌∙◌, ℕ, ◌-◌, ◌≤◌, true, false, List}
use Rattle.std.proofs.Common.{Option, Some, inl, inr, refl, sym, ap, subst, arith, length, drop}
use Rattle.std.proofs.Common.{set, eqb, length-take}
use Rattle.std.proofs.lemmas.List.{drop_all}
use Rattle.std.proofs.lemmas.Bool.{cond-true, eq-eqb}
use Rattle.nutlisting.specs.Counted.{IsCounted, KeepsCount}
use Rattle.nutlisting.specs.Counts.{lines}
use Rattle.nutlisting.specs.Lines.{IsWholeLine}
use Rattle.nutlisting.specs.declared.outbox.TheConstants.{QUEUE_LIMIT}
use Rattle.nutcore.specs.declared.cost.Cost.{Cost}
use Rattle.nutcore.proofs.Common.{Event, SessionState, ServerState, session}
use Rattle.nutcore.specs.declared.event.Event.TheVariants.{Feed, Took}
use Rattle.nutcore.specs.Pump.{owed_of}
use Rattle.nutcore.specs.Step.{offered, may_take}
use Rattle.nutcore.specs.History.{owed, taken_in_event}
use Rattle.nutcore.specs.Cost.{no_cost, cost_between, client_cost}
use Rattle.nutcore.specs.Promises.{IsAt, IsLineOrNone, cost_beyond}
use Rattle.nutcore.proofs.Found.{find_id}
use Rattle.nutcore.proofs.Serving.{session_set}

-- an answer that is a line or nothing, and not empty, is a line
pub whole_of : (text : List ℕ) → IsLineOrNone text → eqb (length text) 0 ≡ false → IsWholeLine text
whole_of text h some = elim h [ inl whole ↦ whole | inr none ↦ absurd (cc (none, some)) ]

-- what holds of a session that is put in its place holds of the client's
pub of_set : (P : Option SessionState → Type 0) (v : ServerState) (c i : ℕ) (x y : SessionState)
    → IsAt c i v.sessions → session c v ≡ Some x → y.id ≡ x.id → P (Some y) →
    let code : ServerState = record v { sessions = set v.sessions i y } in P (session c code)
of_set P v c i x y at found id p =
    subst P (sym (session_set v c i x y at found (id ∙ find_id c v.sessions x found))) p

pub cost_kept : (v : ServerState) (c i : ℕ) (x y : SessionState) (made made' : ℕ) →
    IsAt c i v.sessions → session c v ≡ Some x → y.id ≡ x.id → KeepsCount x.owed made y.owed made' →
    let code : ServerState = record v { sessions = set v.sessions i y } in
    KeepsCount (owed c v) made (owed c code) made'
cost_kept v c i x y made made' at found id keeps kept counted =
    of_set (λ o. IsCounted kept (owed_of o) made') v c i x y at found id
    (keeps kept (subst (λ (o : Option SessionState). IsCounted kept (owed_of o) made) found counted))

-- the cost of what is placed after so many bytes
pub placed_behind : (after : List ℕ) (kept made n : ℕ) → made ≡ lines (drop kept after) →
    n ≡ length after → (let cost : Cost = record { rendered = made; placed = n - kept } in
    cost ≡ cost_beyond kept after)
placed_behind after kept made n counted all = grind arith

-- what was placed after those that were there before is the cost
cost_is : (before after : List ℕ) (n kept : ℕ) → n ≤ length before → kept ≡
    length before - n → kept ≤ length after → cost_beyond kept after ≡ cost_between before n after
cost_is before after n kept le e within = grind arith

-- where nothing is taken, and nothing changes
same_costs : (bytes : List ℕ) → no_cost ≡ cost_between bytes 0 bytes
same_costs bytes = grind (arith, drop_all)

-- how many bytes were taken
fed_none : (s : ServerState) (c : ℕ) (piece : List ℕ) → length (taken_in_event c s (Feed c piece)) ≡ 0
unfolding taken_in_event
fed_none s c piece = refl

pub took_none : (s : ServerState) (c n : ℕ) → may_take (session c s) n ≡ false →
    length (taken_in_event c s (Took c n)) ≡ 0
unfolding taken_in_event
took_none s c n may = grind arith

pub took_some : (s : ServerState) (c n : ℕ) → may_take (session c s) n ≡ true → n ≤
    length (offered (session c s)) → length (taken_in_event c s (Took c n)) ≡ n
unfolding taken_in_event
took_some s c n may le =
    ap length (cond-true _ _ _ may ∙ cond-true _ _ _ (eq-eqb c c refl)) ∙
    omega (arith, le, length-take n (owed_of (session c s)), length-take QUEUE_LIMIT (owed_of (session c s)))

-- an event by which nothing is placed
nothing_costs : (s : ServerState) (c : ℕ) (e : Event) → length (taken_in_event c s e) ≡ 0
    → no_cost ≡ client_cost c s e s
nothing_costs s c e none = cc (same_costs (offered (session c s)), none)

pub fed_nothing_costs : (s : ServerState) (c : ℕ) (piece : List ℕ) → no_cost ≡ client_cost c s (Feed c piece) s
fed_nothing_costs s c piece = nothing_costs s c (Feed c piece) (fed_none s c piece)

pub took_nothing_costs : (s : ServerState) (c n : ℕ) → may_take (session c s) n ≡ false
    → no_cost ≡ client_cost c s (Took c n) s
took_nothing_costs s c n may = nothing_costs s c (Took c n) (took_none s c n may)

-- one by which something is
pub feed_costs : (s t : ServerState) (c kept : ℕ) (piece : List ℕ) → kept ≡ length (offered (session c s))
    → kept ≤ length (offered (session c t))
    → cost_beyond kept (offered (session c t)) ≡ client_cost c s (Feed c piece) t
feed_costs s t c kept piece left within = cc (
  cost_is (offered (session c s)) (offered (session c t)) 0 kept (omega arith) (left ∙ omega arith) within,
  fed_none
      s c piece,
)

pub take_costs : (s t : ServerState) (c n kept : ℕ) → may_take (session c s) n ≡ true
    → n ≤ length (offered (session c s)) → kept ≡ length (offered (session c s)) - n
    → kept ≤ length (offered (session c t)) → cost_beyond kept (offered (session c t)) ≡
    client_cost c s (Took c n) t
take_costs s t c n kept may le left within = cc
    (cost_is (offered (session c s)) (offered (session c t)) n kept le left within, took_some s c n may le)
