-- Runs, one event after another.
use Rattle.std.proofs.Common.{◌≡◌, List, [], ◌∷◌, ◌++◌, ◌∙◌, refl, ap, subst, inl, inr}
use Rattle.nutcore.proofs.Common.{Event, Outcome, ServerState, session, Step, after, Run}
use Rattle.nutcore.specs.Sound.{IdsRise}
use Rattle.nutcore.specs.Headline.{IsLawful}
use Rattle.nutcore.specs.declared.cost.Cost.{Cost}
use Rattle.nutcore.specs.Cost.{RunningServer, cost_of, last_cost}
use Rattle.nutcore.proofs.Found.{cases_Option}
use Rattle.nutcore.proofs.Places.{rise_lawful}

-- a run goes on by one event
pub run_push : (s m t : ServerState) (es : List Event) (os : List Outcome) (e : Event) (o : Outcome)
    → Run s es os m → Step m e o t → Run s (es ++ e ∷ []) (os ++ o ∷ []) t
run_push s m t [] [] e o r step = (t, subst (λ (z : ServerState). Step z e o t) r step, refl)
run_push s m t (d ∷ es) (p ∷ os) e o (mid, first, r) step = (mid, first, run_push mid m t es os e o r step)
run_push s m t es os e o r step = absurd r

-- and costs what that one costs
pub cost_push : (before : Cost) (s m t : ServerState) (es : List Event) (os : List Outcome)
    (e : Event) (o : Outcome) → Run s es os m → Step m e o t → cost_of m e t ≡
    last_cost before s (es ++ e ∷ []) (os ++ o ∷ [])
cost_push before s m t [] [] e o r step = ap (cost_of m e) step.leaves ∙
    ap (λ (z : ServerState). cost_of z e (after z e o)) r
cost_push before s m t (d ∷ es) (p ∷ os) e o (mid, first, r) step =
    cost_push (cost_of s d (after s d p)) mid m t es os e o r step ∙
    ap (λ (z : ServerState). last_cost (cost_of s d (after s d p)) z (es ++ e ∷ []) (os ++ o ∷ [])) first.leaves
cost_push before s m t es os e o r step = absurd r

-- where ids rise, they are below the next one
pub lawful : (s : ServerState) → IdsRise 1 s.next_id s.sessions → IsLawful s
lawful s ids c some = elim (cases_Option (session c s))
    [ inl none ↦ cc (rw none at some) | inr (x, found) ↦ (rise_lawful 1 s.next_id c s.sessions ids x found).1 ]

-- the state of a server
pub state_is : {s t : RunningServer} → s ≡ t → s.state ≡ t.state
state_is e = ap (λ (r : RunningServer). r.state) e
