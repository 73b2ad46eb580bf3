use Rattle.std.proofs.Common.{◌≡◌, List, [], ◌∷◌, refl, sym, ◌∙◌, inl, inr}
use Rattle.nutcore.specs.declared.event.Event.{Event}
use Rattle.nutcore.specs.Run.{EveryListOfEventsHasARun}
use Rattle.nutcore.specs.Server.{ServerState}
use Rattle.nutcore.specs.Step.{after, outcome_of}
use Rattle.nutcore.proofs.laws.each_event_is_a_function.Goals as goal

-- the two sides of what may be answered
pub returns-clause-one : goal.returns-clause-one
returns-clause-one c = λ s event. record {
  one_next = λ outcome new other step step'. step.leaves ∙ sym step'.leaves;
  one_outcome = λ outcome new step. elim step.allowed [ inl h ↦ inl h | inr h ↦ inr (h.0, h.1) ];
}

-- each event has the outcome where memory is there
has_run : EveryListOfEventsHasARun
has_run s [] = ([], (s, refl))
has_run s (e ∷ es) =
    let o = outcome_of s e in
    let rest = has_run (after s e o) es in
    (o ∷ rest.0, (rest.1.0, (after s e o, record { allowed = inl refl; leaves = refl }, rest.1.1)))

pub returns-clause-run : goal.returns-clause-run
returns-clause-run c = has_run
