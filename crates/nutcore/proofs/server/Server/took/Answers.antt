use Rattle.std.proofs.Common.{◌≡◌, ◌≤◌, ◌-◌, ◌∙◌, Some, ℕ, ap, sym, subst, length, refl, arith}
use Rattle.nutlisting.specs.Counted.{IsCounted}
use Rattle.nutcore.proofs.Common.{SessionState}
use Rattle.nutcore.specs.Cost.{RunningServer}
use Rattle.nutcore.specs.Pump.{held_of, owed_of}
use Rattle.nutcore.specs.Step.{offered}
use Rattle.nutcore.specs.contracts.server.Server.{the_view}
use Rattle.nutcore.specs.declared.TheConstants.{HELD_LIMIT}
use Rattle.nutcore.specs.declared.event.Event.TheVariants.{Took}
use Rattle.nutcore.specs.declared.event.Fault.TheVariants.{TookTooMuch}
use Rattle.nutcore.proofs.Costs.{of_set}
use Rattle.nutcore.proofs.EventSteps.{take_event, took_much}
use Rattle.nutcore.proofs.Found.{find_id}
use Rattle.nutcore.proofs.KeptSound.{session_kept, taken_kept}
use Rattle.nutcore.proofs.OneEvent.{done, refused_event, handed_on, no_client, none_noted}
use Rattle.nutcore.proofs.Runs.{state_is}
use Rattle.nutcore.proofs.Serving.{stands, found_in, same_found, at_set}
use Rattle.nutcore.proofs.server.Server.took.Goals as goal

pub returns-in_err-place : goal.returns-in_err-place
returns-in_err-place c =
    handed_on (Took c.args.c c.args.n) done _ (λ f. refl) c.from_residual.ensures.1 c.forget.ensures.begun
    c.forget.ensures.sound (no_client _ c.args.c _ _ c.in_err-place.ensures.place refl)

pub returns-then-n-offered : goal.returns-then-n-offered
returns-then-n-offered c =
    refused_event (Took c.args.c c.args.n) TookTooMuch c.forget.ensures.begun c.forget.ensures.sound
    (took_much _ _ _ _ _ (found_in (state_is c.self.view_is) c.in_ok-place.ensures.place c.index.ensures)
    c.offered-offered.ensures c.if-n-offered.true)

pub take-requires : goal.take-requires
take-requires c =
    let same = same_found (state_is c.self.view_is) c.in_ok-place.ensures.place c.index.ensures
    c.index_mut-session.ensures.value in
    record {
      few = omega (
        arith,
        c.if-n-offered.false,
        c.offered-offered.ensures ∙ ap
            (λ (x : SessionState). length (offered (Some x))) same,
      );
      none = ap (λ (r : RunningServer). r.cost.rendered) (c.self.view_is ∙ c.forget.ensures.begun);
    }

pub invariant_of-self : goal.invariant_of-self
invariant_of-self c =
    let here = stands (state_is c.self.view_is) c.in_ok-place.ensures.place c.index_mut-session.ensures.value in
    record {
      sound = session_kept _ _ _ _ _ here.at here.found c.take.ensures.id
          (taken_kept _ _ _ c.take.ensures.takes) c.self.invariant.sound;
      room = c.self.invariant.room;
    }

pub serve-requires : goal.serve-requires
serve-requires c =
    let here = stands (state_is c.self.view_is) c.in_ok-place.ensures.place c.index_mut-session.ensures.value in
    let same = same_found (state_is c.self.view_is) c.in_ok-place.ensures.place c.index.ensures
    c.index_mut-session.ensures.value in
    let all : c.offered-offered.result ≡ length (offered (Some c.index_mut-session.result.now)) =
    c.offered-offered.ensures ∙ ap (λ (x : SessionState). length (offered (Some x))) same in
    record {
      unnoted = none_noted (c.self.view_is ∙ c.forget.ensures.begun);
      at = at_set _ _ _ _ here.at (c.take.ensures.id ∙ find_id _ _ _ here.found);
      short = of_set (λ o. length (held_of o) ≤ HELD_LIMIT) (the_view c.self.inside).state _ _ _
          _ here.at here.found c.take.ensures.id c.take.ensures.short;
      counted = of_set (λ o. IsCounted (c.offered-offered.result - c.args.n) (owed_of o)
          c.take.new.scratch.renders) (the_view c.self.inside).state _ _ _ _ here.at here.found c.take.ensures.id
          (subst (λ (k : ℕ). IsCounted (k - c.args.n) c.take.new.self.owed
          c.take.new.scratch.renders) (sym all) c.take.ensures.counted);
    }

pub returns : goal.returns
returns c =
    let here = stands (state_is c.self.view_is) c.in_ok-place.ensures.place c.index_mut-session.ensures.value in
    let same = same_found (state_is c.self.view_is) c.in_ok-place.ensures.place c.index.ensures
    c.index_mut-session.ensures.value in
    take_event c.serve.result (c.self.view_is ∙ c.forget.ensures.begun) c.self.invariant.sound
    here c.take.ensures.takes
    (c.offered-offered.ensures ∙ ap (λ (x : SessionState). length (offered (Some x))) same) c.if-n-offered.false
    (c.serve.ensures.gives, c.serve.ensures.notes) c.serve.ensures.within c.serve.ensures.cost
