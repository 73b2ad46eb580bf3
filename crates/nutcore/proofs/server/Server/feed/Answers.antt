use Rattle.std.proofs.Common.{ℕ, Result, Ok, Err, ◌≡◌, ◌≤◌, ◌∙◌, ap, sym, subst, length, refl}
use Rattle.std.proofs.lemmas.Result.{err_from_is_err_and}
use Rattle.nutlisting.specs.Counted.{IsCounted}
use Rattle.nutlisting.proofs.PublicLaws.{what_is_placed_is_counted}
use Rattle.nutcore.proofs.Common.{Fault, SessionState}
use Rattle.nutcore.specs.Calls.{IsEvent, fed as outcome_of_feed}
use Rattle.nutcore.specs.Cost.{RunningServer}
use Rattle.nutcore.specs.Pump.{held_of, owed_of}
use Rattle.nutcore.specs.contracts.server.Server.{the_view}
use Rattle.nutcore.specs.declared.TheConstants.{HELD_LIMIT}
use Rattle.nutcore.specs.declared.event.Event.TheVariants.{Feed}
use Rattle.nutcore.proofs.Costs.{of_set}
use Rattle.nutcore.proofs.EventSteps.{feed_event}
use Rattle.nutcore.proofs.Found.{find_id}
use Rattle.nutcore.proofs.KeptSound.{session_kept, joined_kept}
use Rattle.nutcore.proofs.OneEvent.{handed_on, no_client, none_noted}
use Rattle.nutcore.proofs.Runs.{state_is}
use Rattle.nutcore.proofs.Serving.{stands, at_set}
use Rattle.nutcore.proofs.server.Server.feed.Goals as goal

pub returns-in_err-place : goal.returns-in_err-place
returns-in_err-place c =
    handed_on (Feed c.args.c c.args.piece.now) outcome_of_feed _ (λ f. refl) c.from_residual.ensures.1
    c.forget.ensures.begun c.forget.ensures.sound (no_client _ c.args.c _ _ c.in_err-place.ensures.place refl)

pub invariant_of-self : goal.invariant_of-self
invariant_of-self c =
    let here = stands (state_is c.self.view_is) c.in_ok-place.ensures.place c.index_mut-session.ensures.value in
    record {
      sound = session_kept _ _ _ _ _ here.at here.found c.join-count.ensures.id
          (joined_kept _ _ _ c.join-count.ensures.joins) c.self.invariant.sound;
      room = c.self.invariant.room;
    }

pub serve-requires : goal.serve-requires
serve-requires c =
    let begins = c.self.view_is ∙ c.forget.ensures.begun in
    let here = stands (state_is c.self.view_is) c.in_ok-place.ensures.place c.index_mut-session.ensures.value in
    let none : c.self.inside.scratch.renders ≡ 0 = ap (λ (r : RunningServer). r.cost.rendered) begins in
    let before : IsCounted c.offered-kept.result c.index_mut-session.result.now.owed c.self.inside.scratch.renders =
    subst (λ k. IsCounted k c.index_mut-session.result.now.owed c.self.inside.scratch.renders)
    (sym c.offered-kept.ensures) (what_is_placed_is_counted.none _ _ none) in
    record {
      unnoted = none_noted begins;
      at = at_set _ _ _ _ here.at (c.join-count.ensures.id ∙ find_id _ _ _ here.found);
      short = of_set (λ o. length (held_of o) ≤ HELD_LIMIT) (the_view c.self.inside).state _ _ _
          _ here.at here.found c.join-count.ensures.id c.join-count.ensures.short;
      counted = of_set (λ o. IsCounted c.offered-kept.result (owed_of o)
          c.self.inside.scratch.renders) (the_view c.self.inside).state _ _ _ _ here.at here.found
          c.join-count.ensures.id
          (subst (λ (y : SessionState). IsCounted c.offered-kept.result y.owed
          c.self.inside.scratch.renders) (sym c.join-count.ensures.joins) before);
    }

pub returns : goal.returns
returns c =
    let here = stands (state_is c.self.view_is) c.in_ok-place.ensures.place c.index_mut-session.ensures.value in
    feed_event (Ok tt) (c.self.view_is ∙ c.forget.ensures.begun) c.self.invariant.sound here
    c.join-count.ensures.joins
    c.join-count.ensures.count c.offered-kept.ensures
    (c.in_ok-serve.ensures.gives, c.in_ok-serve.ensures.notes) c.in_ok-serve.ensures.within c.in_ok-serve.ensures.cost

pub returns-in_err-serve : goal.returns-in_err-serve
returns-in_err-serve c =
    let here = stands (state_is c.self.view_is) c.in_ok-place.ensures.place c.index_mut-session.ensures.value in
    let p = err_from_is_err_and c.from_residual-in_err-serve.result c.from_residual-in_err-serve.ensures.1 in
    subst (λ (r : Result ℕ Fault). IsEvent c.args.self.now (Feed c.args.c c.args.piece.now) (outcome_of_feed r)
    c.serve.new.self) (sym (p.1 ∙ ap Err p.2))
    (feed_event (Err c.in_err-serve.field-0.0) (c.self.view_is ∙ c.forget.ensures.begun) c.self.invariant.sound here
    c.join-count.ensures.joins c.join-count.ensures.count c.offered-kept.ensures
    (c.in_err-serve.ensures.gives, c.in_err-serve.ensures.notes) c.in_err-serve.ensures.within
    c.in_err-serve.ensures.cost)
