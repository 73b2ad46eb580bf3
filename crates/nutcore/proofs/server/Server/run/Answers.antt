use Rattle.std.proofs.Common.{◌≡◌, ◌+◌, ◌<◌, ◌∙◌, ◌++◌, ◌∷◌, [], sym}
use Rattle.std.proofs.Common.{ap, subst, length, take, arith, vec_len}
use Rattle.std.proofs.lemmas.List.{take_more, take_all}
use Rattle.nutcore.proofs.Common.{Event, ServerState}
use Rattle.nutcore.specs.Sound.{IdsRise}
use Rattle.nutcore.proofs.Runs.{run_push, cost_push, lawful, state_is}
use Rattle.nutcore.proofs.Stepping.{run_sent, run_taken_up}
use Rattle.nutcore.proofs.server.Server.run.Goals as goal

pub loop-event-preserved : goal.loop-event-preserved
loop-event-preserved c =
    let i = c.loop-event.event-index in
    let within : i < length c.args.events.now = omega arith in
    let events : take (i + 1) c.args.events.now ≡ take i c.args.events.now ++
    c.event-item.result ∷ [] = take_more c.args.events.now i c.event-item.result within ∙
    ap (λ (e : Event). take i c.args.events.now ++ e ∷ []) (sym c.event-item.is) in
    let outcomes : c.push.new.self.items ≡ c.loop-event.outcomes.items ++
    c.step-outcome.result ∷ [] = rw c.unwrap.ensures at c.push.ensures.items in
    record {
      run = rw (events, outcomes) (run_push c.args.self.now.state c.loop-event.self.state
          c.step-outcome.new.self.state (take i c.args.events.now) c.loop-event.outcomes.items
          c.event-item.result c.step-outcome.result c.loop-event.invariant.run c.step-outcome.ensures.step);
      cost = rw (events, outcomes) (c.step-outcome.ensures.cost
          ∙ cost_push c.args.self.now.cost c.args.self.now.state c.loop-event.self.state
          c.step-outcome.new.self.state (take i c.args.events.now) c.loop-event.outcomes.items
          c.event-item.result c.step-outcome.result c.loop-event.invariant.run c.step-outcome.ensures.step);
      answered = let added : vec_len c.push.new.self ≡ vec_len c.loop-event.outcomes + 1 =
          rw c.unwrap.ensures at c.push.ensures.len in omega (arith, c.loop-event.invariant.answered, added);
      room = omega (arith, c.loop-event.invariant.room, c.push.ensures.upper_bound, c.push.ensures.capacity);
    }

pub returns-clause-sent_and_owed : goal.returns-clause-sent_and_owed
returns-clause-sent_and_owed c =
    let all : take c.loop-event.event-index c.args.events.now ≡ c.args.events.now = take_all _ _ (omega arith) in
    run_sent c.args.self.now.state c.loop-event.self.state c.args.events.now c.loop-event.outcomes.items
    (lawful c.args.self.now.state (subst (λ (z : ServerState). IdsRise 1 z.next_id z.sessions)
    (state_is c.self.view_is) c.self.invariant.sound.ids))
    (rw all at c.loop-event.invariant.run)

pub returns-clause-taken_up : goal.returns-clause-taken_up
returns-clause-taken_up c =
    let all : take c.loop-event.event-index c.args.events.now ≡ c.args.events.now = take_all _ _ (omega arith) in
    run_taken_up c.args.self.now.state c.loop-event.self.state c.args.events.now c.loop-event.outcomes.items
    (lawful c.args.self.now.state (subst (λ (z : ServerState). IdsRise 1 z.next_id z.sessions)
    (state_is c.self.view_is) c.self.invariant.sound.ids))
    (rw all at c.loop-event.invariant.run)
