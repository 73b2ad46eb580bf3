-- So many turns make the server do no more than so much.
use Rattle.std.proofs.Common.{◌≤◌, ◌*◌, ℕ, zero, suc, List, [], ◌∷◌, ◌++◌, length, subst, ap}
use Rattle.std.proofs.Common.{arith, length-append}
use Rattle.std.specs.List.{sum_by}
use Rattle.std.proofs.lemmas.List.Sums.{sum_by-cons}
use Rattle.std.specs.Prelude.{Option}
use Rattle.nutlisting.specs.declared.outbox.TheConstants.{QUEUE_LIMIT}
use Rattle.nutcore.specs.declared.TheConstants.{HELD_LIMIT}
use Rattle.nutcore.specs.declared.event.Event.{Event}
use Rattle.nutcore.specs.declared.event.Outcome.{Outcome}
use Rattle.nutcore.specs.Bounded.{EachEventIsBounded, IsBounded}
use Rattle.nutcore.specs.Cost.{RunningServer, cost_of, forgetful}
use Rattle.nutcore.specs.History.{executions, executions_in_event}
use Rattle.nutcore.specs.Recording.{Recorded}
use Rattle.nutcore.specs.Run.{Run}
use Rattle.nutcore.specs.Server.{ServerState}
use Rattle.nutcore.specs.Sound.{EachEventKeepsTheServerSound, IsSound}
use Rattle.nutcore.specs.Step.{after}
use Rattle.nutloop.specs.declared.turns.Loop.{Loop}
use Rattle.nutloop.specs.Fairness.{EverybodyHasATurn, Turn, WithoutALook}
use Rattle.nutloop.specs.Serving.{Turns}
use Rattle.nutloop.specs.Sockets.{Told}
use Rattle.nutloop.specs.Turn.{AreNoted, row_events}
use Rattle.nutloop.specs.Work.{IsWork, TheWorkOfTurnsIsBounded, costs}
use Rattle.nutloop.proofs.Turning.{run_joins}

record Within (s : ServerState) (es : List Event) (os : List Outcome) : Type 0 where
  lines : length (executions s es os) ≤ length es * HELD_LIMIT
  placed : sum_by (λ cost. cost.placed) (costs s es os) ≤ length es * QUEUE_LIMIT
  renders : sum_by (λ cost. cost.rendered) (costs s es os) ≤ sum_by (λ cost. cost.placed) (costs s es os)

each_within : EachEventIsBounded → EachEventKeepsTheServerSound → (s t : ServerState) (es : List Event)
    (os : List Outcome) → Run s es os t → IsSound s → Within s es os
each_within bounded keeps s t [] [] r sound =
    record { lines = omega arith; placed = omega arith; renders = omega arith }
each_within bounded keeps s t [] (o ∷ os) r sound = absurd r
each_within bounded keeps s t (e ∷ es) [] r sound = absurd r
each_within bounded keeps s t (e ∷ es) (o ∷ os) (mid, step, rest) sound =
    let next : ServerState = after s e o in
    let one : IsBounded s e o next = subst (IsBounded s e o) step.leaves (bounded s mid e o step sound) in
    let later = each_within bounded keeps next t es os (subst (λ z. Run z es os t) step.leaves rest)
    (subst IsSound step.leaves (keeps s mid e o step sound)) in
    record {
      lines = omega (arith, length-append (executions_in_event s e o) (executions next es os), one.in_all, later.lines);
      placed = omega (
        arith,
        sum_by-cons (λ cost. cost.placed) (cost_of s e next)
            (costs next es os),
        one.bytes,
        later.placed,
      );
      renders = omega (
        arith,
        sum_by-cons (λ cost. cost.placed) (cost_of s e next) (costs next es os),
        sum_by-cons (λ cost. cost.rendered) (cost_of s e next) (costs next es os),
        one.renders,
        later.renders,
      );
    }

record Few (most : ℕ) (old new : ServerState) : Type 0 where
  events : List Event
  outcomes : List Outcome
  run : Run old events outcomes new
  few : length events ≤ most

work : EachEventIsBounded → EachEventKeepsTheServerSound → (most : ℕ) (old new : ServerState) →
    Few most old new → IsSound old → IsWork most old new
work bounded keeps most old new f sound =
    let is = each_within bounded keeps old new f.events f.outcomes f.run sound in
    record {
      events = f.events;
      outcomes = f.outcomes;
      run = f.run;
      few = f.few;
      lines = omega (arith, is.lines, f.few);
      placed = omega (arith, is.placed, f.few);
      renders = is.renders;
    }

one_at_most : (old new : RunningServer) (es : List Event) (os : List Outcome) →
    AreNoted old es os new → length es ≤ 1
one_at_most old new [] os h = omega arith
one_at_most old new (e ∷ []) os h = omega arith
one_at_most old new (e ∷ f ∷ es) [] h = absurd h
one_at_most old new (e ∷ f ∷ es) (o ∷ os) h = absurd h

module _ {S R : Type 0} (told : S → Told) (holds : R → Recorded) where
  of_turns : (n : ℕ) (old new : Loop S R) → Turns told holds old n new → Few n old.server.state new.server.state
  of_turns zero old new same = record {
    events = [];
    outcomes = [];
    run = ap (λ (r : Loop S R). r.server.state) same;
    few = omega arith;
  }
  of_turns (suc n) old new (mid, (soon, turn, rest)) =
      let es : List Event = row_events old.server.state turn.ready turn.row.answer in
      let later = of_turns n mid new rest in
      record {
        events = es ++ later.events;
        outcomes = turn.row.does.outcomes ++ later.outcomes;
        run = run_joins old.server.state mid.server.state new.server.state es later.events
            turn.row.does.outcomes later.outcomes turn.row.does.run later.run;
        few = omega (
          arith,
          length-append es later.events,
          one_at_most (forgetful old.server.state turn.server.waste) mid.server es
              turn.row.does.outcomes turn.row.does.noted,
          later.few,
        );
      }

  turns_of : (ts : List (Option Turn)) (old new : Loop S R) → WithoutALook told holds old ts new →
      Turns told holds old (length ts) new
  turns_of [] old new same = same
  turns_of (t ∷ ts) old new (mid, one, rest) = (mid, (one.soon, one.turn, turns_of ts mid new rest))

  pub the_work_of_turns_is_bounded : EachEventIsBounded → EachEventKeepsTheServerSound →
      EverybodyHasATurn told holds → TheWorkOfTurnsIsBounded told holds
  the_work_of_turns_is_bounded bounded keeps everybody = record {
    turns = λ most old new sound t.
        work bounded keeps most old.server.state new.server.state (of_turns most old new t) sound;
    stretch = λ old new turns looks sound.
        let f = of_turns (suc (length looks.later)) old new
        (looks.mid, (looks.begins.soon, looks.begins.turn, turns_of looks.later looks.mid new looks.goes_on)) in
        work bounded keeps _ old.server.state new.server.state (record {
          events = f.events;
          outcomes = f.outcomes;
          run = f.run;
          few = omega (
            arith,
            f.few,
            everybody.divided.few old new turns looks,
            everybody.divided.ids old new turns looks,
          );
        }) sound;
  }
