use Rattle.std.specs.Option.{option_map_or, option_and_then}
use Rattle.std.proofs.Common.{◌≡◌, ◌≤◌, ◌∙◌, Option, Some, None, true, false}
use Rattle.std.proofs.Common.{refl, sym, ap, subst, set, length, arith}
use Rattle.nutcore.proofs.Common.{SessionState, ServerState, session, with_session_changed}
use Rattle.nutlisting.specs.Counted.{KeepsCount}
use Rattle.nutcore.specs.Promises.{IsAt}
use Rattle.nutcore.specs.Pump.{next_line, next_line_for, after_line, held_of, holds_overlong, is_overlong, notified}
use Rattle.nutcore.specs.History.{owed, lines_executed, executions_until}
use Rattle.nutcore.specs.Cost.{RunningServer}
use Rattle.nutcore.specs.contracts.server.Server.{the_view}
use Rattle.nutcore.proofs.Runs.{state_is}
use Rattle.nutcore.proofs.Loops.{line_shortens}
use Rattle.nutcore.proofs.Costs.{cost_kept}
use Rattle.nutcore.proofs.Found.{find_id}
use Rattle.nutcore.proofs.KeptSound.{session_kept, notified_kept}
use Rattle.nutcore.proofs.Serving.{begins, goes_on, ok_when, err_when, line_there, ends_at}
use Rattle.nutcore.proofs.Serving.{StandsAt, stands, found_in, change_set, at_set, at_line}
use Rattle.nutcore.proofs.Serving.{pump_ends, pump_notifies, refused}
use Rattle.nutcore.proofs.Notes.{noted_next, noted_end, noted_notice}
use Rattle.nutcore.proofs.server.Server.pump.Goals as goal

pub loop-end-init : goal.loop-end-init
unfolding lines_executed
loop-end-init c = record {
  at = c.requires.at;
  keeps = λ kept counted. counted;
  done = begins c.args.self.now.state c.args.c;
  noted = c.requires.unnoted;
  rest = omega arith;
}

pub execute-requires-clause-next : goal.execute-requires-clause-next
execute-requires-clause-next c =
    ends_at c.args.c c.args.place (the_view c.self.inside).state c.loop-end.self.state
    c.index.result.now (Some c.in-Line.end) (state_is c.self.view_is) c.loop-end.invariant.at
    c.index.ensures (sym c.in-Line.ensures)

pub loop-end-smaller : goal.loop-end-smaller
loop-end-smaller c =
    let t : ServerState = c.loop-end.self.state in
    let ends = ends_at c.args.c c.args.place (the_view c.self.inside).state t c.index.result.now
    (Some c.in-Line.end) (state_is c.self.view_is) c.loop-end.invariant.at c.index.ensures (sym c.in-Line.ensures) in
    let there = line_there (next_line_for t c.args.c) c.in-Line.end ends in
    rw (ok_when c.execute.result _ (sym c.is_err.ensures.value ∙ c.if-is_err.false)
    c.execute.ensures.ok) (line_shortens t c.args.c there.0 there.1)

pub loop-end-preserved : goal.loop-end-preserved
loop-end-preserved c =
    let t : ServerState = c.loop-end.self.state in
    let ends = ends_at c.args.c c.args.place (the_view c.self.inside).state t c.index.result.now
    (Some c.in-Line.end) (state_is c.self.view_is) c.loop-end.invariant.at c.index.ensures (sym c.in-Line.ensures) in
    let there = line_there (next_line_for t c.args.c) c.in-Line.end ends in
    let e : c.execute.new.self.state ≡ after_line t c.args.c =
    ok_when c.execute.result _ (sym c.is_err.ensures.value ∙ c.if-is_err.false) c.execute.ensures.ok in
    let less = line_shortens t c.args.c there.0 there.1 in
    record {
      at = subst (λ (z : ServerState). IsAt c.args.c c.args.place z.sessions) (sym e)
          (at_line t c.args.c c.args.place there.0 c.loop-end.invariant.at there.1);
      keeps = λ kept counted. c.execute.ensures.keeps kept (c.loop-end.invariant.keeps kept counted);
      done = goes_on c.args.self.now.state t c.execute.new.self.state c.args.c c.loop-end.done
          c.loop-end.invariant.done e;
      noted = noted_next c.args.self.now.state t c.args.c c.loop-end.done c.loop-end.self.notes
          c.execute.new.self.notes c.loop-end.invariant.done c.loop-end.invariant.noted
          (ok_when c.execute.result _ (sym c.is_err.ensures.value ∙ c.if-is_err.false) c.execute.ensures.noted);
      rest = omega (arith, rw (← e) at less, c.loop-end.invariant.rest);
    }

pub invariant_of-self : goal.invariant_of-self
invariant_of-self c =
    let v : ServerState = (the_view c.self.inside).state in
    let x : SessionState = c.index_mut-session.result.now in
    let here : StandsAt v c.args.c c.args.place x = stands (state_is c.self.view_is) c.loop-end.invariant.at
    c.index_mut-session.ensures.value in
    record {
      sound = session_kept v c.args.c c.args.place x c.refuse_overlong.new.self here.at here.found
          c.refuse_overlong.ensures.id (notified_kept x c.refuse_overlong.new.self
          c.refuse_overlong.ensures.notified) c.self.invariant.sound;
      room = c.self.invariant.room;
    }

pub returns-then-is_err : goal.returns-then-is_err
unfolding executions_until
returns-then-is_err c =
    let failed = sym c.is_err.ensures.value ∙ c.if-is_err.true in
    let same = err_when c.execute.result _ failed c.execute.ensures.err in
    record {
      gives = refused c.args.self.now.state c.loop-end.self.state c.execute.new.self.state c.args.c
          c.loop-end.done c.loop-end.invariant.done (err_when c.execute.result _ failed c.execute.ensures.memory) same;
      notes = err_when c.execute.result _ failed c.execute.ensures.unnoted ∙ c.loop-end.invariant.noted;
      keeps = λ kept counted. c.execute.ensures.keeps kept (c.loop-end.invariant.keeps kept counted);
      at = subst (λ (z : ServerState). IsAt c.args.c c.args.place z.sessions) (sym same) c.loop-end.invariant.at;
    }

pub returns-in-Overlong : goal.returns-in-Overlong
returns-in-Overlong c =
    let t : ServerState = c.loop-end.self.state in
    let v : ServerState = (the_view c.self.inside).state in
    let x : SessionState = c.index_mut-session.result.now in
    let y : SessionState = c.refuse_overlong.new.self in
    let le : c.loop-end.done ≤ length (held_of (session c.args.c c.args.self.now.state)) =
    omega (arith, c.loop-end.invariant.rest) in
    let had = found_in (state_is c.self.view_is) c.loop-end.invariant.at c.index.ensures in
    let none : next_line_for t c.args.c ≡ None = ap (option_and_then next_line) had ∙ c.in-Overlong.ensures.0 in
    let long : is_overlong t c.args.c ≡ true =
    ap (λ (o : Option SessionState). option_map_or holds_overlong o false) had ∙ c.in-Overlong.ensures.1 in
    let here : StandsAt v c.args.c c.args.place x = stands (state_is c.self.view_is) c.loop-end.invariant.at
    c.index_mut-session.ensures.value in
    let found : session c.args.c t ≡ Some x = ap (session c.args.c) (sym (state_is c.self.view_is)) ∙ here.found in
    let notified_is = change_set notified v c.args.c c.args.place x y here.at here.found refl
    c.refuse_overlong.ensures.notified ∙ ap (with_session_changed notified c.args.c) (state_is c.self.view_is) in
    let u : ServerState = record v { sessions = set v.sessions c.args.place y } in
    let keeps = subst (λ (z : RunningServer). KeepsCount (owed c.args.c z.state) z.cost.rendered
    (owed c.args.c u) c.refuse_overlong.new.renders) c.self.view_is
    (cost_kept v c.args.c c.args.place x y _ _ here.at here.found c.refuse_overlong.ensures.id
    c.refuse_overlong.ensures.keeps) in
    record {
      gives = pump_notifies c.args.self.now.state t _ c.args.c c.loop-end.done
          c.loop-end.invariant.done le none long notified_is;
      notes = noted_notice c.args.self.now.state t c.args.c c.loop-end.done x
          (the_view c.self.inside).notes c.refuse_overlong.new.notes c.loop-end.invariant.done le none long found
          (ap (λ (r : RunningServer). r.notes) c.self.view_is ∙ c.loop-end.invariant.noted)
          c.refuse_overlong.ensures.noted;
      keeps = λ kept counted. keeps kept (c.loop-end.invariant.keeps kept counted);
      at = at_set c.args.c c.args.place v.sessions y here.at
          (c.refuse_overlong.ensures.id ∙ find_id c.args.c v.sessions x here.found);
    }

pub returns-in-Nothing : goal.returns-in-Nothing
returns-in-Nothing c =
    let t : ServerState = c.loop-end.self.state in
    let le : c.loop-end.done ≤ length (held_of (session c.args.c c.args.self.now.state)) =
    omega (arith, c.loop-end.invariant.rest) in
    let had = found_in (state_is c.self.view_is) c.loop-end.invariant.at c.index.ensures in
    let none : next_line_for t c.args.c ≡ None = ap (option_and_then next_line) had ∙ c.in-Nothing.ensures.0 in
    let short : is_overlong t c.args.c ≡ false =
    ap (λ (o : Option SessionState). option_map_or holds_overlong o false) had ∙ c.in-Nothing.ensures.1 in
    record {
      gives = pump_ends c.args.self.now.state t c.args.c c.loop-end.done c.loop-end.invariant.done le none short;
      notes = noted_end c.args.self.now.state t c.args.c c.loop-end.done c.loop-end.self.notes
          c.loop-end.invariant.done le none short c.loop-end.invariant.noted;
      keeps = c.loop-end.invariant.keeps;
      at = c.loop-end.invariant.at;
    }
