use Rattle.std.proofs.Common.{◌≡◌, ◌++◌, [], refl, true, arith, of_calls}
use Rattle.std.specs.Prelude.{Ok, Err}
use Rattle.nutloop.specs.declared.serving.TheConstants.{TURN_LIMIT}
use Rattle.nutloop.specs.Serving.{IsShown}
use Rattle.nutloop.proofs.Turning.{serves, shown_then}
use Rattle.nutloop.proofs.turns.Loop.serve.Goals as goal

pub loop-init : goal.loop-init
loop-init g c = (c.requires, ([], (refl, refl, refl, refl)))

pub loop-preserved : goal.loop-preserved
loop-preserved g c = (
  search of_calls,
  (
    c.loop.invariant.1.0 ++ c.turn.new.self.server.notes,
    shown_then g.S.Sockets.told g.R.Record.holds (IsShown g.W.FnMut) c.loop.counter true c.args.self.now
        c.args.watch c.loop.invariant.1.0 c.loop.soon c.loop.self c.loop.watch c.turn.new.self
        c.watch-soon.result c.watch-soon.new.self c.loop.invariant.1.1 c.in_default.ensures
        (record { one = _; is = refl; called = c.watch-soon.ensures }),
  ),
)

pub returns-in-Err : goal.returns-in-Err
returns-in-Err g c =
    serves g.S.Sockets.told g.R.Record.holds (IsShown g.W.FnMut) c.loop.counter c.args.self.now c.args.watch
    c.loop.invariant.1.0 c.loop.soon c.loop.self c.loop.watch (Err c.in-Err.fault) c.turn.new.self
    c.loop.invariant.1.1 (c.loop.soon, c.in-Err.ensures)

pub returns : goal.returns
returns g c =
    let all : c.loop.counter ≡ TURN_LIMIT = omega arith in
    serves g.S.Sockets.told g.R.Record.holds (IsShown g.W.FnMut) c.loop.counter c.args.self.now c.args.watch
    c.loop.invariant.1.0 c.loop.soon c.loop.self c.loop.watch (Ok tt) c.loop.self c.loop.invariant.1.1 (all, refl)
