use Rattle.std.proofs.Common.{◌≡◌, ◌+◌, ◌-◌, ◌≤◌, length, take, vec_len, vec_capacity}
use Rattle.nutcore.specs.Run.{Run}
use Rattle.nutcore.specs.Cost.{last_cost}
use Rattle.nutcore.proofs.server.Server.run.Given as goal

-- the events so far are a run, whose last one is what the cost is of, and there is room for the
-- outcomes that are left
abbrev pub invariant-loop-event : goal.invariant-loop-event
invariant-loop-event l = record {
  run : Run l.fn.self.state (take l.event-index l.events) l.outcomes.items l.self.state;
  cost : l.self.cost ≡ last_cost l.fn.self.cost l.fn.self.state (take l.event-index l.events) l.outcomes.items;
  answered : vec_len l.outcomes ≡ l.event-index;
  room : vec_len l.outcomes + (length l.events - l.event-index) ≤ vec_capacity l.outcomes;
}
