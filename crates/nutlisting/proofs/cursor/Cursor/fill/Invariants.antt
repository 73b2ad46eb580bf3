use Rattle.std.proofs.Common.{length, ◌<◌}
use Rattle.std.specs.Option.{option_copied}
use Rattle.nutlisting.specs.Ahead.{IsAhead}
use Rattle.nutlisting.specs.Counts.{PlacesAlike}
use Rattle.nutlisting.specs.Stages.{IsPosition, rest_at}
use Rattle.nutlisting.specs.Items.{rest}
use Rattle.nutlisting.specs.declared.outbox.TheConstants.{QUEUE_LIMIT}
use Rattle.nutlisting.proofs.cursor.Cursor.fill.Given as goal

-- what fits comes out the same
abbrev pub invariant-loop-content : goal.invariant-loop-content
invariant-loop-content l = record {
  at : IsPosition l.content (l.stage, option_copied l.last) l.offset;
  ahead : length l.queue < QUEUE_LIMIT → IsAhead l.content (l.stage, option_copied l.last) l.ahead;
  alike : PlacesAlike l.fn.queue (rest l.fn.self) l.fn.renders l.queue
      (rest_at l.content (l.stage, option_copied l.last) l.offset) l.renders;
}

-- how much rests
abbrev pub decreases-loop-content : goal.decreases-loop-content
decreases-loop-content l = length (rest_at l.content (l.stage, option_copied l.last) l.offset)
