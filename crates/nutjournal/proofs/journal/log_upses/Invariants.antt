use Rattle.std.proofs.Common.{drop}
use Rattle.nutjournal.specs.declared.log_buffer.LogBuffer.{LogBuffer}
use Rattle.nutjournal.specs.Calls.{ups_places}
use Rattle.nutjournal.specs.LogBuffer.{PlacesMore}
use Rattle.nutjournal.proofs.journal.log_upses.Given as goal

-- what was counted of the UPSs so far has its lines
abbrev pub invariant-loop-place : goal.invariant-loop-place
invariant-loop-place l = (end : LogBuffer)
    → PlacesMore (ups_places l.is_minute (drop l.place l.server.state.list) (drop l.place l.tallies)) l.log end
    → PlacesMore (ups_places l.is_minute l.server.state.list l.tallies) l.fn.log end
