use Rattle.std.proofs.Common.{◌+◌, drop, length, map, take, None}
use Rattle.nutjournal.specs.declared.log_buffer.LogBuffer.{LogBuffer}
use Rattle.nutjournal.specs.Calls.{client_places, place_of_tally}
use Rattle.nutjournal.specs.LogBuffer.{PlacesMore}
use Rattle.nutjournal.proofs.journal.log_more.Given as goal

-- what was counted of the addresses so far has its lines
abbrev pub invariant-loop-place : goal.invariant-loop-place
invariant-loop-place l = (end : LogBuffer)
    → PlacesMore (map (place_of_tally l.is_minute None)
    (drop l.place (take (length l.clients.addresses.items + 1) l.clients.tallies))) l.log end
    → PlacesMore (client_places l.is_minute l.clients) l.fn.log end
