-- What an event costs: the lines it renders and the bytes it places; and what it takes apart.
use Rattle.std.specs.Prelude.{◌≡◌, ℕ, ◌+◌, ◌-◌, ◌<◌, ◌≤◌, ◌==◌, ◌&&◌, Bool, true, false, not}
use Rattle.std.specs.Prelude.{List, [], ◌∷◌, length, drop}
use Rattle.nutdriver.specs.Waste.{TreeWaste, no_waste, nodes_of}
use Rattle.nutdriver.specs.declared.limits.TheConstants.{TAKEN_APART_LIMIT}
use Rattle.nutlisting.specs.Counts.{lines}
use Rattle.nutcore.specs.declared.cost.Cost.{Cost}
use Rattle.nutcore.specs.declared.note.Note.{Note}
use Rattle.nutcore.specs.declared.event.Event.{Event}
use Rattle.nutcore.specs.declared.event.Outcome.{Outcome}
use Rattle.nutcore.specs.declared.event.Event.TheVariants.{Feed, Took}
use Rattle.nutcore.specs.Server.{ServerState, session}
use Rattle.nutcore.specs.Step.{offered, after}
use Rattle.nutcore.specs.History.{taken_in_event}

-- A server as its callers see it, what its last event cost, what was noted of it, and how much waits
-- to be taken apart.
pub record RunningServer : Type 0 where
  pub state : ServerState
  pub cost : Cost
  pub notes : List Note
  pub waste : TreeWaste

abbrev pub no_cost : Cost
no_cost = record { rendered = 0; placed = 0 }

-- A server once what the last event cost and did is forgotten.
abbrev pub forgetful : ServerState → TreeWaste → RunningServer
forgetful s waste = record { state = s; cost = no_cost; notes = []; waste = waste }

-- A server before any event.
abbrev pub begun : ServerState → RunningServer
begun s = forgetful s no_waste

-- Trees wait to be taken apart.
abbrev pub has_waste : TreeWaste → Bool
has_waste waste = not (waste.variables.trees == 0 && waste.commands.trees == 0)

-- At most 64 nodes are taken apart: as many fewer wait, or none.
pub record AreFewer (old new : TreeWaste) : Type 0 where
  pub count : ℕ
  pub most : count ≤ TAKEN_APART_LIMIT
  pub fewer : nodes_of new + count ≤ nodes_of old
  pub all : count < TAKEN_APART_LIMIT → new ≡ no_waste

-- Where something waits, fewer nodes wait afterwards; else nothing changes.
pub record IsTakenApart (old new : TreeWaste) : Type 0 where
  pub some : has_waste old ≡ true → AreFewer old new
  pub none : has_waste old ≡ false → new ≡ old

-- What is offered to a client before and after, and how many bytes it took: those that are offered
-- after, and those taken, less those offered before, were placed. They are the last of those
-- offered, and just their lines were rendered, each once.
abbrev pub cost_between : List ℕ → ℕ → List ℕ → Cost
cost_between before taken after =
    let placed = length after + taken - length before in
    record { rendered = lines (drop (length after - placed) after); placed = placed }

abbrev pub client_cost : ℕ → ServerState → Event → ServerState → Cost
client_cost c old e new =
    cost_between (offered (session c old)) (length (taken_in_event c old e))
    (offered (session c new))

-- What a client sends or takes costs what is rendered and placed for it, and any other event
-- nothing.
abbrev pub cost_of : ServerState → Event → ServerState → Cost
cost_of old (Feed c piece) new = client_cost c old (Feed c piece) new
cost_of old (Took c n) new = client_cost c old (Took c n) new
cost_of old _ new = no_cost

-- Of a run: what its last event cost, and what was the cost before where it has none.
abbrev pub last_cost : Cost → ServerState → List Event → List Outcome → Cost
last_cost before s [] os = before
last_cost before s (e ∷ es) [] = before
last_cost before s (e ∷ es) (o ∷ os) = last_cost (cost_of s e (after s e o)) (after s e o) es os
