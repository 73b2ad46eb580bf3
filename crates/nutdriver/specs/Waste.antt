-- Trees of UPSs that wait to be taken apart.
use Rattle.std.specs.Prelude.{ℕ, ◌+◌}
use Rattle.nutmap.specs.Waste.{Waiting, nothing}

-- What waits of the variables, and of the commands.
pub record TreeWaste : Type 0 where
  pub variables : Waiting
  pub commands : Waiting

abbrev pub no_waste : TreeWaste
no_waste = record { variables = nothing; commands = nothing }

-- How many nodes wait.
abbrev pub nodes_of : TreeWaste → ℕ
nodes_of waste = waste.variables.nodes + waste.commands.nodes
