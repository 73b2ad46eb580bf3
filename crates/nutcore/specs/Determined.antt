-- What is determined: how many lines the pump executes, and what an event gives and leaves.
use Rattle.std.specs.Prelude.{◌≡◌, ◌⊎◌, ℕ, ◌<◌, true, false}
use Rattle.nutcore.specs.declared.event.Event.{Event}
use Rattle.nutcore.specs.declared.event.Outcome.{Outcome}
use Rattle.nutcore.specs.declared.event.Outcome.TheVariants.{Refused}
use Rattle.nutcore.specs.declared.event.Fault.TheVariants.{Memory}
use Rattle.nutcore.specs.Server.{ServerState}
use Rattle.nutcore.specs.Pump.{pump_stops, after_lines, after_notice, pumped}
use Rattle.nutcore.specs.Step.{Step, outcome_of}

-- The pump executes the least number of lines after which it stops.
pub record IsLeast (s : ServerState) (c k : ℕ) : Type 0 where
  pub there : pump_stops (after_lines k s c) c ≡ true
  pub before : (j : ℕ) → j < k → pump_stops (after_lines j s c) c ≡ false
  pub pumped_is : pumped s c ≡ after_notice (after_lines k s c) c

abbrev pub ThePumpExecutesTheLeast : Type 0
ThePumpExecutesTheLeast = (s : ServerState) (c : ℕ) → (k : ℕ) × IsLeast s c k

abbrev pub IsOutOfMemory : Outcome → Type 0
IsOutOfMemory outcome = (k : ℕ) × (outcome ≡ Refused (Memory k))

-- An event is a function of the server: given the outcome there is one next server, and except for
-- being out of memory there is one outcome.
pub record IsAFunction (s : ServerState) (event : Event) : Type 0 where
  pub one_next : (outcome : Outcome) (new other : ServerState) → Step s event outcome new
      → Step s event outcome other → new ≡ other
  pub one_outcome : (outcome : Outcome) (new : ServerState) → Step s event outcome new
      → (outcome ≡ outcome_of s event) ⊎ IsOutOfMemory outcome

abbrev pub EachEventIsAFunction : Type 0
EachEventIsAFunction = (s : ServerState) (event : Event) → IsAFunction s event
