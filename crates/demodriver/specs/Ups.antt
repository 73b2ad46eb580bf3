-- The UPS that is simulated: how it begins, what a second and the power do to it, and what it
-- reports.
use Rattle.std.specs.Prelude.{ℕ, ◌+◌, ◌-◌, ◌%◌, min, Bool, true, false, List, [], ◌∷◌, nat_le}
use Rattle.std.specs.Prelude.{codes, if◌then◌else◌}
use Rattle.demodriver.specs.declared.ups.Ups.{Ups}
use Rattle.demodriver.specs.declared.ups.TheConstants.{FULL, STEP, LOW, VOLTS, LOAD, LOAD_TURN}

abbrev pub new_ups : Ups
new_ups =
    record { is_failing = false; charge = FULL; low = LOW; set = []; seconds = 0 }

-- The power of a second takes from the charge, or gives to it.
abbrev pub charge_after : Bool → ℕ → ℕ
charge_after true charge = charge - STEP
charge_after false charge = min (charge + STEP) FULL

abbrev pub after_second : Ups → Ups
after_second ups =
    record ups {
      charge = charge_after ups.is_failing ups.charge;
      seconds = min (ups.seconds + 1) 4294967295;
    }

abbrev pub after_failure : Ups → Ups
after_failure ups = record ups { is_failing = true; set = [] }

abbrev pub after_return : Ups → Ups
after_return ups = record ups { is_failing = false; set = [] }

abbrev pub simulated_status : Ups → List ℕ
simulated_status ups =
    if ups.is_failing
    then (if nat_le ups.charge ups.low then codes "OB DISCHRG LB" else codes "OB DISCHRG")
    else (if nat_le FULL ups.charge then codes "OL" else codes "OL CHRG")

-- The status that was set, or else the simulated one.
abbrev pub status_or : List ℕ → List ℕ → List ℕ
status_or [] simulated = simulated
status_or (b ∷ set) simulated = b ∷ set

abbrev pub status_of : Ups → List ℕ
status_of ups = status_or ups.set (simulated_status ups)

abbrev pub input_of : Ups → ℕ
input_of ups = if ups.is_failing then 0 else VOLTS

-- The load goes up by one a second, and begins again.
abbrev pub load_at : ℕ → ℕ
load_at seconds = LOAD + seconds % LOAD_TURN
