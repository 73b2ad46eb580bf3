-- What an order makes of the UPS, and by which number it ended.
use Rattle.std.specs.Prelude.{ℕ, List, ◌==◌, nat_le, Option, Some, None, codes, if◌then◌else◌}
use Rattle.std.specs.Prelude.{option_and_then}
use Rattle.std.specs.List.{before_first, after_first}
use Rattle.std.specs.Str.{bytes_eq}
use Rattle.nutwords.specs.Natural.{read_natural}
use Rattle.demodriver.specs.Status.{status_in}
use Rattle.demodriver.specs.Ups.{after_failure, after_return}
use Rattle.demodriver.specs.declared.orders.Ended.{Ended}
use Rattle.demodriver.specs.declared.orders.Ended.TheVariants.{Well, Unknown, Invalid}
use Rattle.demodriver.specs.declared.ups.Ups.{Ups}
use Rattle.demodriver.specs.declared.ups.TheConstants.{LOW_LEAST, LOW_MOST}

-- What stands before the first quote, and what stands between it and the next.
abbrev pub front_and_value : List ℕ → List ℕ × List ℕ
front_and_value order = (
  before_first (λ b. b == 34) order,
  before_first (λ b. b == 34) (after_first (λ b. b == 34) order),
)

-- The charge at which the battery is to be low: 10 to 90 percent.
abbrev pub low_from : ℕ → Option ℕ
low_from low = if nat_le LOW_LEAST low then Some low else None

abbrev pub low_in : List ℕ → Option ℕ
low_in value = option_and_then low_from (read_natural LOW_MOST value)

-- A lawful value is set, and any other one is invalid.
abbrev pub set_or : {A : Type 0} → (A → Ups) → Ups → Option A → Ups × Ended
set_or set ups (Some value) = (set value, Well)
set_or set ups None = (ups, Invalid)

-- The power fails, or it is back; or a variable is set.
abbrev pub obeyed : (front value : List ℕ) → Ups → Ups × Ended
obeyed front value ups =
    if bytes_eq front (codes "INSTCMD test.failure.start") then (after_failure ups, Well)
    else if bytes_eq front (codes "INSTCMD test.failure.stop") then (after_return ups, Well)
    else if bytes_eq front (codes "SET battery.charge.low ")
    then set_or (λ low. record ups { low = low }) ups (low_in value)
    else if bytes_eq front (codes "SET ups.status ")
    then set_or (λ status. record ups { set = status }) ups (status_in value)
    else (ups, Unknown)

abbrev pub executed : List ℕ → Ups → Ups × Ended
executed order = obeyed (front_and_value order).0 (front_and_value order).1
