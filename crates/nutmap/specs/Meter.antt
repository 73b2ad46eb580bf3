-- A meter as the number that it has counted.
use Rattle.std.specs.Prelude.{ℕ, ◌+◌, ◌-◌, ◌^◌, min}

-- the greatest number of a meter
abbrev pub greatest_count : ℕ
greatest_count = 2 ^ 64 - 1

-- the number after n, where a meter stops at the greatest
abbrev pub counted_up : ℕ → ℕ
counted_up n = min (n + 1) greatest_count
