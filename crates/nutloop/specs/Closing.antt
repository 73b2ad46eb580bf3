-- Connections whose sessions have ended: which one is closed where there are too many.
use Rattle.std.specs.Prelude.{ℕ, List, count_by, slice_get}
use Rattle.std.specs.Option.{option_map_or}
use Rattle.std.specs.Str.{bytes_eq}
use Rattle.nutloop.specs.declared.over_mio.closing.Closing.{Closing}

-- How many of them the address of the one at this place has.
abbrev pub connections_at : List Closing → ℕ → ℕ
connections_at closing place =
    option_map_or (λ x. count_by (λ y. bytes_eq y.address x.address) closing)
    (slice_get closing place) 0
