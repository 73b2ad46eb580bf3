-- What is logged of a driver beside its lines.
use Rattle.std.specs.Prelude.{ℕ, ℤ, ◌-◌, Bool, true, false, Option, Some, None, nat_lt}
use Rattle.std.specs.Prelude.{if◌then◌else◌}
use Rattle.std.specs.Option.{option_eq, option_map_or}
use Rattle.std.specs.Ordering.{int_eq}
use Rattle.nutcore.specs.declared.note.DataState.{DataState}
use Rattle.nutcore.specs.declared.note.DataState.TheVariants.{Awaited, Stale}
use Rattle.nutjournal.specs.declared.drivers.Driver.{Driver}

abbrev pub is_awaited : DataState → Bool
is_awaited Awaited = true
is_awaited _ = false

-- It was awaited to report all, and has, but its data aren't good yet.
abbrev pub is_first_stale : DataState → Driver → Bool
is_first_stale Stale was = is_awaited was.state
is_first_stale _ was = false

-- Data are awaited from the second on in which their driver connects.
abbrev pub after_state : DataState → ℕ → Driver → Driver
after_state state moment was = record was {
  state = state;
  awaited = if is_awaited state then Some moment else None;
}

-- An error is new where it is another one than before.
abbrev pub unless_same : Option ℤ → Option ℤ → Option ℤ
unless_same was now = if option_eq int_eq was now then None else now

-- Its data have been awaited for longer than the greatest age.
abbrev pub is_late : ℕ → ℕ → Driver → Bool
is_late moment max_age was =
    option_map_or (λ since. nat_lt max_age (moment - since)) was.awaited false

-- What a second logs is not logged again.
abbrev pub after_second : Option ℤ → ℕ → ℕ → Driver → Driver
after_second error moment max_age was = record was {
  refused = (0, None);
  error = error;
  awaited = if is_late moment max_age was then None else was.awaited;
}
