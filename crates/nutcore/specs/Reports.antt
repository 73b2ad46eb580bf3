-- What a driver's report on an order does to the kept orders.
use Rattle.std.specs.Prelude.{ℕ, Bool, false, not, List, [], ◌∷◌, Option, Some, None}
use Rattle.nuttracking.specs.Tracking.{TrackingState, is_awaited, with_report}
use Rattle.nutdriver.specs.Report.{OrderEnd, end_in}

-- The orders once the driver of the UPS at this place has reported that: the one that waits for it
-- is done.
abbrev pub with_end : ℕ → Option OrderEnd → TrackingState → TrackingState
with_end place None t = t
with_end place (Some e) t = with_report place e.id e.number t

-- No order waits for it.
abbrev pub is_unawaited : ℕ → Option OrderEnd → TrackingState → Bool
is_unawaited place None t = false
is_unawaited place (Some e) t = not (is_awaited place e.id t)

-- The orders after these lines of the driver, one by one.
abbrev pub after_ends : ℕ → List (List ℕ) → TrackingState → TrackingState
after_ends place [] t = t
after_ends place (line ∷ lines) t = after_ends place lines (with_end place (end_in line) t)
