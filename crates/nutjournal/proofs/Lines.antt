-- What is logged and what is counted.
use Rattle.std.proofs.Common.{◌≡◌, ℕ, ◌+◌, ◌-◌, ◌<◌, ◌≤◌, ◌^◌, max}
use Rattle.std.proofs.Common.{List, [], ◌∷◌, length, arith, Bool}
use Rattle.std.specs.Prelude.{◌&&◌, ◌==◌}
use Rattle.std.proofs.lemmas.Bool.Decides.{nat_tests}
use Rattle.std.proofs.lemmas.List.{get_or-set_same, get_or-set_other, length-set}
use Rattle.std.proofs.Math.ListN.{get_or, set}
use Rattle.nutjournal.specs.declared.tally.Kind.{Kind}
use Rattle.nutjournal.specs.declared.tally.Kind.TheVariants as kinds
use Rattle.nutjournal.specs.declared.tally.Tally.{Tally}
use Rattle.nutjournal.specs.declared.tally.TheConstants.{LINE_LIMIT}
use Rattle.nutjournal.specs.Tally.{after_line, after_lines, count, number, is_logged, is_same}
use Rattle.nutjournal.specs.Tally.{Coming, one_if, one_more, logged_of, times, limit_of}
use Rattle.nutjournal.specs.Tally.{EachLineIsLoggedOrCounted}

number_below : (kind : Kind) → number kind < 20
number_below kinds.Lost = grind arith
number_below kinds.Awaited = grind arith
number_below kinds.Good = grind arith
number_below kinds.Stale = grind arith
number_below kinds.Status = grind arith
number_below kinds.Alarm = grind arith
number_below kinds.LowBattery = grind arith
number_below kinds.LoggedIn = grind arith
number_below kinds.LoggedOut = grind arith
number_below kinds.Order = grind arith
number_below kinds.ForcedShutdown = grind arith
number_below kinds.RefusedLogin = grind arith
number_below kinds.RefusedOrder = grind arith
number_below kinds.Denied = grind arith
number_below kinds.EmptyOrder = grind arith
number_below kinds.Silent = grind arith
number_below kinds.GaveWay = grind arith
number_below kinds.RefusedStatus = grind arith
number_below kinds.OrderDone = grind arith
number_below kinds.OrderFailed = grind arith

limit_below : (kind : Kind) → limit_of kind ≤ LINE_LIMIT
limit_below kinds.Lost = grind arith
limit_below kinds.Awaited = grind arith
limit_below kinds.Good = grind arith
limit_below kinds.Stale = grind arith
limit_below kinds.Status = grind arith
limit_below kinds.Alarm = grind arith
limit_below kinds.LowBattery = grind arith
limit_below kinds.LoggedIn = grind arith
limit_below kinds.LoggedOut = grind arith
limit_below kinds.Order = grind arith
limit_below kinds.ForcedShutdown = grind arith
limit_below kinds.RefusedLogin = grind arith
limit_below kinds.RefusedOrder = grind arith
limit_below kinds.Denied = grind arith
limit_below kinds.EmptyOrder = grind arith
limit_below kinds.Silent = grind arith
limit_below kinds.GaveWay = grind arith
limit_below kinds.RefusedStatus = grind arith
limit_below kinds.OrderDone = grind arith
limit_below kinds.OrderFailed = grind arith

-- a count among others, one of which is raised
raised : (more : List ℕ) (i j : ℕ) → j < length more → get_or more i 0 < 2 ^ 64 - 1
    → get_or (set more j (one_more (get_or more j 0))) i 0 ≡ get_or more i 0 + one_if (i == j)
raised more i j below room = grind (
  arith,
  nat_tests,
  get_or-set_same more j (one_more (get_or more j 0)) 0,
  get_or-set_other more j i (one_more (get_or more j 0)) 0,
)

pub step : (r : Bool) (y : Tally) (kind next : Kind) → length y.more ≡ 20 → count kind y < 2 ^ 64 - 1
    → one_if (is_same kind next && is_logged r y next) + count kind (after_line r y next) ≡
    count kind y + one_if (is_same kind next)
step r y kind next size room = grind (arith, nat_tests, raised y.more (number kind) (number next), number_below next)

pub same_size : (r : Bool) (y : Tally) (next : Kind) → length (after_line r y next).more ≡ length y.more
same_size r y next = grind (arith, length-set y.more (number next) (one_more (count next y)))

each_of : (y : Tally) (kind : Kind) (lines : List Coming) → length y.more ≡ 20 → count kind y +
    length lines < 2 ^ 64
    → logged_of kind y lines + count kind (after_lines y lines) ≡ count kind y + times kind lines
each_of y kind [] size room = grind arith
each_of y kind (next ∷ later) size room =
    grind (
      arith,
      nat_tests,
      step next.has_room y kind next.kind size,
      same_size next.has_room y next.kind,
      each_of (after_line next.has_room y next.kind) kind later,
    )

logged_most : (r : Bool) (y : Tally) (next : Kind) → (after_line r y next).logged ≤ max y.logged LINE_LIMIT
logged_most r y next = grind (arith, nat_tests, limit_below next)

most_of : (y : Tally) (lines : List Coming) → (after_lines y lines).logged ≤ max y.logged LINE_LIMIT
most_of y [] = grind arith
most_of y (next ∷ later) = grind (
  arith,
  logged_most next.has_room y next.kind,
  most_of (after_line next.has_room y next.kind) later,
)

pub each_line_is_logged_or_counted : EachLineIsLoggedOrCounted
each_line_is_logged_or_counted = record { each = each_of; most = most_of }
