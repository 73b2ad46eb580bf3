use Rattle.std.proofs.Common.{ℕ, List, Some, None, sym, subst}
use Rattle.nutcore.specs.Promises.{TakesLine}
use Rattle.nutcore.proofs.server.pump.carry_out.Goals as goal

pub order-requires : goal.order-requires
order-requires c =
    record {
      fits = λ x at. subst (λ (line : List ℕ). TakesLine line x) (sym c.as_bytes.ensures)
          (c.requires.fits c.in-Order.u c.in-Order.line.items None x (cc (c.in-One.is, c.in-Order.is)) at);
    }

pub order-requires-in-Tracked : goal.order-requires-in-Tracked
order-requires-in-Tracked c =
    record {
      fits = λ x at. subst (λ (line : List ℕ). TakesLine line x)
          (sym c.as_bytes-in-Tracked.ensures)
          (c.requires.fits c.in-Tracked.u c.in-Tracked.line.items (Some c.in-Tracked.field-1) x
          (cc (c.in-One.is, c.in-Tracked.is)) at);
    }
