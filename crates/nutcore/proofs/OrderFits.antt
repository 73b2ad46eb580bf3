-- An order that answers a line is for a driver that is connected, and fits in what it may still be
-- owed.
use Rattle.std.proofs.Common.{◌≡◌, ℕ, List, Option, Some, Result, Ok, ◌∙◌, ap, arith}
use Rattle.nutanswer.specs.declared.reply.Change.TheVariants.{Fsd}
use Rattle.nutcore.proofs.Common.{option_map, slice_get-map, UpsId, Change, UpsState, ServerState}
use Rattle.nutcommand.specs.declared.command.Command.{Command}
use Rattle.nutcommand.specs.declared.err_word.ErrWord.{ErrWord}
use Rattle.nutanswer.proofs.PublicLaws.{orders_fit}
use Rattle.nutcore.specs.Reply.{seen, seen_ups, asker, change_by}
use Rattle.nutcore.specs.Promises.{OrderFits}

pub order_fits : (s : ServerState) (c : ℕ) (r : Result (Option Command) ErrWord) (change : Change)
    → change_by s c r ≡ change → OrderFits change s.upses
order_fits s c (Ok (Some command)) change is u line id x e at =
    let takes = orders_fit (seen s) (asker c s) command u line id (seen_ups x) (is ∙ e)
    (slice_get-map seen_ups s.upses u.place ∙ ap (λ (o : Option UpsState). option_map seen_ups o) at) in
    record { connected = takes.connected; fits = takes.fits }
order_fits s c r change is u line id x e at = absurd (grind (arith, is, e))

pub no_order : (u : UpsId) (xs : List UpsState) → OrderFits (Fsd u) xs
no_order u xs v line id x e at = grind (arith, e)
