use Rattle.std.proofs.Common.{◌+◌, None, sym, subst, arith}
use Rattle.std.specs.Option.{option_copied}
use Rattle.nutlisting.specs.Stages.{items_past, IsFirst}
use Rattle.nutlisting.specs.declared.listing.Content.{Content}
use Rattle.nutlisting.specs.declared.listing.stage.Stage.TheVariants.{Items}
use Rattle.nutlisting.proofs.Upses.{ups_first}
use Rattle.nutlisting.proofs.listing.Content.item_at.Goals as goal

pub returns-in_ok-name-in-Upses : goal.returns-in_ok-name-in-Upses
returns-in_ok-name-in-Upses c =
    subst (λ (x : Content). IsFirst (items_past x (Items c.args.done, None))
    c.ups_line_into.new.line.items (items_past x (Items (c.args.done + 1), None))) (sym c.in-Upses.is)
    (ups_first c.in-Upses.list c.args.done c.in_ok-name-in-Upses.field-0.now
    (option_copied c.desc.result) c.ups_line_into.new.line.items
    (omega (arith, c.if-done-len.true, c.len.ensures.value)) c.in_ok-name-in-Upses.ensures
    c.desc.ensures c.ups_line_into.ensures.text c.ups_line_into.ensures.whole)
