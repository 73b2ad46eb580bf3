use Rattle.std.proofs.Common.{◌≡◌, Some, None, sym}
use Rattle.std.specs.Option.{option_copied}
use Rattle.nutmap.specs.Entries.{entry_after}
use Rattle.nutmap.specs.Marked.{marked_after}
use Rattle.nutdriver.specs.Tree.{byte_order}
use Rattle.nutlisting.proofs.Firsts.{no_command, command_first, may_be_set, rw_first}
use Rattle.nutlisting.proofs.listing.Content.item_after.Goals as goal

pub returns-in_err-name-in-Commands-clause-item : goal.returns-in_err-name-in-Commands-clause-item
returns-in_err-name-in-Commands-clause-item c =
    let entry : entry_after byte_order c.commands.result.now (option_copied c.args.last) ≡ None =
    sym c.in_err-name-in-Commands.ensures.entry in
    let walks = c.after_walks_the_entries.ensures c.commands.result.now (option_copied c.args.last)
    c.after.ensures.rising in
    rw c.from_residual-in_err-name-in-Commands.ensures
    (no_command c.args.self.now c.in-Commands.ups c.in-Commands.tree (option_copied c.args.last)
    c.commands.result.now c.in-Commands.is c.commands.ensures.value (rw entry at walks))

pub returns-in_ok-name-in-Commands-clause-item : goal.returns-in_ok-name-in-Commands-clause-item
returns-in_ok-name-in-Commands-clause-item c =
    let entry : entry_after byte_order c.commands.result.now (option_copied c.args.last) ≡
    Some (c.in_ok-name-in-Commands.name.now, c.in_ok-name-in-Commands.field-0-1.now) =
    sym c.in_ok-name-in-Commands.ensures.entry in
    let walks = c.after_walks_the_entries.ensures c.commands.result.now (option_copied c.args.last)
    c.after.ensures.rising in
    command_first c.args.self.now c.in-Commands.ups c.in-Commands.tree (option_copied c.args.last)
    c.commands.result.now c.in-Commands.is c.commands.ensures.value c.command_line_into.new.line.items
    (c.in_ok-name-in-Commands.name.now, c.in_ok-name-in-Commands.field-0-1.now) walks entry
    c.command_line_into.ensures.text c.command_line_into.ensures.whole

pub returns-in_ok-name-in-Rw-clause-item : goal.returns-in_ok-name-in-Rw-clause-item
returns-in_ok-name-in-Rw-clause-item c =
    let variables = c.variables-in-Rw.ensures.value in
    let entry : marked_after may_be_set byte_order c.variables-in-Rw.result.now
    (option_copied c.args.last) ≡ Some
    (c.in_ok-name-in-Rw.name.now, c.in_ok-name-in-Rw.variable.now) = sym c.in_ok-name-in-Rw.ensures.entry in
    let walks = c.marked_after_walks_the_marked_entries.ensures c.in-Rw.tree.variables
    (option_copied c.args.last) (rw variables at c.marked_after.ensures.rising) in
    rw_first c.args.self.now c.in-Rw.ups c.in-Rw.fsd c.in-Rw.tree (option_copied c.args.last)
    c.variable_line_into-in-Rw.new.line.items
    (c.in_ok-name-in-Rw.name.now, c.in_ok-name-in-Rw.variable.now) c.in-Rw.is walks
    (rw variables at entry) c.variable_line_into-in-Rw.ensures.text c.variable_line_into-in-Rw.ensures.whole
