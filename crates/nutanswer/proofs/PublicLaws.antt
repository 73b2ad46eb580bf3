-- The laws of this crate that a proof in a crate above may cite: each is what a function of
-- src/laws.rt ensures.
use Rattle.nutanswer.specs.Laws.{ANamedUpsIsSeen, OrdersFit, ErrorLinesAreWhole, OrderLinesAreWhole}
use Rattle.nutanswer.specs.Laws.{EachAnswerIsALineOrAListing, EachErrorIsALine}
use Rattle.nutanswer.specs.Rows.{EachChangeComesOfItsCommand, EachOrderAnsweredOkIsGiven}
use Rattle.nutanswer.proofs.Commands as commands
use Rattle.nutanswer.proofs.Named as named
use Rattle.nutanswer.proofs.OrderFits as fits
use Rattle.nutanswer.proofs.ErrorLemmas as errors
use Rattle.nutanswer.proofs.Plain as plain
use Rattle.nutanswer.proofs.Shapes as shapes

-- each_change_comes_of_its_command
pub each_change_comes_of_its_command : EachChangeComesOfItsCommand
each_change_comes_of_its_command = commands.each_change

-- each_order_answered_ok_is_given
pub each_order_answered_ok_is_given : EachOrderAnsweredOkIsGiven
each_order_answered_ok_is_given = commands.ok_orders

-- a_named_ups_is_seen
pub a_named_ups_is_seen : ANamedUpsIsSeen
a_named_ups_is_seen = named.named_is_seen

-- orders_fit
pub orders_fit : OrdersFit
orders_fit = fits.orders_fit

-- error_lines_are_whole
pub error_lines_are_whole : ErrorLinesAreWhole
error_lines_are_whole = errors.error_lines_are_whole

-- order_lines_are_whole
pub order_lines_are_whole : OrderLinesAreWhole
order_lines_are_whole = plain.order_lines_are_whole

-- each_answer_is_a_line_or_a_listing
pub each_answer_is_a_line_or_a_listing : EachAnswerIsALineOrAListing
each_answer_is_a_line_or_a_listing = commands.each_answer_shaped

pub each_error_is_a_line : EachErrorIsALine
each_error_is_a_line = shapes.refused_shaped
