use Rattle.endtoend.proofs.OneOrder.{orders_given_once}
use Rattle.endtoend.proofs.laws.an_order_is_given_once_or_not_at_all.Goals as goal

pub returns : goal.returns
returns c =
    orders_given_once c.every_server_is_sound.ensures.opening c.every_server_is_sound.ensures.event
    c.every_server_is_sound.ensures.lawful c.who_is_over_is_asked_no_more.ensures
    c.what_was_sent_and_is_owed_is_the_answers.ensures c.what_was_asked_is_executed_or_held.ensures
    c.each_answer_is_timely.ensures c.credentials_are_given_by_lines.ensures
    c.the_orders_given_are_those_of_the_lines.ensures
