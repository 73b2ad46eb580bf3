use Rattle.nutdriver.proofs.Histories.{ChangeLaws}
use Rattle.nutdriver.proofs.AddingOrder.{in_the_order_of_adding}
use Rattle.nutdriver.proofs.laws.lists_are_in_the_order_of_adding.Goals as goal

pub returns : goal.returns
returns c =
    let laws : ChangeLaws = record {
      inserted = c.insert_changes_one_key.ensures;
      removed = c.remove_changes_one_key.ensures;
    } in
    in_the_order_of_adding laws c.each_line_keeps_the_tree_sound.ensures
