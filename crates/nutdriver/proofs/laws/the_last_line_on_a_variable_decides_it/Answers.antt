use Rattle.nutdriver.proofs.Histories.{ChangeLaws}
use Rattle.nutdriver.proofs.LastLine.{the_last_line_decides}
use Rattle.nutdriver.proofs.laws.the_last_line_on_a_variable_decides_it.Goals as goal

pub returns : goal.returns
returns c =
    let laws : ChangeLaws = record {
      inserted = c.insert_changes_one_key.ensures;
      removed = c.remove_changes_one_key.ensures;
    } in
    the_last_line_decides laws c.each_line_keeps_the_tree_sound.ensures
