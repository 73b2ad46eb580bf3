use Rattle.nutdriver.proofs.Histories.{ChangeLaws}
use Rattle.nutdriver.proofs.LastLine.{other_lines_leave}
use Rattle.nutdriver.proofs.laws.other_lines_leave_the_value.Goals as goal

pub returns : goal.returns
returns c =
    let laws : ChangeLaws = record {
      inserted = c.insert_changes_one_key.ensures;
      removed = c.remove_changes_one_key.ensures;
    } in
    other_lines_leave laws
