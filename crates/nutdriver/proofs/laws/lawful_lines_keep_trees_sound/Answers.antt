use Rattle.std.specs.Prelude.{⊤}
use Rattle.nutdriver.specs.Variable.{VariableState}
use Rattle.nutdriver.proofs.SoundTrees.{MapLaws, empty_sound, step_sound}
use Rattle.nutdriver.proofs.laws.lawful_lines_keep_trees_sound.Goals as goal

pub returns-clause-empty : goal.returns-clause-empty
returns-clause-empty c = empty_sound

pub returns-clause-kept : goal.returns-clause-kept
returns-clause-kept c =
    let rising = c.changes_keep_keys_rising.ensures in
    let units_rising = c.changes_keep_keys_rising-2.ensures in
    let counts = c.changes_count_one_entry.ensures in
    let units_counts = c.changes_count_one_entry-2.ensures in
    let laws : MapLaws VariableState =
    record {
      inserted = rising.inserted;
      removed = rising.removed;
      added = counts.added;
      replaced = counts.replaced;
      taken = counts.taken_out;
      absent = counts.absent;
    } in
    let units_laws : MapLaws ⊤ = record {
      inserted = units_rising.inserted;
      removed = units_rising.removed;
      added = units_counts.added;
      replaced = units_counts.replaced;
      taken = units_counts.taken_out;
      absent = units_counts.absent;
    } in
    λ tree line sound lawful. step_sound laws units_laws tree sound line lawful
