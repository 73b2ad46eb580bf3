use Rattle.std.specs.BTreeMap.{is_at}
use Rattle.nutmap.proofs.Lengths.{length-insert_new, length-insert_old, length-remove_entry, remove_entry-none}
use Rattle.nutmap.proofs.laws.changes_count_one_entry.Goals as goal

pub returns-clause-added : goal.returns-clause-added
returns-clause-added g c = λ map key value none. length-insert_new g.K.Ord.cmp key value map none

pub returns-clause-replaced : goal.returns-clause-replaced
returns-clause-replaced g c = λ map key value before rising some. length-insert_old
    g.met.K.Ord.total key value map before rising.rising some

pub returns-clause-taken_out : goal.returns-clause-taken_out
returns-clause-taken_out g c = λ map key before some. length-remove_entry (is_at (g.K.Ord.cmp key)) map before some

pub returns-clause-absent : goal.returns-clause-absent
returns-clause-absent g c = λ map key none. remove_entry-none (is_at (g.K.Ord.cmp key)) map none
