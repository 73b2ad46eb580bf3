use Rattle.nutdriver.proofs.LineLemmas.{line_sound}
use Rattle.nutdriver.proofs.laws.each_line_keeps_the_tree_sound.Goals as goal

pub returns : goal.returns
returns c = line_sound c.read_lines_are_lawful.ensures c.lawful_lines_keep_trees_sound.ensures.kept
