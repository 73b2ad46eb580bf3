use Rattle.nutcore.proofs.AnswersApart.{answers_apart}
use Rattle.nutcore.proofs.laws.the_answers_of_a_run_are_cut_in_one_way.Goals as goal

pub returns : goal.returns
returns c = answers_apart c.lawful_lines_keep_trees_sound.ensures.empty
    c.each_line_keeps_the_tree_sound.ensures c.read_lines_are_lawful.ensures
