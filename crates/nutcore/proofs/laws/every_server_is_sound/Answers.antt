use Rattle.nutcore.proofs.Sound.{new_sound, each_event_sound, every_run_sound, sound_lawful}
use Rattle.nutcore.proofs.laws.every_server_is_sound.Goals as goal

pub returns-clause-opening : goal.returns-clause-opening
returns-clause-opening c = new_sound c.lawful_lines_keep_trees_sound.ensures.empty
    c.each_line_keeps_the_tree_sound.ensures c.read_lines_are_lawful.ensures

pub returns-clause-event : goal.returns-clause-event
returns-clause-event c = each_event_sound c.lawful_lines_keep_trees_sound.ensures.empty
    c.each_line_keeps_the_tree_sound.ensures c.read_lines_are_lawful.ensures

pub returns-clause-run : goal.returns-clause-run
returns-clause-run c = every_run_sound c.lawful_lines_keep_trees_sound.ensures.empty
    c.each_line_keeps_the_tree_sound.ensures c.read_lines_are_lawful.ensures

pub returns-clause-lawful : goal.returns-clause-lawful
returns-clause-lawful c = sound_lawful
