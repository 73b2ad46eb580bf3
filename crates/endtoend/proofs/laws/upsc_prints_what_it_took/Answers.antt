use Rattle.endtoend.proofs.OverRuns.{prints_taken}
use Rattle.endtoend.proofs.laws.upsc_prints_what_it_took.Goals as goal

pub returns : goal.returns
returns c =
    prints_taken c.every_server_is_sound.ensures.opening c.every_server_is_sound.ensures.lawful
    c.one_line_is_answered.ensures
    c.upsc_prints_what_the_driver_set_last.ensures.variable c.upsc_prints_what_the_driver_set_last.ensures.variables
