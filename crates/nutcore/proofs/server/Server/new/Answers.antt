use Rattle.std.proofs.Common.{rules, arith}
use Rattle.std.proofs.lemmas.Grind.{common_steps}
use Rattle.nutusers.specs.UpsList.{IsList}
use Rattle.nutcore.specs.Sound.{IsMaxAge}
use Rattle.nutcore.proofs.Sound.{new_sound}
use Rattle.nutcore.proofs.server.Server.new.Goals as goal

pub invariant_of-result : goal.invariant_of-result
invariant_of-result c =
    let list : IsList c.args.list = record
    { by_name = c.len.ensures.by_name; few = c.len.ensures.few; lawful = c.len.ensures.lawful } in
    let age : IsMaxAge c.args.max_age = first_of (search rules, grind (arith, common_steps)) in
    let new = new_sound c.lawful_lines_keep_trees_sound.ensures.empty
    c.each_line_keeps_the_tree_sound.ensures c.read_lines_are_lawful.ensures c.args.list
    c.args.users c.args.descriptions c.args.max_age list c.texts_are_lawful.ensures age in
    record {
      sound = rw (
        c.in_ok-upses.ensures.upses,
        c.in_ok-upses.ensures.sessions,
        c.in_ok-upses.ensures.tracking,
        c.seconds.ensures,
        c.len.ensures.value,
      ) new;
      room = c.in_ok-upses.ensures.room;
    }
