use Rattle.std.proofs.Common.{[], ◌∷◌, refl, Some, None, rules}
use Rattle.std.specs.Prelude.{IsTrue}
use Rattle.nutcore.specs.declared.event.Event.TheVariants.{Open}
use Rattle.nutcore.specs.declared.event.Outcome.TheVariants.{Opened}
use Rattle.nutwords.specs.Reading.{is_address}
use Rattle.nutloop.specs.declared.sockets.Ready.TheVariants.{Newcomer}
use Rattle.nutloop.specs.Turn.{accepts, newcomer}
use Rattle.nutloop.proofs.Rows.{row, does_nothing, does_then, refused_behind}
use Rattle.nutloop.proofs.turns.Loop.newcomer.Goals as goal

pub returns-in_default-accepted : goal.returns-in_default-accepted
returns-in_default-accepted g c =
    row g.S.Sockets.told g.R.Record.holds Newcomer (newcomer None) accepts [] c.args.self.now
    (record c.args.self.now { sockets = c.accept.new.self }) c.accept.new.self refl refl tt
    (rw c.in_default-accepted.is at c.in-Ok.ensures)
    (does_nothing g.S.Sockets.told g.R.Record.holds (record c.args.self.now { sockets = c.accept.new.self }))

pub returns-in-Opened : goal.returns-in-Opened
returns-in-Opened g c =
    let lawful : IsTrue (is_address c.in-Some.address) = search rules in
    row g.S.Sockets.told g.R.Record.holds Newcomer (newcomer (Some c.in-Some.address)) accepts
    (Open c.in-Some.address ∷ []) c.args.self.now (record c.happens.new.self { sockets = c.name.new.self })
    c.accept.new.self refl refl lawful (rw c.in-Some.is at c.in-Ok.ensures)
    (does_then g.S.Sockets.told g.R.Record.holds (Open c.in-Some.address) (Opened c.in-Opened.c)
    (record c.args.self.now { sockets = c.accept.new.self }) c.happens.new.self c.name.new.self _
    c.in-Opened.ensures refl c.name.ensures)

pub returns-in_default-happens : goal.returns-in_default-happens
returns-in_default-happens g c =
    let lawful : IsTrue (is_address c.in-Some.address) = search rules in
    row g.S.Sockets.told g.R.Record.holds Newcomer (newcomer (Some c.in-Some.address)) accepts
    (Open c.in-Some.address ∷ []) c.args.self.now (record c.happens.new.self { sockets = c.refuse.new.self })
    c.accept.new.self refl refl lawful (rw c.in-Some.is at c.in-Ok.ensures)
    (does_then g.S.Sockets.told g.R.Record.holds (Open c.in-Some.address) c.happens.result
    (record c.args.self.now { sockets = c.accept.new.self }) c.happens.new.self c.refuse.new.self _
    c.happens.ensures (refused_behind c.in-Some.address c.happens.result c.in_default-happens.not-Opened)
    c.refuse.ensures)
