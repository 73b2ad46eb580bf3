use Rattle.std.proofs.Common.{[], ◌∙◌, ap, refl}
use Rattle.nutcore.specs.declared.event.Event.TheVariants as event
use Rattle.nutcore.specs.declared.event.Peer.TheVariants.{Client, Driver}
use Rattle.nutloop.specs.declared.sockets.Ready.TheVariants.{Nothing, Tick, Id, DriverUp, Read, Write}
use Rattle.nutloop.proofs.Rows.{row_unasked, row_of_event, turn_of, does_nothing}
use Rattle.nutloop.proofs.turns.Loop.turn.Goals as goal

pub returns-in-Nothing : goal.returns-in-Nothing
returns-in-Nothing g c =
    turn_of g.S.Sockets.told g.R.Record.holds c.args.soon c.in_ok-ready.field-0 Nothing c.args.self.now
    c.ready.new.self c.ready.new.self c.forget.new.self c.forget.ensures.begun c.in-Nothing.is c.in_ok-ready.ensures
    (row_unasked g.S.Sockets.told g.R.Record.holds Nothing [] c.ready.new.self c.ready.new.self refl refl
    (does_nothing g.S.Sockets.told g.R.Record.holds c.ready.new.self))

pub returns-in-Tick : goal.returns-in-Tick
returns-in-Tick g c =
    turn_of g.S.Sockets.told g.R.Record.holds c.args.soon c.in_ok-ready.field-0 (Tick c.in-Tick.seconds)
    c.args.self.now c.ready.new.self c.happens.new.self c.forget.new.self c.forget.ensures.begun c.in-Tick.is
    c.in_ok-ready.ensures
    (row_of_event g.S.Sockets.told g.R.Record.holds (Tick c.in-Tick.seconds) (event.Tick c.in-Tick.seconds)
    c.happens.result c.ready.new.self c.happens.new.self refl refl c.happens.ensures refl)

pub returns-in-Id : goal.returns-in-Id
returns-in-Id g c =
    turn_of g.S.Sockets.told g.R.Record.holds c.args.soon c.in_ok-ready.field-0 (Id c.in-Id.id)
    c.args.self.now c.ready.new.self c.happens-in-Id.new.self c.forget.new.self c.forget.ensures.begun c.in-Id.is
    c.in_ok-ready.ensures
    (row_of_event g.S.Sockets.told g.R.Record.holds (Id c.in-Id.id) (event.Id c.in-Id.id)
    c.happens-in-Id.result c.ready.new.self c.happens-in-Id.new.self refl refl c.happens-in-Id.ensures refl)

pub returns-in-DriverUp : goal.returns-in-DriverUp
returns-in-DriverUp g c =
    turn_of g.S.Sockets.told g.R.Record.holds c.args.soon c.in_ok-ready.field-0 (DriverUp c.in-DriverUp.u)
    c.args.self.now c.ready.new.self c.happens-in-DriverUp.new.self c.forget.new.self c.forget.ensures.begun
    c.in-DriverUp.is c.in_ok-ready.ensures
    (row_of_event g.S.Sockets.told g.R.Record.holds (DriverUp c.in-DriverUp.u) (event.DriverUp c.in-DriverUp.u)
    c.happens-in-DriverUp.result c.ready.new.self c.happens-in-DriverUp.new.self refl refl
    c.happens-in-DriverUp.ensures refl)

pub returns-in-Read-Client : goal.returns-in-Read-Client
returns-in-Read-Client g c =
    turn_of g.S.Sockets.told g.R.Record.holds c.args.soon c.in_ok-ready.field-0 (Read (Client c.in-Read-Client.c))
    c.args.self.now c.ready.new.self c.read_client.new.self c.forget.new.self c.forget.ensures.begun
    (c.in-Read-Client.is ∙ ap Read c.in-Read-Client.field-0-is) c.in_ok-ready.ensures c.read_client.ensures

pub returns-in-Read-Driver : goal.returns-in-Read-Driver
returns-in-Read-Driver g c =
    turn_of g.S.Sockets.told g.R.Record.holds c.args.soon c.in_ok-ready.field-0 (Read (Driver c.in-Read-Driver.u))
    c.args.self.now c.ready.new.self c.read_driver.new.self c.forget.new.self c.forget.ensures.begun
    (c.in-Read-Driver.is ∙ ap Read c.in-Read-Driver.field-0-is) c.in_ok-ready.ensures c.read_driver.ensures

pub returns-in-Write-Client : goal.returns-in-Write-Client
returns-in-Write-Client g c =
    turn_of g.S.Sockets.told g.R.Record.holds c.args.soon c.in_ok-ready.field-0 (Write (Client c.in-Write-Client.c))
    c.args.self.now c.ready.new.self c.write_client.new.self c.forget.new.self c.forget.ensures.begun
    (c.in-Write-Client.is ∙ ap Write c.in-Write-Client.field-0-is) c.in_ok-ready.ensures c.write_client.ensures

pub returns-in-Write-Driver : goal.returns-in-Write-Driver
returns-in-Write-Driver g c =
    turn_of g.S.Sockets.told g.R.Record.holds c.args.soon c.in_ok-ready.field-0 (Write (Driver c.in-Write-Driver.u))
    c.args.self.now c.ready.new.self c.write_driver.new.self c.forget.new.self c.forget.ensures.begun
    (c.in-Write-Driver.is ∙ ap Write c.in-Write-Driver.field-0-is) c.in_ok-ready.ensures c.write_driver.ensures
