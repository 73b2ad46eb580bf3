use Rattle.std.proofs.Common.{◌∙◌, sym, [], ◌∷◌, refl}
use Rattle.nutcore.specs.declared.event.Event.TheVariants.{DriverTook, DriverDown}
use Rattle.nutcore.specs.declared.event.Peer.TheVariants.{Driver}
use Rattle.nutcore.specs.DriverOrders.{owed_to_driver}
use Rattle.nutcore.specs.Parts.{ups_at}
use Rattle.nutloop.specs.declared.sockets.Ready.TheVariants.{Write}
use Rattle.nutloop.specs.Turn.{writes, took, failed}
use Rattle.nutloop.proofs.Rows.{row, row_of_nothing, does_quietly, does_from, writes_all, writes_nothing}
use Rattle.nutloop.proofs.Rows.{nothing_is_owed, owed_is}
use Rattle.nutloop.proofs.turns.Loop.write_driver.Goals as goal

pub returns-in_default : goal.returns-in_default
returns-in_default g c =
    row_of_nothing g.S.Sockets.told g.R.Record.holds (Write (Driver c.args.u)) c.args.self.now
    c.driver_offer.follows.lender-at-none c.driver_offer.follows.holds-at-none
    (nothing_is_owed c.args.u c.args.self.now.server.state c.in_default.ensures.bytes.1) refl

pub returns-then-is_empty : goal.returns-then-is_empty
returns-then-is_empty g c =
    let s = c.args.self.now.server.state in
    row_of_nothing g.S.Sockets.told g.R.Record.holds (Write (Driver c.args.u)) c.args.self.now
    c.driver_offer.follows.lender-at-none c.driver_offer.follows.holds-at-none
    (writes_nothing (Driver c.args.u) c.in-Ok.owed.now (owed_to_driver c.args.u s)
    (owed_is c.in-Ok.owed.now (ups_at c.args.u.place s) c.in-Ok.ensures.bytes)
    (sym c.is_empty.ensures ∙ c.if-is_empty.true)) refl

pub returns-in-Ok-write : goal.returns-in-Ok-write
returns-in-Ok-write g c =
    let s = c.args.self.now.server.state in
    row g.S.Sockets.told g.R.Record.holds (Write (Driver c.args.u)) (took c.in-Ok-write.n)
    (writes (Driver c.args.u) c.in-Ok.owed.now) (DriverTook c.args.u c.in-Ok-write.n ∷ []) c.args.self.now
    c.happens.new.self c.write.new.self
    (writes_all (Driver c.args.u) c.in-Ok.owed.now (owed_to_driver c.args.u s)
    (owed_is c.in-Ok.owed.now (ups_at c.args.u.place s) c.in-Ok.ensures.bytes)
    (sym c.is_empty.ensures ∙ c.if-is_empty.false)) refl c.in-Ok-write.ensures.bound c.in-Ok-write.ensures.told
    (does_from g.S.Sockets.told g.R.Record.holds (DriverTook c.args.u c.in-Ok-write.n ∷ []) c.args.self.now
    c.happens.new.self c.driver_offer.follows.lender-at-none c.write.new.self c.driver_offer.follows.holds-at-none
    (does_quietly g.S.Sockets.told g.R.Record.holds (DriverTook c.args.u c.in-Ok-write.n) c.happens.result
    (record c.args.self.now { server = c.driver_offer.follows.lender-at-none; sockets = c.write.new.self })
    c.happens.new.self c.happens.ensures refl))

pub returns-in-Err : goal.returns-in-Err
returns-in-Err g c =
    let s = c.args.self.now.server.state in
    row g.S.Sockets.told g.R.Record.holds (Write (Driver c.args.u)) failed
    (writes (Driver c.args.u) c.in-Ok.owed.now) (DriverDown c.args.u ∷ []) c.args.self.now
    c.lose.new.self c.write.new.self
    (writes_all (Driver c.args.u) c.in-Ok.owed.now (owed_to_driver c.args.u s)
    (owed_is c.in-Ok.owed.now (ups_at c.args.u.place s) c.in-Ok.ensures.bytes)
    (sym c.is_empty.ensures ∙ c.if-is_empty.false)) refl tt c.in-Err.ensures.told
    (does_from g.S.Sockets.told g.R.Record.holds (DriverDown c.args.u ∷ []) c.args.self.now c.lose.new.self
    c.driver_offer.follows.lender-at-none c.write.new.self c.driver_offer.follows.holds-at-none c.lose.ensures)
