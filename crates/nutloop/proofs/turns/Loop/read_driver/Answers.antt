use Rattle.std.proofs.Common.{◌≡◌, ℕ, ◌∙◌, sym, ap, subst, true, false, [], ◌∷◌}
use Rattle.std.proofs.Common.{refl, take, length, arith, length-take}
use Rattle.std.specs.Prelude.{◌≤◌, if◌then◌else◌}
use Rattle.nutcore.specs.declared.TheConstants.{DRIVER_READ_LIMIT}
use Rattle.nutcore.specs.declared.event.Event.TheVariants.{DriverBytes, DriverDown}
use Rattle.nutcore.specs.declared.event.Peer.TheVariants.{Driver}
use Rattle.nutcore.specs.Parts.{ups_at}
use Rattle.nutloop.specs.declared.sockets.Ready.TheVariants.{Read}
use Rattle.nutloop.specs.declared.sockets.Call.TheVariants.{Gave, Waits, Ended, Shut}
use Rattle.nutloop.specs.Sockets.{Answers}
use Rattle.nutloop.specs.Turn.{reads, gave, later, ended, failed, loses_driver}
use Rattle.nutloop.proofs.Rows.{row, row_unasked, does_nothing, does_quietly, does_then, driver_is, asks_driver}
use Rattle.nutloop.proofs.turns.Loop.read_driver.Goals as goal

pub returns-then-not-unwrap_or : goal.returns-then-not-unwrap_or
returns-then-not-unwrap_or g c =
    let s = c.args.self.now.server.state in
    row_unasked g.S.Sockets.told g.R.Record.holds (Read (Driver c.args.u)) [] c.args.self.now c.args.self.now
    (asks_driver c.args.u s false (driver_is c.driver_connected.result (ups_at c.args.u.place s)
    c.driver_connected.ensures ∙ sym c.unwrap_or.ensures ∙ c.if-not-unwrap_or.true)) refl
    (does_nothing g.S.Sockets.told g.R.Record.holds c.args.self.now)

pub returns-then-loses_driver : goal.returns-then-loses_driver
returns-then-loses_driver g c =
    let s = c.args.self.now.server.state in
    let n = c.in-Ok-Bytes.n in
    let front = take n c.read.new.into in
    let full : length {A = ℕ} c.read.new.into ≡ DRIVER_READ_LIMIT = omega (arith, c.read.auto.into) in
    let bound : n ≤ length c.read.new.into = rw c.in-Ok-Bytes.field-0-is at c.in-Ok-Bytes.ensures.bound in
    let lost : loses_driver c.comes-outcome.result ≡ true = sym c.loses_driver.ensures ∙ c.if-loses_driver.true in
    row g.S.Sockets.told g.R.Record.holds (Read (Driver c.args.u)) (gave front)
    (reads (Driver c.args.u) DRIVER_READ_LIMIT) (DriverBytes c.args.u front ∷ []) c.args.self.now
    (record c.comes-outcome.new.self { sockets = c.shut.new.self }) c.read.new.self
    (asks_driver c.args.u s true (driver_is c.driver_connected.result (ups_at c.args.u.place s)
    c.driver_connected.ensures ∙ sym c.unwrap_or.ensures ∙ c.if-not-unwrap_or.false)) refl
    (omega (arith, length-take n c.read.new.into))
    (subst (λ k. Answers (g.S.Sockets.told c.args.self.now.sockets)
    (Gave (Driver c.args.u) k front ∷ []) (g.S.Sockets.told c.read.new.self)) full
    (rw c.in-Ok-Bytes.field-0-is at c.in-Ok-Bytes.ensures.told))
    (does_then g.S.Sockets.told g.R.Record.holds (DriverBytes c.args.u front) c.comes-outcome.result
    (record c.args.self.now { sockets = c.read.new.self }) c.comes-outcome.new.self c.shut.new.self
    (Shut (Driver c.args.u) ∷ []) c.comes-outcome.ensures
    (ap (λ b. if b then Shut (Driver c.args.u) ∷ [] else []) lost) c.shut.ensures)

pub returns-else-loses_driver : goal.returns-else-loses_driver
returns-else-loses_driver g c =
    let s = c.args.self.now.server.state in
    let n = c.in-Ok-Bytes.n in
    let front = take n c.read.new.into in
    let full : length {A = ℕ} c.read.new.into ≡ DRIVER_READ_LIMIT = omega (arith, c.read.auto.into) in
    let bound : n ≤ length c.read.new.into = rw c.in-Ok-Bytes.field-0-is at c.in-Ok-Bytes.ensures.bound in
    let stays : loses_driver c.comes-outcome.result ≡ false = sym c.loses_driver.ensures ∙
    c.if-loses_driver.false in
    row g.S.Sockets.told g.R.Record.holds (Read (Driver c.args.u)) (gave front)
    (reads (Driver c.args.u) DRIVER_READ_LIMIT) (DriverBytes c.args.u front ∷ []) c.args.self.now
    c.comes-outcome.new.self c.read.new.self
    (asks_driver c.args.u s true (driver_is c.driver_connected.result (ups_at c.args.u.place s)
    c.driver_connected.ensures ∙ sym c.unwrap_or.ensures ∙ c.if-not-unwrap_or.false)) refl
    (omega (arith, length-take n c.read.new.into))
    (subst (λ k. Answers (g.S.Sockets.told c.args.self.now.sockets)
    (Gave (Driver c.args.u) k front ∷ []) (g.S.Sockets.told c.read.new.self)) full
    (rw c.in-Ok-Bytes.field-0-is at c.in-Ok-Bytes.ensures.told))
    (does_quietly g.S.Sockets.told g.R.Record.holds (DriverBytes c.args.u front) c.comes-outcome.result
    (record c.args.self.now { sockets = c.read.new.self }) c.comes-outcome.new.self
    c.comes-outcome.ensures (ap (λ b. if b then Shut (Driver c.args.u) ∷ [] else []) stays))

pub returns-in-Ok-Later : goal.returns-in-Ok-Later
returns-in-Ok-Later g c =
    let s = c.args.self.now.server.state in
    let full : length {A = ℕ} c.read.new.into ≡ DRIVER_READ_LIMIT = omega (arith, c.read.auto.into) in
    row g.S.Sockets.told g.R.Record.holds (Read (Driver c.args.u)) later
    (reads (Driver c.args.u) DRIVER_READ_LIMIT) [] c.args.self.now
    (record c.args.self.now { sockets = c.read.new.self }) c.read.new.self
    (asks_driver c.args.u s true (driver_is c.driver_connected.result (ups_at c.args.u.place s)
    c.driver_connected.ensures ∙ sym c.unwrap_or.ensures ∙ c.if-not-unwrap_or.false)) refl tt
    (subst (λ k. Answers (g.S.Sockets.told c.args.self.now.sockets) (Waits (Driver c.args.u) k ∷ [])
    (g.S.Sockets.told c.read.new.self)) full
    (rw c.in-Ok-Later.field-0-is at c.in-Ok-Later.ensures.told))
    (does_nothing g.S.Sockets.told g.R.Record.holds (record c.args.self.now { sockets = c.read.new.self }))

pub returns-in-Ok-End : goal.returns-in-Ok-End
returns-in-Ok-End g c =
    let s = c.args.self.now.server.state in
    let full : length {A = ℕ} c.read.new.into ≡ DRIVER_READ_LIMIT = omega (arith, c.read.auto.into) in
    row g.S.Sockets.told g.R.Record.holds (Read (Driver c.args.u)) ended
    (reads (Driver c.args.u) DRIVER_READ_LIMIT) (DriverDown c.args.u ∷ []) c.args.self.now
    c.lose.new.self c.read.new.self
    (asks_driver c.args.u s true (driver_is c.driver_connected.result (ups_at c.args.u.place s)
    c.driver_connected.ensures ∙ sym c.unwrap_or.ensures ∙ c.if-not-unwrap_or.false)) refl tt
    (subst (λ k. Answers (g.S.Sockets.told c.args.self.now.sockets) (Ended (Driver c.args.u) k ∷ [])
    (g.S.Sockets.told c.read.new.self)) full (rw c.in-Ok-End.field-0-is at c.in-Ok-End.ensures.told))
    c.lose.ensures

pub returns-in-Err : goal.returns-in-Err
returns-in-Err g c =
    let s = c.args.self.now.server.state in
    row g.S.Sockets.told g.R.Record.holds (Read (Driver c.args.u)) failed
    (reads (Driver c.args.u) DRIVER_READ_LIMIT) (DriverDown c.args.u ∷ []) c.args.self.now
    c.lose-in-Err.new.self c.read.new.self
    (asks_driver c.args.u s true (driver_is c.driver_connected.result (ups_at c.args.u.place s)
    c.driver_connected.ensures ∙ sym c.unwrap_or.ensures ∙ c.if-not-unwrap_or.false)) refl tt
    c.in-Err.ensures.told c.lose-in-Err.ensures
