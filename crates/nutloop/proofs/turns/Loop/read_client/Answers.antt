use Rattle.std.proofs.Common.{◌≡◌, ℕ, [], ◌∷◌, refl, ap, subst, ◌∙◌, take}
use Rattle.std.proofs.Common.{length, arith, length-take}
use Rattle.std.specs.Prelude.{◌≤◌, is_some, if◌then◌else◌}
use Rattle.nutcore.specs.declared.event.Event.TheVariants.{Feed, Close}
use Rattle.nutcore.specs.declared.event.Peer.TheVariants.{Client}
use Rattle.nutcore.specs.Server.{session}
use Rattle.nutloop.specs.declared.sockets.Ready.TheVariants.{Read}
use Rattle.nutloop.specs.declared.sockets.Call.TheVariants.{Gave, Waits, Ended}
use Rattle.nutloop.specs.Sockets.{Answers}
use Rattle.nutloop.specs.Turn.{reads, gave, later, ended, failed}
use Rattle.nutloop.proofs.Rows.{row, row_unasked, does_nothing, does_quietly, is_absent, is_there}
use Rattle.nutloop.proofs.Rows.{room_is_asked, asks_read, asks_nobody, asks_nobody_there}
use Rattle.nutloop.proofs.turns.Loop.read_client.Goals as goal

pub returns-in_default : goal.returns-in_default
returns-in_default g c =
    let none : session c.args.c c.args.self.now.server.state ≡ _ =
    is_absent c.in_default.field-0 (session c.args.c c.args.self.now.server.state) c.in_default.ensures in
    row_unasked g.S.Sockets.told g.R.Record.holds (Read (Client c.args.c)) [] c.args.self.now c.args.self.now
    (asks_nobody_there c.args.c c.args.self.now.server.state none)
    (ap (λ o. if is_some o then Feed c.args.c [] ∷ [] else []) none)
    (does_nothing g.S.Sockets.told g.R.Record.holds c.args.self.now)

pub returns-then-standing-eq0 : goal.returns-then-standing-eq0
returns-then-standing-eq0 g c =
    let s = c.args.self.now.server.state in
    row_unasked g.S.Sockets.told g.R.Record.holds (Read (Client c.args.c)) (Feed c.args.c [] ∷ [])
    c.args.self.now c.comes.new.self
    (asks_nobody c.args.c c.in-Ok.standing s c.in-Ok.ensures c.if-standing-eq0.true)
    (ap (λ b. if b then Feed c.args.c [] ∷ [] else [])
    (is_there c.in-Ok.standing (session c.args.c s) c.in-Ok.ensures))
    (does_quietly g.S.Sockets.told g.R.Record.holds (Feed c.args.c []) c.comes.result c.args.self.now
    c.comes.new.self c.comes.ensures refl)

pub returns-in-Ok-Bytes : goal.returns-in-Ok-Bytes
returns-in-Ok-Bytes g c =
    let s = c.args.self.now.server.state in
    let n = c.in-Ok-Bytes.n in
    let front = take n c.read.new.into in
    let bound : n ≤ length c.read.new.into = rw c.in-Ok-Bytes.field-0-is at c.in-Ok-Bytes.ensures.bound in
    let full : length {A = ℕ} c.read.new.into ≡ c.in-Ok.standing.room = c.read.auto.into ∙
    room_is_asked c.in-Ok.standing (session c.args.c s) c.in-Ok.ensures in
    row g.S.Sockets.told g.R.Record.holds (Read (Client c.args.c)) (gave front)
    (reads (Client c.args.c) c.in-Ok.standing.room) (Feed c.args.c front ∷ []) c.args.self.now
    c.comes-in-Ok-Bytes.new.self c.read.new.self
    (asks_read c.args.c c.in-Ok.standing s c.in-Ok.ensures c.if-standing-eq0.false) refl
    (omega (arith, length-take {A = ℕ} n c.read.new.into))
    (subst (λ k. Answers (g.S.Sockets.told c.args.self.now.sockets)
    (Gave (Client c.args.c) k front ∷ []) (g.S.Sockets.told c.read.new.self)) full
    (rw c.in-Ok-Bytes.field-0-is at c.in-Ok-Bytes.ensures.told))
    (does_quietly g.S.Sockets.told g.R.Record.holds (Feed c.args.c front) c.comes-in-Ok-Bytes.result
    (record c.args.self.now { sockets = c.read.new.self }) c.comes-in-Ok-Bytes.new.self
    c.comes-in-Ok-Bytes.ensures refl)

pub returns-in-Ok-Later : goal.returns-in-Ok-Later
returns-in-Ok-Later g c =
    let s = c.args.self.now.server.state in
    let full : length {A = ℕ} c.read.new.into ≡ c.in-Ok.standing.room = c.read.auto.into ∙
    room_is_asked c.in-Ok.standing (session c.args.c s) c.in-Ok.ensures in
    row g.S.Sockets.told g.R.Record.holds (Read (Client c.args.c)) later
    (reads (Client c.args.c) c.in-Ok.standing.room) [] c.args.self.now
    (record c.args.self.now { sockets = c.read.new.self }) c.read.new.self
    (asks_read c.args.c c.in-Ok.standing s c.in-Ok.ensures c.if-standing-eq0.false) refl tt
    (subst (λ k. Answers (g.S.Sockets.told c.args.self.now.sockets) (Waits (Client c.args.c) k ∷ [])
    (g.S.Sockets.told c.read.new.self)) full (rw c.in-Ok-Later.field-0-is at c.in-Ok-Later.ensures.told))
    (does_nothing g.S.Sockets.told g.R.Record.holds (record c.args.self.now { sockets = c.read.new.self }))

pub returns-in-Ok-End : goal.returns-in-Ok-End
returns-in-Ok-End g c =
    let s = c.args.self.now.server.state in
    let full : length {A = ℕ} c.read.new.into ≡ c.in-Ok.standing.room = c.read.auto.into ∙
    room_is_asked c.in-Ok.standing (session c.args.c s) c.in-Ok.ensures in
    row g.S.Sockets.told g.R.Record.holds (Read (Client c.args.c)) ended
    (reads (Client c.args.c) c.in-Ok.standing.room) (Close c.args.c ∷ []) c.args.self.now c.lose.new.self
    c.read.new.self
    (asks_read c.args.c c.in-Ok.standing s c.in-Ok.ensures c.if-standing-eq0.false) refl tt
    (subst (λ k. Answers (g.S.Sockets.told c.args.self.now.sockets) (Ended (Client c.args.c) k ∷ [])
    (g.S.Sockets.told c.read.new.self)) full (rw c.in-Ok-End.field-0-is at c.in-Ok-End.ensures.told))
    c.lose.ensures

pub returns-in-Err : goal.returns-in-Err
returns-in-Err g c =
    row g.S.Sockets.told g.R.Record.holds (Read (Client c.args.c)) failed
    (reads (Client c.args.c) c.in-Ok.standing.room) (Close c.args.c ∷ []) c.args.self.now
    c.lose-in-Err.new.self c.read.new.self
    (asks_read c.args.c c.in-Ok.standing c.args.self.now.server.state c.in-Ok.ensures
    c.if-standing-eq0.false) refl tt c.in-Err.ensures.told c.lose-in-Err.ensures
