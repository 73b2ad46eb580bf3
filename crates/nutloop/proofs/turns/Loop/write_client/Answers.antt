use Rattle.std.proofs.Common.{◌∙◌, ◌≡◌, sym, [], ◌∷◌, refl, ap, true, false}
use Rattle.std.specs.Prelude.{if◌then◌else◌}
use Rattle.nutcore.specs.declared.event.Event.TheVariants.{Took, Close}
use Rattle.nutcore.specs.declared.event.Peer.TheVariants.{Client}
use Rattle.nutcore.specs.Server.{session}
use Rattle.nutcore.specs.Step.{offered}
use Rattle.nutcore.specs.Cost.{RunningServer}
use Rattle.nutloop.specs.declared.sockets.Ready.TheVariants.{Write}
use Rattle.nutloop.specs.Turn.{writes, took, failed, is_finished_at}
use Rattle.nutloop.proofs.Rows.{row, row_unasked, row_of_nothing, does_quietly, does_from, writes_all}
use Rattle.nutloop.proofs.Rows.{writes_nothing, nothing_is_offered, nobody_ends, finished_is}
use Rattle.nutloop.proofs.turns.Loop.write_client.Goals as goal

pub returns-in_default : goal.returns-in_default
returns-in_default g c =
    let s = c.args.self.now.server.state in
    row_of_nothing g.S.Sockets.told g.R.Record.holds (Write (Client c.args.c)) c.args.self.now
    c.offer.follows.lender-at-none c.offer.follows.holds-at-none
    (nothing_is_offered c.args.c s c.in_default.ensures.bytes.1)
    (nobody_ends c.args.c s c.in_default.ensures.bytes.1)

pub returns-then-unwrap_or : goal.returns-then-unwrap_or
returns-then-unwrap_or g c =
    let s = c.args.self.now.server.state in
    let same = c.offer.follows.holds-at-none in
    let ends : is_finished_at c.args.c s ≡ true =
    ap (λ (r : RunningServer). is_finished_at c.args.c r.state) (sym same) ∙
    finished_is c.finished.result (session c.args.c c.offer.follows.lender-at-none.state) c.finished.ensures ∙
    sym c.unwrap_or.ensures ∙ c.if-unwrap_or.true in
    row_unasked g.S.Sockets.told g.R.Record.holds (Write (Client c.args.c)) (Close c.args.c ∷ [])
    c.args.self.now c.lose.new.self
    (writes_nothing (Client c.args.c) c.in-Ok.offered.now (offered (session c.args.c s))
    c.in-Ok.ensures.bytes.1 (sym c.is_empty.ensures ∙ c.if-is_empty.true))
    (ap (λ b. if b then Close c.args.c ∷ [] else []) ends)
    (does_from g.S.Sockets.told g.R.Record.holds (Close c.args.c ∷ []) c.args.self.now c.lose.new.self
    c.offer.follows.lender-at-none c.args.self.now.sockets same c.lose.ensures)

pub returns-else-unwrap_or : goal.returns-else-unwrap_or
returns-else-unwrap_or g c =
    let s = c.args.self.now.server.state in
    let same = c.offer.follows.holds-at-none in
    let stays : is_finished_at c.args.c s ≡ false =
    ap (λ (r : RunningServer). is_finished_at c.args.c r.state) (sym same) ∙
    finished_is c.finished.result (session c.args.c c.offer.follows.lender-at-none.state) c.finished.ensures ∙
    sym c.unwrap_or.ensures ∙ c.if-unwrap_or.false in
    row_of_nothing g.S.Sockets.told g.R.Record.holds (Write (Client c.args.c)) c.args.self.now
    c.offer.follows.lender-at-none same
    (writes_nothing (Client c.args.c) c.in-Ok.offered.now (offered (session c.args.c s))
    c.in-Ok.ensures.bytes.1 (sym c.is_empty.ensures ∙ c.if-is_empty.true))
    (ap (λ b. if b then Close c.args.c ∷ [] else []) stays)

pub returns-in-Ok-write : goal.returns-in-Ok-write
returns-in-Ok-write g c =
    let s = c.args.self.now.server.state in
    row g.S.Sockets.told g.R.Record.holds (Write (Client c.args.c)) (took c.in-Ok-write.n)
    (writes (Client c.args.c) c.in-Ok.offered.now) (Took c.args.c c.in-Ok-write.n ∷ []) c.args.self.now
    c.happens.new.self c.write.new.self
    (writes_all (Client c.args.c) c.in-Ok.offered.now (offered (session c.args.c s))
    c.in-Ok.ensures.bytes.1 (sym c.is_empty.ensures ∙ c.if-is_empty.false)) refl
    c.in-Ok-write.ensures.bound c.in-Ok-write.ensures.told
    (does_from g.S.Sockets.told g.R.Record.holds (Took c.args.c c.in-Ok-write.n ∷ []) c.args.self.now
    c.happens.new.self c.offer.follows.lender-at-none c.write.new.self c.offer.follows.holds-at-none
    (does_quietly g.S.Sockets.told g.R.Record.holds (Took c.args.c c.in-Ok-write.n) c.happens.result
    (record c.args.self.now { server = c.offer.follows.lender-at-none; sockets = c.write.new.self })
    c.happens.new.self c.happens.ensures refl))

pub returns-in-Err : goal.returns-in-Err
returns-in-Err g c =
    let s = c.args.self.now.server.state in
    row g.S.Sockets.told g.R.Record.holds (Write (Client c.args.c)) failed
    (writes (Client c.args.c) c.in-Ok.offered.now) (Close c.args.c ∷ []) c.args.self.now
    c.lose-in-Err.new.self c.write.new.self
    (writes_all (Client c.args.c) c.in-Ok.offered.now (offered (session c.args.c s))
    c.in-Ok.ensures.bytes.1 (sym c.is_empty.ensures ∙ c.if-is_empty.false)) refl tt c.in-Err.ensures.told
    (does_from g.S.Sockets.told g.R.Record.holds (Close c.args.c ∷ []) c.args.self.now c.lose-in-Err.new.self
    c.offer.follows.lender-at-none c.write.new.self c.offer.follows.holds-at-none c.lose-in-Err.ensures)
