use Rattle.std.proofs.Common.{◌∙◌, true, ap, refl, rules, length, arith}
use Rattle.nutcore.specs.Cost.{RunningServer}
use Rattle.nutcore.specs.declared.event.Event.TheVariants.{DriverBytes}
use Rattle.nutcore.proofs.DriverSteps.{stood_within, stood, bytes_do, bytes_noted}
use Rattle.nutcore.proofs.OneEvent.{done, plain_event, handed_on, no_driver, none_noted}
use Rattle.nutcore.proofs.server.Server.driver_bytes.Goals as goal

pub returns-in_err-connected : goal.returns-in_err-connected
returns-in_err-connected c =
    handed_on (DriverBytes c.args.u c.args.piece.now) done _ (λ f. refl) c.from_residual.ensures.1
    c.forget.ensures.begun c.forget.ensures.sound (no_driver _ c.args.u _ _ c.in_err-connected.ensures.refused refl)

pub index_mut-ups-requires : goal.index_mut-ups-requires
index_mut-ups-requires c = let within = stood_within _ _ c.args.u true c.self.view_is
    c.in_ok-connected.ensures.connected in search rules

pub report-requires : goal.report-requires
report-requires c = omega (
  arith,
  ap (λ (r : RunningServer). length r.notes) (c.self.view_is ∙ c.forget.ensures.begun),
)

pub returns : goal.returns
returns c =
    let at = stood c.self.view_is c.in_ok-connected.ensures.connected c.index_mut-ups.ensures.value in
    plain_event (DriverBytes c.args.u c.args.piece.now) tt (c.self.view_is ∙ c.forget.ensures.begun)
    c.self.invariant.sound refl (bytes_do at c.report.ensures)
    (bytes_noted c.args.piece.now at (none_noted (c.self.view_is ∙ c.forget.ensures.begun)) c.report.ensures)

pub invariant_of-self : goal.invariant_of-self
invariant_of-self c =
    let at = stood c.self.view_is c.in_ok-connected.ensures.connected c.index_mut-ups.ensures.value in
    record {
      sound = c.every_server_is_sound.ensures.event _ _ (DriverBytes c.args.u c.args.piece.now) _
          (bytes_do at c.report.ensures) c.self.invariant.sound;
      room = c.self.invariant.room;
    }
