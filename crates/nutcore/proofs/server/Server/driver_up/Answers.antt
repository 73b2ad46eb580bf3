use Rattle.std.proofs.Common.{◌∙◌, Some, false, ap, refl, rules}
use Rattle.nutcore.specs.declared.event.Event.TheVariants.{DriverUp}
use Rattle.nutcore.specs.declared.event.Fault.TheVariants.{AlreadyConnected}
use Rattle.nutcore.proofs.DriverSteps.{stood_within, stood, connected_so, no_ups_read, up_again, up_does, up_noted}
use Rattle.nutcore.proofs.OneEvent.{done, plain_event, handed_on, refused_event, no_ups, none_noted}
use Rattle.nutcore.proofs.server.Server.driver_up.Goals as goal

pub returns-in_err-driver_connected : goal.returns-in_err-driver_connected
returns-in_err-driver_connected c =
    handed_on (DriverUp c.args.u) done _ (λ f. refl) c.from_residual.ensures.1 c.forget.ensures.begun
    c.forget.ensures.sound (no_ups _ c.args.u _ _ (no_ups_read _ _ c.in_err-driver_connected.ensures) refl)

pub returns-then-branch : goal.returns-then-branch
returns-then-branch c =
    refused_event (DriverUp c.args.u) AlreadyConnected c.forget.ensures.begun c.forget.ensures.sound
    (up_again _ c.args.u (connected_so _ _ c.in_ok-driver_connected.ensures ∙ ap Some c.if-branch.true))

pub index_mut-ups-requires : goal.index_mut-ups-requires
index_mut-ups-requires c = let within = stood_within _ _ c.args.u false c.self.view_is
    (connected_so _ _ c.in_ok-driver_connected.ensures ∙ ap Some c.if-branch.false) in search rules

pub returns : goal.returns
returns c =
    let at = stood c.self.view_is (connected_so _ _ c.in_ok-driver_connected.ensures ∙ ap Some c.if-branch.false)
    c.index_mut-ups.ensures.value in
    plain_event (DriverUp c.args.u) tt (c.self.view_is ∙ c.forget.ensures.begun) c.self.invariant.sound refl
    (up_does at c.connect.ensures.connected)
    (up_noted at (none_noted (c.self.view_is ∙ c.forget.ensures.begun)) c.connect.ensures.noted)

pub invariant_of-self : goal.invariant_of-self
invariant_of-self c =
    let at = stood c.self.view_is (connected_so _ _ c.in_ok-driver_connected.ensures ∙ ap Some c.if-branch.false)
    c.index_mut-ups.ensures.value in
    record {
      sound = c.every_server_is_sound.ensures.event _ _ (DriverUp c.args.u) _ (up_does at c.connect.ensures.connected)
          c.self.invariant.sound;
      room = c.self.invariant.room;
    }
