use Rattle.std.proofs.Common.{◌∙◌, true, refl, rules}
use Rattle.nutcore.specs.declared.event.Event.TheVariants.{DriverDown}
use Rattle.nutcore.proofs.DriverSteps.{stood_within, stood, down_does, down_noted}
use Rattle.nutcore.proofs.OneEvent.{done, plain_event, handed_on, no_driver, none_noted}
use Rattle.nutcore.proofs.server.Server.driver_down.Goals as goal

pub returns-in_err-connected : goal.returns-in_err-connected
returns-in_err-connected c =
    handed_on (DriverDown c.args.u) done _ (λ f. refl) c.from_residual.ensures.1 c.forget.ensures.begun
    c.forget.ensures.sound (no_driver _ c.args.u _ _ c.in_err-connected.ensures.refused refl)

pub index_mut-ups-requires : goal.index_mut-ups-requires
index_mut-ups-requires c = let within = stood_within _ _ c.args.u true c.self.view_is
    c.in_ok-connected.ensures.connected in search rules

pub returns : goal.returns
returns c =
    let at = stood c.self.view_is c.in_ok-connected.ensures.connected c.index_mut-ups.ensures.value in
    plain_event (DriverDown c.args.u) tt (c.self.view_is ∙ c.forget.ensures.begun) c.self.invariant.sound refl
    (down_does at c.lose-tree.ensures.lost)
    (down_noted at (none_noted (c.self.view_is ∙ c.forget.ensures.begun)) c.lose-tree.ensures.noted)

pub invariant_of-self : goal.invariant_of-self
invariant_of-self c =
    let at = stood c.self.view_is c.in_ok-connected.ensures.connected c.index_mut-ups.ensures.value in
    record {
      sound = c.every_server_is_sound.ensures.event _ _ (DriverDown c.args.u) _ (down_does at c.lose-tree.ensures.lost)
          c.self.invariant.sound;
      room = c.self.invariant.room;
    }
