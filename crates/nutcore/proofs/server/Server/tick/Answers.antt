use Rattle.std.proofs.Common.{◌∙◌, ℕ, refl, sym, ap, subst, take}
use Rattle.nutcore.specs.Notes.{tick_notes}
use Rattle.nutcore.specs.Server.{ServerState}
use Rattle.nutcore.specs.Sound.{IsSound}
use Rattle.nutcore.specs.contracts.server.Server.{the_view}
use Rattle.nutcore.specs.declared.event.Event.TheVariants.{Tick}
use Rattle.nutcore.specs.declared.note.TheConstants.{NOTE_LIMIT}
use Rattle.nutcore.proofs.DriverSteps.{ticked_is, tick_done}
use Rattle.nutcore.proofs.OneEvent.{plain_event}
use Rattle.nutcore.proofs.Sound.{sound_ticked}
use Rattle.nutcore.proofs.server.Server.tick.Goals as goal

pub returns : goal.returns
returns c =
    let v : ServerState = (the_view c.self.inside).state in
    plain_event (Tick c.args.seconds) tt (c.self.view_is ∙ c.forget.ensures.begun) c.self.invariant.sound refl
    (tick_done v _ c.args.seconds
    (ticked_is v c.args.seconds _ _ _ c.max-moment.ensures refl c.ping_upses.ensures.pinged))
    (c.note_stale.ensures ∙ ap (λ (moment : ℕ). take NOTE_LIMIT (tick_notes v.max_age v.moment moment 0 v.upses))
    c.max-moment.ensures)

pub invariant_of-self : goal.invariant_of-self
invariant_of-self c =
    let v : ServerState = (the_view c.self.inside).state in
    record {
      sound =
          subst IsSound (sym (ticked_is v c.args.seconds c.max-moment.result _
          c.ping_upses.new.upses.items c.max-moment.ensures refl c.ping_upses.ensures.pinged))
          (sound_ticked v c.args.seconds c.self.invariant.sound);
      room = c.self.invariant.room;
    }
