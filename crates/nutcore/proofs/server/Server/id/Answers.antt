use Rattle.std.proofs.Common.{◌≡◌, ◌∙◌, ap, refl, subst, sym, Option, Some, None, Result}
use Rattle.std.specs.Prelude.{MatchResult}
use Rattle.nuttracking.specs.declared.tracking.IdFault.{IdFault}
use Rattle.nuttracking.specs.Acts.Act.{handed_in as id_handed_in}
use Rattle.nuttracking.specs.Tracking.{TrackingState, id_fault}
use Rattle.nutcore.specs.Server.{ServerState}
use Rattle.nutcore.specs.Parts.{with_tracking}
use Rattle.nutcore.specs.DriverEvents.{id_outcome}
use Rattle.nutcore.specs.contracts.server.Server.{the_view}
use Rattle.nutcore.specs.declared.event.Event.TheVariants.{Id}
use Rattle.nutcore.proofs.EventSteps.{id_handed}
use Rattle.nutcore.proofs.OneEvent.{done, plain_event, none_noted}
use Rattle.nutcore.proofs.Sound.{IsTracked, act_tracked, is_tracked, tracking_sound}
use Rattle.nutcore.proofs.server.Server.id.Goals.{in-Ok, in-Err-Known, in-Err-TooMany}
use Rattle.nutcore.proofs.server.Server.id.Goals as goal

pub invariant_of-self : goal.invariant_of-self
invariant_of-self c =
    let v : ServerState = (the_view c.self.inside).state in
    record {
      sound = tracking_sound v c.take_in.new.self
          (subst IsTracked (sym c.take_in.ensures.after)
          (act_tracked v.tracking (id_handed_in c.args.id) tt
          (is_tracked v c.self.invariant.sound))) c.self.invariant.sound;
      room = c.self.invariant.room;
    }

pub returns : goal.returns
returns c =
    let v : ServerState = (the_view c.self.inside).state in
    let begins = c.self.view_is ∙ c.forget.ensures.begun in
    let o : Option IdFault = id_fault c.args.id v.tracking in
    let told : done c.match-take_in.result ≡ id_outcome o = elim c.match-take_in.branch [
      | in-Ok w ↦ ap done w.result-is ∙
          ap id_outcome
          (sym (subst (λ (r : Result (Unit {0}) IdFault). MatchResult r (λ _. o ≡ None)
          (λ fault. o ≡ Some fault)) w.in-Ok.is c.take_in.ensures.answer))
      | in-Err-Known w ↦ ap done w.result-is ∙
          ap id_outcome (sym (w.in-Err-Known.ensures.answer ∙
          ap (λ (f : IdFault). Some f) w.in-Err-Known.field-0-is))
      | in-Err-TooMany w ↦ ap done w.result-is ∙
          ap id_outcome (sym (w.in-Err-TooMany.ensures.answer ∙
          ap (λ (f : IdFault). Some f) w.in-Err-TooMany.field-0-is))
    ] in
    plain_event (Id c.args.id) tt begins c.self.invariant.sound refl
    (id_handed v _ c.args.id _ told (ap (λ (t : TrackingState). with_tracking t v) c.take_in.ensures.after))
    (none_noted begins)
