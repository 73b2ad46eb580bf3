use Rattle.std.proofs.Common.{◌≡◌, ◌∙◌, refl, sym, List, subst, arith}
use Rattle.nutcore.specs.Session.{SessionState, without}
use Rattle.nutcore.specs.Server.{ServerState}
use Rattle.nutcore.specs.Sound.{IsSound}
use Rattle.nutcore.specs.contracts.server.Server.{the_view}
use Rattle.nutcore.specs.declared.event.Event.TheVariants.{Close}
use Rattle.nutcore.proofs.EventSteps.{close_present}
use Rattle.nutcore.proofs.Notes.{close_noted}
use Rattle.nutcore.proofs.OneEvent.{done, plain_event, handed_on, no_client, none_noted}
use Rattle.nutcore.proofs.Runs.{state_is}
use Rattle.nutcore.proofs.Serving.{stands, left_out}
use Rattle.nutcore.proofs.Sound.{sound_closed}
use Rattle.nutcore.proofs.server.Server.close.Goals as goal

pub returns-in_err-place : goal.returns-in_err-place
returns-in_err-place c =
    handed_on (Close c.args.c) done _ (λ f. refl) c.from_residual.ensures.1 c.forget.ensures.begun
    c.forget.ensures.sound (no_client _ c.args.c _ _ c.in_err-place.ensures.place refl)

pub invariant_of-self : goal.invariant_of-self
invariant_of-self c =
    let v : ServerState = (the_view c.self.inside).state in
    let here = stands (state_is c.self.view_is) c.in_ok-place.ensures.place c.index.ensures in
    let left : c.remove-session.new.self.items ≡ without c.args.c v.sessions =
    c.remove-session.ensures.by_index.2 ∙ sym
    (left_out 1 v.next_id c.args.c c.in_ok-place.place v.sessions c.self.invariant.sound.ids here.at) in
    record {
      sound = subst (λ (xs : List SessionState). let z : ServerState =
          record v { sessions = xs } in IsSound z) (sym left) (sound_closed v c.args.c c.self.invariant.sound);
      room = omega (arith, c.remove-session.ensures.capacity, c.self.invariant.room);
    }

pub returns : goal.returns
returns c =
    let v : ServerState = (the_view c.self.inside).state in
    let begins = c.self.view_is ∙ c.forget.ensures.begun in
    let here = stands (state_is c.self.view_is) c.in_ok-place.ensures.place c.index.ensures in
    let left : c.remove-session.new.self.items ≡ without c.args.c v.sessions =
    c.remove-session.ensures.by_index.2 ∙ sym
    (left_out 1 v.next_id c.args.c c.in_ok-place.place v.sessions c.self.invariant.sound.ids here.at) in
    plain_event (Close c.args.c) tt begins c.self.invariant.sound refl (close_present v c.args.c _ _ here.found left)
    (close_noted v c.args.c _ _ _ here.found (none_noted begins) c.note_logout.ensures)
