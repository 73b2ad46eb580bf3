use Rattle.std.proofs.Common.{◌≡◌, ◌<◌, ◌≤◌, ◌∙◌, ◌++◌, ◌∷◌, []}
use Rattle.std.proofs.Common.{true, false, refl, ap, subst, length, arith}
use Rattle.std.proofs.lemmas.Bool.{lt-ltb, le-ltb, and_left, and_right, and_from}
use Rattle.nutcore.specs.Session.{SessionState}
use Rattle.nutcore.specs.Server.{ServerState}
use Rattle.nutcore.specs.Step.{may_open}
use Rattle.nutcore.specs.contracts.server.Server.{the_view}
use Rattle.nutcore.specs.declared.event.Event.TheVariants.{Open}
use Rattle.nutcore.specs.declared.event.Fault.TheVariants.{TooManyClients}
use Rattle.nutcore.proofs.EventSteps.{open_full, open_refused, open_done}
use Rattle.nutcore.proofs.OneEvent.{plain_event, refused_event, none_noted}
use Rattle.nutcore.proofs.Runs.{state_is}
use Rattle.nutcore.proofs.Sound.{sound_opening}
use Rattle.nutcore.proofs.server.Server.open.Goals.{then-len-ge-SESSION_LIMIT-via-then-len-ge-SESSION_LIMIT}
use Rattle.nutcore.proofs.server.Server.open.Goals.{then-len-ge-SESSION_LIMIT-via-else-len-ge-SESSION_LIMIT+then-self}
use Rattle.nutcore.proofs.server.Server.open.Goals as goal

may_be_opened : (v : ServerState) → length v.sessions < 64 → v.next_id <
    18446744073709551616 → may_open v ≡ true
may_be_opened v some low = and_from _ _ (lt-ltb _ _ some) (lt-ltb _ _ low)

pub returns-then-len-ge-SESSION_LIMIT : goal.returns-then-len-ge-SESSION_LIMIT
returns-then-len-ge-SESSION_LIMIT c =
    let v : ServerState = (the_view c.self.inside).state in
    let full : may_open v ≡ false = elim c.then-len-ge-SESSION_LIMIT.branch [
      | then-len-ge-SESSION_LIMIT-via-then-len-ge-SESSION_LIMIT w ↦ and_left _ _
          (le-ltb _ _ (let le : 64 ≤ length v.sessions = omega arith in le))
      | then-len-ge-SESSION_LIMIT-via-else-len-ge-SESSION_LIMIT+then-self w ↦ and_right _ _
          (le-ltb _ _ (let le : 18446744073709551616 ≤ v.next_id = omega arith in le))
    ] in
    refused_event (Open c.args.address) TooManyClients c.forget.ensures.begun c.forget.ensures.sound
    (open_full _ _ (subst (λ (s : ServerState). may_open s ≡ false) (state_is c.self.view_is) full))

pub returns-in_default : goal.returns-in_default
returns-in_default c =
    let may = subst (λ (s : ServerState). may_open s ≡ true) (state_is c.self.view_is)
    (may_be_opened (the_view c.self.inside).state (omega arith) (omega arith)) in
    plain_event (Open c.args.address) tt c.forget.ensures.begun c.forget.ensures.sound refl (open_refused _ _ may)
    (none_noted c.forget.ensures.begun)

pub invariant_of-self : goal.invariant_of-self
invariant_of-self c =
    let more : c.push.new.self.items ≡ c.self.inside.sessions.items ++ c.in-Ok.session ∷ [] =
    rw c.unwrap.ensures at c.push.ensures.items in
    let may = may_be_opened (the_view c.self.inside).state (omega arith) (omega arith) in
    record {
      sound = sound_opening _ _ _ _ (open_done _ c.args.address _ may
          (more ∙ ap (λ (x : SessionState). c.self.inside.sessions.items ++ x ∷ [])
          c.in-Ok.ensures)) c.self.invariant.sound;
      room = omega (arith, c.push.ensures.capacity, c.self.invariant.room);
    }

pub returns : goal.returns
returns c =
    let begins = c.self.view_is ∙ c.forget.ensures.begun in
    let more : c.push.new.self.items ≡ c.self.inside.sessions.items ++ c.in-Ok.session ∷ [] =
    rw c.unwrap.ensures at c.push.ensures.items in
    let may = may_be_opened (the_view c.self.inside).state (omega arith) (omega arith) in
    plain_event (Open c.args.address) tt begins c.self.invariant.sound refl
    (open_done _ _ _ may (more ∙ ap
    (λ (x : SessionState). c.self.inside.sessions.items ++ x ∷ []) c.in-Ok.ensures))
    (none_noted begins)
