-- How much one event makes a server do for its clients.
use Rattle.std.proofs.Common.{◌≡◌, ℕ, ◌+◌, ◌-◌, ◌≤◌, Bool, true, List, []}
use Rattle.std.proofs.Common.{Option, Some, None, refl, ◌∙◌, ap, cond, eqb, arith, length}
use Rattle.std.proofs.Common.{take, drop, length-append, length-take, length-drop}
use Rattle.std.proofs.lemmas.Bool.{cond_both, cond-true, eq-eqb, leb-true}
use Rattle.nutlisting.specs.declared.outbox.TheConstants.{QUEUE_LIMIT}
use Rattle.nutlisting.proofs.PublicLaws.{lines_add_up}
use Rattle.nutcore.specs.declared.TheConstants.{HELD_LIMIT}
use Rattle.nutcore.specs.declared.cost.Cost.{Cost}
use Rattle.nutcore.proofs.Common.{flat_map-append, Event, SessionState, ServerState, session}
use Rattle.nutcore.specs.declared.event.Event.TheVariants.{Feed, Took}
use Rattle.nutcore.specs.Reply.{reply, too_long_notice}
use Rattle.nutcore.specs.Pump.{answered, held_of, owed_of}
use Rattle.nutcore.specs.Step.{accepted_bytes, with_input, without_output, may_take, offered, refused_after}
use Rattle.nutcore.specs.History.{Execution, executions_until, executions_by, of_client, text_of}
use Rattle.nutcore.specs.History.{texts_of, taken_in_event, asked_in_event}
use Rattle.nutcore.specs.Cost.{cost_between, cost_of}
use Rattle.nutcore.specs.Sound.{IsSound, IsSoundSession}
use Rattle.nutcore.specs.Bounded.{EachEventIsBounded}
use Rattle.nutcore.proofs.Changes.{keeps}
use Rattle.nutcore.proofs.Events.{of_event}
use Rattle.nutcore.proofs.Histories.{IsOfClient, of_event_of_client, of_its_pump, own_or_other}
use Rattle.nutcore.proofs.Loops.{session_shortens}
use Rattle.nutcore.proofs.Progress.{Presence}
use Rattle.nutcore.proofs.Pumping.{change_at}
use Rattle.nutcore.proofs.Sound.{each_found}

-- what a client takes and is owed was owed and is answered; and each execution of it, with what it
-- holds, had a byte that was held or came
pub record IsMeasured (before : Presence) (xs : List Execution) (taken asked : List ℕ)
    (after : Presence) : Type 0 where
  pub owes : length taken + length (owed_of after.session) ≤ length (owed_of before.session) + length (texts_of xs)
  pub holds : length xs + length (held_of after.session) ≤ length (held_of before.session) + length asked

pub measures : IsOfClient IsMeasured
measures = record {
  joins = λ p q r xs ys k k' a a' f g. record {
    owes = omega (
      arith,
      f.owes,
      g.owes,
      ap (λ (zs : List ℕ). length zs) (flat_map-append text_of xs ys),
      length-append (texts_of xs) (texts_of ys),
      length-append k k',
    );
    holds = omega (arith, f.holds, g.holds, length-append xs ys, length-append a a');
  };
  stays = λ o u v up. record { owes = omega arith; holds = omega arith };
  by_line = λ c s line n u. record {
    owes =
        let owed = ap (λ (bytes : List ℕ). length bytes)
        (keeps (change_at s c line) (answered line (reply s c line) n.asking)).owed in
        omega (arith, owed, length-append n.asking.owed (reply s c line), length-append (reply s c line) []);
    holds = omega (arith, session_shortens s c line n);
  };
  by_notice = λ c s x u long. record {
    owes = omega (arith, length-append x.owed too_long_notice, length-append too_long_notice []);
    holds = grind (arith, long);
  };
  by_input = λ piece x u. record {
    owes = omega arith;
    holds = omega (arith, length-append x.held (accepted_bytes (Some x) piece));
  };
  by_output = λ n x u. record {
    owes = omega (arith, length-take n x.owed, length-drop n x.owed);
    holds = omega arith;
  };
  opens = λ id address. record { owes = omega arith; holds = omega arith };
  closes = λ x u. record { owes = omega arith; holds = omega arith };
}

pub held_sound : (s : ServerState) (c : ℕ) → IsSound s → (o : Option SessionState) →
    session c s ≡ o → length (held_of o) ≤ HELD_LIMIT
held_sound s c h None e = omega arith
held_sound s c h (Some x) e = (each_found IsSoundSession c s.sessions x e h.sessions).held

pub accepted_few : (o : Option SessionState) (piece : List ℕ) → length (held_of o) ≤
    HELD_LIMIT → length (held_of o) + length (accepted_bytes o piece) ≤ HELD_LIMIT
accepted_few o piece le = grind (arith, length-take {A = ℕ})

-- so are all that an event executes
pub executions_few : (s : ServerState) (e : Event) (m : Option ℕ) → IsSound s →
    length (executions_by s e m) ≤ HELD_LIMIT
unfolding executions_by asked_in_event
executions_few s e m h =
    let held = λ (c : ℕ). held_sound s c h (session c s) refl in
    of_event (λ e. length (executions_by s e m) ≤ HELD_LIMIT) (λ e silent. rw (silent.executes s m) (omega arith))
    (λ c piece.
    let few = (of_event_of_client IsMeasured measures c s (Feed c piece) m).holds in
    let own = ap (λ (xs : List Execution). length xs)
    (of_its_pump c c (with_input s c piece) m ∙ cond-true _ _ _ (eq-eqb c c refl)) in
    let came = ap (λ (b : Bool). length (cond b (accepted_bytes (session c s) piece) [])) (eq-eqb c c refl) in
    omega (arith, few, accepted_few (session c s) piece (held c), own, came))
    (λ c n.
    let few = (of_event_of_client IsMeasured measures c s (Took c n) m).holds in
    let own = cond_both (may_take (session c s) n) (executions_until (without_output s c n) c m) []
    (λ xs. length (of_client c xs) ≡ length xs)
    (λ may. ap (λ (xs : List Execution). length xs)
    (of_its_pump c c (without_output s c n) m ∙ cond-true _ _ _ (eq-eqb c c refl))) (λ never. refl) in
    omega (arith, few, held c, own))
    e

-- what a client took was offered
took_offered : (o : Option SessionState) (n : ℕ) → may_take o n ≡ true →
    length (take n (owed_of o)) ≤ length (offered o)
took_offered None n may = cc may
took_offered (Some x) n may = let le : n ≤ length (offered (Some x)) = leb-true _ _ may in
    omega (arith, le, length-take n x.owed)

taken_few : (c : ℕ) (s : ServerState) (e : Event) → length (taken_in_event c s e) ≤ length (offered (session c s))
unfolding taken_in_event
taken_few c s e =
    of_event (λ e. length (taken_in_event c s e) ≤ length (offered (session c s)))
    (λ e silent. rw (silent.takes c s) (omega arith))
    (λ d piece. omega arith)
    (λ d n. cond_both (may_take (session d s) n)
    (cond (eqb d c) (take n (owed_of (session d s))) []) []
    (λ (bytes : List ℕ). length bytes ≤ length (offered (session c s)))
    (λ may. own_or_other c d (λ z b. length (cond b (take n (owed_of (session d s))) []) ≤
    length (offered (session z s))) (took_offered (session d s) n may) (λ differ. omega arith))
    (λ never. omega arith)) e

-- a queue's worth of bytes is placed, and each line that is rendered has a byte of it
abbrev FewIn : Cost → Type 0
FewIn cost = (cost.placed ≤ QUEUE_LIMIT) × (cost.rendered ≤ cost.placed)

client_few : (before after : List ℕ) (taken : ℕ) → taken ≤ length before →
    length after ≤ QUEUE_LIMIT → FewIn (cost_between before taken after)
client_few before after taken le few =
    let placed : ℕ = length after + taken - length before in (
      omega (arith, le, few),
      omega (
        arith,
        lines_add_up.few (drop (length after - placed) after),
        length-drop (length after - placed) after,
      ),
    )

cost_few : (old new : ServerState) (e : Event) → FewIn (cost_of old e new)
cost_few old new e =
    of_event (λ e. FewIn (cost_of old e new)) (λ e silent. rw (silent.costs old new) (omega arith, omega arith))
    (λ c piece. client_few _ _ _ (taken_few c old (Feed c piece))
    (omega (arith, length-take QUEUE_LIMIT (owed_of (session c new)))))
    (λ c n. client_few _ _ _ (taken_few c old (Took c n))
    (omega (arith, length-take QUEUE_LIMIT (owed_of (session c new))))) e

pub bounded : EachEventIsBounded
bounded old new e o step h = record {
  lines = λ c. omega (arith, (of_event_of_client IsMeasured measures c old e (refused_after o)).holds);
  in_all = executions_few old e (refused_after o) h;
  placed = λ c. omega (arith, taken_few c old e, length-take QUEUE_LIMIT (owed_of (session c new)));
  bytes = (cost_few old new e).0;
  renders = (cost_few old new e).1;
}
