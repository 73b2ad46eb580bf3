-- What is over stays over, and what ticks and newcomers leave as it is.
use Rattle.std.proofs.Common.{◌≡◌, ◌≤◌, ◌+◌, ◌∙◌, ℕ, true, List, []}
use Rattle.std.proofs.Common.{◌∷◌, ◌++◌, Option, Some, None, IfSome, refl, sym, ap, subst}
use Rattle.std.proofs.Common.{inl, inr, arith, append-nil}
use Rattle.std.proofs.lemmas.Bool.Decides.{nat_tests}
use Rattle.nutcore.proofs.Common.{never_both, cond_both, Event, Outcome, SessionState, ServerState, session, after, Run}
use Rattle.nutcore.specs.declared.event.Event.TheVariants.{Open}
use Rattle.nutcore.specs.declared.event.Outcome.TheVariants.{Opened, Refused}
use Rattle.nutcore.specs.declared.event.Fault.TheVariants.{TooManyClients}
use Rattle.nutcore.specs.Session.{new_session}
use Rattle.nutcore.specs.Pump.{holds_overlong}
use Rattle.nutcore.specs.Step.{may_open, opened, after_by, refused_after, outcome_of, MayAnswer}
use Rattle.nutcore.specs.DriverEvents.{ticked}
use Rattle.nutcore.specs.History.{Execution, executions, of_client, texts_of, owed, is_over}
use Rattle.nutcore.specs.Headline.{IsLawful}
use Rattle.nutcore.specs.Addresses.{opened_from}
use Rattle.nutcore.specs.Endings.{WhoIsOverIsAskedNoMore, id_given, ids_given, RiseFrom}
use Rattle.nutcore.specs.Endings.{IdsThatAreGivenRise, ATickTouchesNoSession, LeavesOlderSessions}
use Rattle.nutcore.specs.Endings.{AnOpeningTouchesNoOther}
use Rattle.nutcore.proofs.Changed.{of_opened}
use Rattle.nutcore.proofs.Found.{of_pushed}
use Rattle.nutcore.proofs.Histories.{IsOfClient, of_run_of_client}
use Rattle.nutcore.proofs.Progress.{presence}
use Rattle.std.proofs.lemmas.Bool.{false≢true}
use Rattle.nutcore.proofs.Kept.{IsAny, any_address, by_event, ids_kept}
use Rattle.nutcore.proofs.Lasting.{IsThere}
use Rattle.nutcore.proofs.Stepping.{run_sent}

-- a session that is ending goes on ending
abbrev Ends : SessionState → Type 0
Ends x = x.ending ≡ true

no_notice_to : (x : SessionState) → x.ending ≡ true → holds_overlong x ≡ true → ⊥
no_notice_to x ends long = grind arith

-- a client that is over, as its session is ending, or it has none any more, is asked no more
asks_no_more : IsOfClient (λ p xs taken asked q. IsThere Ends p → (xs ≡ []) × IsThere Ends q)
asks_no_more = record {
  joins = λ p q r xs ys k k' a a' f g h.
      let first = f h in
      let more = g first.1 in
      (ap (λ (zs : List Execution). zs ++ ys) first.0 ∙ more.0, more.1);
  stays = λ o u v up h. (refl, (up h.0, h.1));
  by_line = λ c s line n u h. never_both n.asking.ending h.1 n.going;
  by_notice = λ c s x u long h. absurd (no_notice_to x h.1 long);
  by_input = λ piece x u h. (refl, h);
  by_output = λ n x u h. (refl, h);
  opens = λ id address h. absurd (false≢true h.0);
  closes = λ x u h. (refl, (h.0, tt));
}

over_there : (c : ℕ) (s : ServerState) → IsLawful s → is_over c s ≡ true → IsThere Ends (presence c s)
over_there c s lawful over = grind (arith, nat_tests, lawful c)

run_asks_no_more : (old new : ServerState) (es : List Event) (os : List Outcome) (c : ℕ) →
    IsLawful old → is_over c old ≡ true → Run old es os new →
    (of_client c (executions old es os) ≡ []) × IsThere Ends (presence c new)
run_asks_no_more old new es os c lawful over r =
    of_run_of_client _ asks_no_more c old new es os r (over_there c old lawful over)

pub asked_no_more : WhoIsOverIsAskedNoMore
asked_no_more old new es os c lawful over r =
    let none = (run_asks_no_more old new es os c lawful over r).0 in
    record {
      nothing = none;
      owed_less = λ still.
          sym (append-nil (owed c old)) ∙
          ap (λ (xs : List Execution). owed c old ++ texts_of xs) (sym none) ∙
          (run_sent old new es os lawful r c).while_open still;
    }

pub stays_ending : (old new : ServerState) (es : List Event) (os : List Outcome) (c : ℕ)
    (y : SessionState) → IsLawful old → is_over c old ≡ true → Run old es os new →
    session c new ≡ Some y → y.ending ≡ true
stays_ending old new es os c y lawful over r found =
    subst (λ o. IfSome o Ends) found (run_asks_no_more old new es os c lawful over r).1.1

joined_rise : (a b c : ℕ) (xs ys : List ℕ) → RiseFrom a b xs → RiseFrom b c ys → RiseFrom a c (xs ++ ys)
joined_rise a b c [] [] least rest = omega (arith, least, rest)
joined_rise a b c [] (y ∷ ys) least rest = (omega (arith, least, rest.0), rest.1)
joined_rise a b c (x ∷ xs) ys h rest = (h.0, joined_rise (x + 1) b c xs ys h.1 rest)

next_is_no_less : (s : ServerState) (e : Event) (m : Option ℕ) → s.next_id ≤ (after_by s e m).next_id
next_is_no_less s e m = by_event (λ t. s.next_id ≤ t.next_id) IsAny (ids_kept s.next_id) s e m
    (any_address (opened_from e)) (omega arith)

opened_next : (s : ServerState) (address : List ℕ) → may_open s ≡ true →
    (after_by s (Open address) None).next_id ≡ s.next_id + 1
unfolding after_by opened
opened_next s address room = cond_both (may_open s) _ s (λ t. t.next_id ≡ s.next_id + 1)
    (λ may. refl) (λ full. never_both (may_open s) room full)

abbrev Rises : ServerState → Event → Outcome → Type 0
Rises s e o = RiseFrom s.next_id (after s e o).next_id (id_given o)

rises_by_none : (s : ServerState) (e : Event) (o : Outcome) → id_given o ≡ [] → Rises s e o
rises_by_none s e o none = subst (RiseFrom s.next_id (after s e o).next_id) (sym none)
    (next_is_no_less s e (refused_after o))

told_rises : (s : ServerState) (e : Event) → Rises s e (outcome_of s e)
unfolding outcome_of
told_rises s (Open address) =
    cond_both (may_open s) (Opened s.next_id) (Refused TooManyClients) (Rises s (Open address))
    (λ room. let next = opened_next s address room in (omega arith, omega (arith, next)))
    (λ full. rises_by_none s (Open address) (Refused TooManyClients) refl)
told_rises s e = rises_by_none s e (outcome_of s e) (grind arith)

event_rises : (s : ServerState) (e : Event) (o : Outcome) → MayAnswer s e o → Rises s e o
event_rises s e o (inl is) = subst (Rises s e) (sym is) (told_rises s e)
event_rises s e o (inr (k, is, lacks)) = rises_by_none s e o (ap id_given is)

pub ids_rise : IdsThatAreGivenRise
ids_rise old new [] [] r = let next = ap (λ (s : ServerState). s.next_id) r in omega (arith, next)
ids_rise old new (e ∷ es) (o ∷ os) (mid, step, r) =
    joined_rise old.next_id mid.next_id new.next_id (id_given o) (ids_given os)
    (subst (λ (s : ServerState). RiseFrom old.next_id s.next_id (id_given o)) (sym step.leaves)
    (event_rises old e o step.allowed)) (ids_rise mid new es os r)
ids_rise old new es os r = absurd r

-- ticks and openings
pub tick_alone : ATickTouchesNoSession
unfolding after_by ticked
tick_alone old new seconds o step =
    ap (λ (s : ServerState). let but : ServerState =
    record s { moment = old.moment; upses = old.upses } in but) step.leaves

pub opening_alone : AnOpeningTouchesNoOther
unfolding after_by
opening_alone old new address o step =
    subst (LeavesOlderSessions old) (sym step.leaves)
    (of_opened (LeavesOlderSessions old) old address (refused_after o)
    (record { sessions = λ c before. refl; server = refl })
    (λ room. record {
      sessions = λ c before. of_pushed (λ p. p ≡ session c old) c
          (new_session old.next_id address) old.sessions refl (λ id none. absurd (omega (arith, before, id)));
      server = refl;
    }))
