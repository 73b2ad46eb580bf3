-- What an event doesn't touch.
use Rattle.std.proofs.Common.{arith, ◌≡◌, ℕ, zero, suc, true, inl, List, [], ◌∷◌}
use Rattle.std.proofs.Common.{Option, Some, None, refl, sym, ◌∙◌, ap, subst, map, IfSome}
use Rattle.nutcore.proofs.Common.{cond_both, same_Some, UpsId, TrackingState, Change, Event, Fault}
use Rattle.nutcore.proofs.Common.{Outcome, ServerState, session, changed_at, with_session_changed}
use Rattle.nutcore.specs.declared.event.Event.TheVariants.{Feed, Took, Close}
use Rattle.nutcore.specs.declared.event.Outcome.TheVariants.{Refused}
use Rattle.nuttracking.specs.declared.order.TrackedOrder.{TrackedOrder}
use Rattle.nuttracking.specs.Tracking.{settled}
use Rattle.nutcore.specs.Reports.{with_end}
use Rattle.nutcore.specs.Session.{SessionState}
use Rattle.nutcore.specs.Ups.{UpsState}
use Rattle.nutcore.specs.Reply.{changed_upses}
use Rattle.nutcore.specs.Pump.{next_line_for, after_line, after_lines, after_all_lines, is_overlong, with_notice}
use Rattle.nutcore.specs.Step.{Step, joined, with_input, taken_from, without_output, may_take}
use Rattle.nutcore.specs.Step.{after_by, refused_after, outcome_of}
use Rattle.nutcore.specs.Isolation.{client_of, ups_of, without_commands, kept_from_clients}
use Rattle.nutcore.specs.Isolation.{LeavesOtherClients, MaySettle, MaySettleEach, LeavesOtherUpses}
use Rattle.nutcore.specs.Isolation.{AClientTouchesNoOther, ADriverTouchesNoOther}
use Rattle.nutcore.specs.Isolation.{ARefusedEventChangesNothing, ARefusedEventCostsNothing}
use Rattle.nutcore.specs.Isolation.{is_harmless}
use Rattle.nutcore.specs.Cost.{cost_of, no_cost}
use Rattle.nutcore.proofs.Events.{is_quiet, may_not, of_event, of_parts, any_driver, refused}
use Rattle.nutcore.proofs.Changed.{by_change}
use Rattle.nutcore.specs.DriverEvents.{changed_both}
use Rattle.nutcore.proofs.Changes.{of_upses}
use Rattle.nutcore.proofs.Costs.{fed_nothing_costs, took_nothing_costs}
use Rattle.nutcore.proofs.Found.{find_without_other}
use Rattle.nutcore.proofs.Kept.{IsPumped, by_lines, by_feed, by_take, of_ends}
use Rattle.nutcore.proofs.Progress.{Presence}
use Rattle.nutcore.proofs.Pumping.{is_next, after_line_is}
use Rattle.nutcore.proofs.Stepping.{until_other, input_other, output_other}
use Rattle.nutcore.proofs.UpsPlaces.{other_ups}
use Rattle.nutdriver.specs.Report.{OrderEnd, end_in}

-- what no command changes of the UPSs
pub masked_at : (f : UpsState → UpsState) →
    ((x : UpsState) → without_commands (f x) ≡ without_commands x) →
    (p : ℕ) (xs : List UpsState) → map without_commands (changed_at f p xs) ≡ map without_commands xs
masked_at f h p [] = refl
masked_at f h zero (x ∷ xs) = ap (λ (y : UpsState). y ∷ map without_commands xs) (h x)
masked_at f h (suc p) (x ∷ xs) = ap (λ (ys : List UpsState). without_commands x ∷ ys) (masked_at f h p xs)

masked : (change : Change) (xs : List UpsState) →
    map without_commands (changed_upses change xs) ≡ map without_commands xs
masked change xs = of_upses (λ told ys. map without_commands ys ≡ map without_commands xs) change
    xs refl (λ v f told does. masked_at f does.same v.place xs)

abbrev IsKept : ServerState → ServerState → Type 0
IsKept s t = kept_from_clients t ≡ kept_from_clients s

kept_session : (s : ServerState) (f : SessionState → SessionState) (t : ServerState) (c : ℕ) →
    IsKept s t → IsKept s (with_session_changed f c t)
kept_session s f t c h = by_change (IsKept s) f c t (λ x e. h) (λ e. h)

kept_line : (s t : ServerState) (c : ℕ) (line : List ℕ) → next_line_for t c ≡ Some line →
    IsKept s t → IsKept s (after_line t c)
kept_line s t c line next h = let n = is_next t c line next in
    rw (after_line_is t c line n.asking n.found next, masked) h

pumped : (s : ServerState) → IsPumped (IsKept s)
pumped s = record {
  line = kept_line s;
  joins = λ t c piece h. kept_session s (joined piece) t c h;
  gives = λ t c n h. kept_session s (taken_from n) t c h;
  notice = λ t c h. kept_session s with_notice t c h;
}

pub kept_in_lines : (k c : ℕ) (s t : ServerState) → kept_from_clients t ≡
    kept_from_clients s → kept_from_clients (after_lines k t c) ≡ kept_from_clients s
kept_in_lines k c s t h = by_lines (IsKept s) (pumped s) k c t h

pub kept_in_input : (s : ServerState) (c : ℕ) (piece : List ℕ) →
    kept_from_clients (with_input s c piece) ≡ kept_from_clients s
unfolding with_input
kept_in_input s c piece = kept_session s (joined piece) s c refl

pub kept_in_output : (s : ServerState) (c n : ℕ) → kept_from_clients (without_output s c n) ≡ kept_from_clients s
unfolding without_output
kept_in_output s c n = kept_session s (taken_from n) s c refl

own_of : (s : ServerState) (e : Event) (m : Option ℕ) →
    IfSome (client_of e) (λ c. LeavesOtherClients c s (after_by s e m))
unfolding after_by
own_of s (Feed c piece) m = record {
  sessions = λ d differ. ap (λ (p : Presence). p.session)
      (until_other d c (with_input s c piece) m differ ∙ input_other d c s piece differ);
  server = by_feed (IsKept s) (pumped s) s c piece m refl;
}
own_of s (Took c n) m = record {
  sessions = λ d differ. cond_both (may_take (session c s) n) _ s (λ t. session d t ≡ session d s)
      (λ e. ap (λ (p : Presence). p.session)
      (until_other d c (without_output s c n) m differ ∙ output_other d c s n differ)) (λ e. refl);
  server = by_take (IsKept s) (pumped s) s c n m refl;
}
own_of s (Close c) m = record { sessions = λ d differ. find_without_other d c s.sessions differ; server = refl }
own_of s e m = tt

pub own : (s : ServerState) (e : Event) (m : Option ℕ) (c : ℕ) → client_of e ≡ Some c →
    LeavesOtherClients c s (after_by s e m)
own s e m c h = subst (λ (o : Option ℕ). IfSome o (λ d. LeavesOtherClients d s (after_by s e m))) h (own_of s e m)

pub client_alone : AClientTouchesNoOther
client_alone old new e o c step h =
    subst (λ (t : ServerState). LeavesOtherClients c old t) (sym step.leaves) (own old e (refused_after o) c h)

-- a driver's event: orders, of which it may settle pending ones of its own UPS
may_settle : (place id number : ℕ) (x y : TrackedOrder) → MaySettle place x y →
    MaySettle place x (settled place id number y)
may_settle place id number x y h = grind arith

each_settles : (place id number : ℕ) (xs ys : List TrackedOrder) → MaySettleEach place xs ys →
    MaySettleEach place xs (map (settled place id number) ys)
each_settles place id number [] [] h = tt
each_settles place id number (x ∷ xs) (y ∷ ys) h =
    (may_settle place id number x y h.0, each_settles place id number xs ys h.1)
each_settles place id number xs ys h = absurd h

end_settles : (place : ℕ) (o : Option OrderEnd) (xs : List TrackedOrder) (t : TrackingState) →
    MaySettleEach place xs t.orders → MaySettleEach place xs (with_end place o t).orders
end_settles place None xs t h = h
end_settles place (Some e) xs t h = each_settles place e.id e.number xs t.orders h

none_settles : (place : ℕ) (xs : List TrackedOrder) → MaySettleEach place xs xs
none_settles place [] = tt
none_settles place (x ∷ xs) = (inl refl, none_settles place xs)

end_keeps_ids : (place : ℕ) (o : Option OrderEnd) (t : TrackingState) → (with_end place o t).ids ≡ t.ids
end_keeps_ids place o t = grind arith

-- the other UPSs
own_ups : (s : ServerState) (e : Event) (m : Option ℕ) (u : UpsId) → ups_of e ≡ Some u →
    LeavesOtherUpses u s (after_by s e m)
own_ups s e m u =
    of_parts s m (λ f. Unit {0}) (any_driver s.moment s.tracking m)
    (λ e t. ups_of e ≡ Some u → LeavesOtherUpses u s t)
    (λ e v f lines its apart any h. subst
    (λ (z : UpsId). LeavesOtherUpses z s (changed_both f lines v s)) (same_Some v u (sym its ∙ h)) (record {
      upses = λ q differ. other_ups f v.place q s.upses differ;
      ids = of_ends v.place (λ t. t.ids ≡ s.tracking.ids)
          (λ line t same. end_keeps_ids v.place (end_in line) t ∙ same) lines s.tracking refl;
      orders = of_ends v.place (λ t. MaySettleEach v.place s.tracking.orders t.orders)
          (λ line t so. end_settles v.place (end_in line) s.tracking.orders t so) lines s.tracking
          (none_settles v.place s.tracking.orders);
      server = refl;
    }))
    (λ seconds h. cc h) (λ address h. cc h) (λ c piece h. cc h) (λ c n h. cc h) (λ c h. cc h) (λ id h. cc h) e

pub driver_alone : ADriverTouchesNoOther
driver_alone old new e o u step h =
    subst (λ (t : ServerState). LeavesOtherUpses u old t) (sym step.leaves) (own_ups old e (refused_after o) u h)

-- a refused event
refused_so : (old new : ServerState) (e : Event) (fault : Fault) →
    Step old e (Refused fault) new → is_harmless fault ≡ true → outcome_of old e ≡ Refused fault
refused_so old new e fault step h = grind arith

pub refused_alone : ARefusedEventChangesNothing
refused_alone old new e fault step h = step.leaves ∙
    sym (refused old e fault (refused_so old new e fault step h) h).leaves

pub free : (s : ServerState) (e : Event) → is_quiet (outcome_of s e) ≡ true → no_cost ≡ cost_of s e s
unfolding outcome_of
free s e =
    of_event (λ e. is_quiet (outcome_of s e) ≡ true → no_cost ≡ cost_of s e s)
    (λ e silent h. sym (silent.costs s s))
    (λ c piece h. fed_nothing_costs s c piece)
    (λ c n h. took_nothing_costs s c n
    (may_not (session c s) n (is_overlong (after_all_lines (without_output s c n) c) c) h)) e

pub refused_free : ARefusedEventCostsNothing
refused_free old new e fault step h =
    ap (cost_of old e) (refused_alone old new e fault step h) ∙
    sym (free old e (subst (λ (o : Outcome). is_quiet o ≡ true) (sym (refused_so old new e fault step h)) h))
