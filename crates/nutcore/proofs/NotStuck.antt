-- Nobody is stuck.
use Rattle.std.proofs.Common.{◌≡◌, ◌≤◌, ℕ, true, false, List, [], ◌∷◌, ◌++◌}
use Rattle.std.proofs.Common.{Option, Some, None, sym, ap, subst, length, length-append, arith}
use Rattle.std.specs.Prelude.{is_none}
use Rattle.std.proofs.lemmas.List.{nil_from_length}
use Rattle.std.proofs.lemmas.Bool.{cond_both}
use Rattle.std.proofs.lemmas.Bool.Decides.{nat_tests}
use Rattle.nutlisting.specs.declared.outbox.TheConstants.{OWED_LIMIT}
use Rattle.nutcore.proofs.Common.{Event, Outcome, SessionState, ServerState, session, after, Run}
use Rattle.nutcore.specs.declared.event.Event.TheVariants.{Feed, Took, Close}
use Rattle.nutcore.specs.Pump.{next_line, pumped, holds_overlong}
use Rattle.nutcore.specs.Step.{with_input, without_output, may_take, pumped_until, after_by, refused_after}
use Rattle.nutcore.specs.History.{taken, is_over}
use Rattle.nutcore.specs.Isolation.{client_of}
use Rattle.nutcore.specs.NotStuck.{HadMemory, HasRoom, WhoIsOwedLittleHasRoom, WhoEndsIsFinished}
use Rattle.nutcore.proofs.Endings.{asked_no_more, stays_ending}
use Rattle.nutcore.proofs.Found.{find_without}
use Rattle.nutcore.proofs.Histories.{later}
use Rattle.nutcore.proofs.Least.{HasStopped, no_session, pump_ended}
use Rattle.nutcore.proofs.TakingAmongOthers.{anothers, own_or_not}

-- after an event of the client with memory, and after one of another
own_stops : (s : ServerState) (e : Event) (c : ℕ) → HasStopped s c → client_of e ≡
    Some c → HasStopped (after_by s e None) c
unfolding after_by pumped_until
own_stops s (Feed d piece) c h its = let same : c ≡ d = cc its in rw same (pump_ended (with_input s d piece) d)
own_stops s (Took d n) c h its = let same : c ≡ d = cc its in
    rw same (cond_both (may_take (session d s) n) (pumped (without_output s d n) d) s
    (λ t. HasStopped t d) (λ may. pump_ended (without_output s d n) d) (λ never. rw same at h))
own_stops s (Close d) c h its = let same : c ≡ d = cc its in rw (same, find_without d s.sessions) no_session
own_stops s e c h its = cc its

run_stops : (s t : ServerState) (es : List Event) (os : List Outcome) (c : ℕ) →
    Run s es os t → HadMemory c es os → HasStopped s c → HasStopped t c
run_stops s t [] [] c r had h = subst (λ (z : ServerState). HasStopped z c) (sym r) h
run_stops s t (e ∷ es) (o ∷ os) c (mid, step, r) had h =
    run_stops (after s e o) t es os c (later t es os step r) had.1 (own_or_not c e
    (λ yes its. subst (λ (m : Option ℕ). HasStopped (after_by s e m) c) (sym (had.0 its))
    (own_stops s e c h its)) (λ no other. (anothers c s e (refused_after o) other).untouched.stopped h))
run_stops s t es os c r had h = absurd r

-- so where little is owed, there is room
room_of : (x : SessionState) → x.ending ≡ false → length x.owed ≤ OWED_LIMIT →
    is_none (next_line x) ≡ true → holds_overlong x ≡ false → HasRoom x
room_of x going few stopped short = record { no_line = grind (arith, nat_tests); room = grind (arith, nat_tests) }

pub little_has_room : WhoIsOwedLittleHasRoom
little_has_room old new es os c x absent r had found going few =
    let h = run_stops old new es os c r had (rw absent no_session) in
    room_of x going few (rw found at h.stopped) (rw found at h.short)

-- an ending session
pub ends_finished : WhoEndsIsFinished
ends_finished old new es os c x y lawful r found ends found_new all =
    let over : is_over c old ≡ true = rw found ends in
    let less : x.owed ≡ taken c old es os ++ y.owed =
    rw (found, found_new) at ((asked_no_more old new es os c lawful over r).owed_less (rw found_new)) in
    let none : y.owed ≡ [] = nil_from_length y.owed
    (omega (arith, all, ap length less, length-append (taken c old es os) y.owed)) in
    rw (stays_ending old new es os c y lawful over r found_new, none)
