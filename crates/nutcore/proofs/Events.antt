-- All that is proved by going through the events, a case each: what they leave, in its parts; what
-- is said of each by itself; and which execute nothing, and leave the sessions as they are.
use Rattle.std.proofs.Common.{◌≡◌, ℕ, Bool, true, false, List, [], ◌∷◌, ◌++◌}
use Rattle.std.proofs.Common.{Option, Some, None, refl, sym, ap, subst, cond, eqb, ◌&&◌, not}
use Rattle.std.proofs.Common.{◌∙◌, max, length, append-nil, inl, arith, take, drop}
use Rattle.nutcore.proofs.Common.{option_map_or, UpsId, TrackingState, Event, ServerState, session}
use Rattle.nutcore.proofs.Common.{ups_at, slice_get, option_map, slice_get-map, Outcome}
use Rattle.nutcore.proofs.Common.{SessionState, cond-false, Fault, UpsState, after}
use Rattle.nutcore.proofs.Common.{take-append-drop}
use Rattle.nutcore.specs.declared.event.Event.TheVariants as event
use Rattle.nutcore.specs.Session.{without}
use Rattle.nutcore.specs.Ups.{ping_is_due, after_tick, after_loss, after_connecting, ping_line}
use Rattle.nutcore.specs.Ups.{ups_after_bytes, lines_of}
use Rattle.nutcore.specs.Reports.{after_ends}
use Rattle.nutcore.specs.Step.{with_input, without_output, may_take, may_open, after_by}
use Rattle.nutcore.specs.DriverEvents.{ticked}
use Rattle.nutcore.specs.Step.{opened, pumped_until}
use Rattle.nutcore.specs.DriverEvents.{connected, disconnected, after_driver_took}
use Rattle.nutcore.specs.Step.{joined, refused_after, Step, outcome_of}
use Rattle.nutcore.specs.DriverEvents.{handed_in, driver_may_take}
use Rattle.nutcore.specs.DriverEvents.{after_driver_bytes, connected_by, driver_took_by, disconnected_by}
use Rattle.nutcore.specs.Step.{fed_by, took_by, closed_by, accepted}
use Rattle.nutcore.specs.DriverEvents.{driver_bytes_by, id_outcome}
use Rattle.nutcore.specs.Isolation.{client_of, ups_of, is_harmless}
use Rattle.nutcore.specs.History.{Execution, executions_until, executions_by, taken_in_event, asked_in_event}
use Rattle.nutcore.specs.Cost.{cost_of, no_cost}
use Rattle.nutcore.specs.DriverHistory.{has_driver, came_in_event, heard_in_event}
use Rattle.nutcore.specs.DriverOrders as telling
use Rattle.nutcore.specs.DriverOrders.{ServerLine, dump_all, ping, given_beside_lines, moment_of}
use Rattle.nutcore.specs.DriverOrders.{given_in_event, texts_of}
use Rattle.nutcore.specs.Parts.{with_tracking, with_ups_changed}
use Rattle.nutcore.specs.DriverEvents.{changed_both, lines_read}
use Rattle.nutcore.proofs.DriverText.{bytes_change}
use Rattle.nutcore.specs.Pump.{after_all_lines, is_overlong, pumped}
use Rattle.nutcore.proofs.Changed.{input_absent, of_opened}
use Rattle.nutcore.proofs.UpsPlaces.{Stands, of_ups, of_place, server_same}
use Rattle.nutcore.proofs.DriverChanges.{Does, stays_so, bytes_do, lost, unconnected, goes_on}
use Rattle.std.specs.Prelude.{nat_le}
use Rattle.nutcore.specs.declared.event.Outcome.TheVariants.{Done, Opened, Refused, Fed}
use Rattle.nutcore.specs.declared.event.Fault.TheVariants as faults
use Rattle.nuttracking.specs.Tracking.{id_fault}
use Rattle.nutcore.specs.Happenings.{apart_from_bytes}
use Rattle.nutcore.proofs.Adding.{session_keeps, pump_adds, took_adds, by_client}
use Rattle.nutcore.proofs.ApartFromBytes.{core_opened, closed_without}
use Rattle.nuttracking.specs.declared.tracking.IdFault.{IdFault}
use Rattle.nutcore.proofs.Places.{without_none}
use Rattle.nutcore.proofs.Least.{pump_absent}

-- what one client executes in an event
unfoldable pub given_by : ℕ → ServerState → Event → Option ℕ → List Execution
given_by c s (event.Feed d piece) m = cond (eqb d c) (executions_until (with_input s d piece) d m) []
given_by c s (event.Took d n) m = cond (may_take (session d s) n)
    (cond (eqb d c) (executions_until (without_output s d n) d m) []) []
given_by c s _ m = []

-- no event by which a client sends or takes
abbrev pub IsPlain : Event → Type 0
IsPlain (event.Feed c piece) = ⊥
IsPlain (event.Took c n) = ⊥
IsPlain _ = Unit {0}

-- nothing is executed, asked or taken, and it costs nothing
pub record IsSilent (e : Event) : Type 0 where
  pub plain : IsPlain e
  pub executes : (s : ServerState) (m : Option ℕ) → executions_by s e m ≡ []
  pub gives : (c : ℕ) (s : ServerState) (m : Option ℕ) → given_by c s e m ≡ []
  pub takes : (c : ℕ) (s : ServerState) → taken_in_event c s e ≡ []
  pub asks : (c : ℕ) (s : ServerState) → asked_in_event c s e ≡ []
  pub costs : (old new : ServerState) → cost_of old e new ≡ no_cost

-- nor is any session changed
pub record IsApart (e : Event) : Type 0 where
  pub silent : IsSilent e
  pub sessions : (s : ServerState) (m : Option ℕ) → (after_by s e m).sessions ≡ s.sessions
  pub next_id : (s : ServerState) (m : Option ℕ) → (after_by s e m).next_id ≡ s.next_id

pub silent : (e : Event) → IsPlain e → IsSilent e
unfolding executions_by given_by taken_in_event asked_in_event
silent (event.Feed c piece) plain = absurd plain
silent (event.Took c n) plain = absurd plain
silent e plain = record {
  plain = tt;
  executes = λ s m. refl;
  gives = λ c s m. refl;
  takes = λ c s. refl;
  asks = λ c s. refl;
  costs = λ old new. refl;
}

-- what holds of those, and of what a client sends and takes, holds of each event
pub of_event : (P : Event → Type 0) → ((e : Event) → IsSilent e → P e) →
    ((c : ℕ) (piece : List ℕ) → P (event.Feed c piece)) →
    ((c n : ℕ) → P (event.Took c n)) → (e : Event) → P e
of_event P other feed took (event.Feed c piece) = feed c piece
of_event P other feed took (event.Took c n) = took c n
of_event P other feed took e = other e (silent e tt)

-- the same, with those apart that open and close a session
pub of_session_event : (P : Event → Type 0) → ((e : Event) → IsApart e → P e) →
    ((address : List ℕ) → P (event.Open address)) →
    ((c : ℕ) (piece : List ℕ) → P (event.Feed c piece)) → ((c n : ℕ) → P (event.Took c n)) →
    ((c : ℕ) → P (event.Close c)) → (e : Event) → P e
unfolding after_by ticked
of_session_event P other opens feed took closes (event.DriverBytes u piece) =
    let e : Event = event.DriverBytes u piece in
    other e (record {
      silent = silent e tt;
      sessions = λ s m. ap (λ (t : ServerState). t.sessions) (bytes_change u piece m s);
      next_id = λ s m. ap (λ (t : ServerState). t.next_id) (bytes_change u piece m s);
    })
of_session_event P other opens feed took closes (event.Open address) = opens address
of_session_event P other opens feed took closes (event.Feed c piece) = feed c piece
of_session_event P other opens feed took closes (event.Took c n) = took c n
of_session_event P other opens feed took closes (event.Close c) = closes c
of_session_event P other opens feed took closes e =
    other e (record { silent = silent e tt; sessions = λ s m. refl; next_id = λ s m. refl })

-- what holds of nothing, and of what a driver is given that comes and at its time, holds of what
-- an event gives a driver beside lines
pub of_given_beside : (u : UpsId) (s : ServerState) (P : List ServerLine → Type 0) → P [] →
    ((b : Bool) → P (cond b (dump_all ∷ []) [])) →
    ((b : Bool) → P (cond b (ping ∷ []) [])) → (e : Event) → P (given_beside_lines u s e)
of_given_beside u s P none up tick (event.DriverUp v) = up (eqb v.place u.place && not (has_driver u s))
of_given_beside u s P none up tick (event.Tick seconds) =
    tick (option_map_or (ping_is_due s.max_age (moment_of s seconds)) (ups_at u.place s) false)
of_given_beside u s P none up tick e = none

-- what holds of each change that a driver's event makes of its UPS
pub record OfDrivers (moment : ℕ) (t : TrackingState) (m : Option ℕ)
    (Q : (UpsState → UpsState) → Type 0) : Type 0 where
  pub comes : Q (connected moment)
  pub tells : (place : ℕ) (piece : List ℕ) → Q (ups_after_bytes moment place t piece m)
  pub takes : (n : ℕ) → Q (after_driver_took n)
  pub goes : Q disconnected

-- what an event leaves: a driver's one UPS changed, and orders that it waits for, a tick time and
-- all UPSs, an id the available ones, the others sessions
pub of_parts : (s : ServerState) (m : Option ℕ) (Q : (UpsState → UpsState) → Type 0) →
    OfDrivers s.moment s.tracking m Q → (P : Event → ServerState → Type 0)
    → ((e : Event) (u : UpsId) (f : UpsState → UpsState) (lines : List (List ℕ)) →
    ups_of e ≡ Some u → client_of e ≡ None → Q f → P e (changed_both f lines u s))
    → ((seconds : ℕ) → P (event.Tick seconds) (ticked seconds s)) →
    ((address : List ℕ) → P (event.Open address) (opened s address m))
    → ((c : ℕ) (piece : List ℕ) → P (event.Feed c piece) (pumped_until (with_input s c piece) c m))
    → ((c n : ℕ) → P (event.Took c n)
    (cond (may_take (session c s) n) (pumped_until (without_output s c n) c m) s))
    → ((c : ℕ) → let t : ServerState = record s { sessions = without c s.sessions } in
    P (event.Close c) t) → ((id : ℕ) → P (event.Id id) (handed_in id s)) → (e : Event) → P e (after_by s e m)
unfolding after_by
of_parts s m Q drivers P ups tick opens feed took closes hands (event.DriverUp u) =
    ups (event.DriverUp u) u (connected s.moment) [] refl refl drivers.comes
of_parts s m Q drivers P ups tick opens feed took closes hands (event.DriverBytes u piece) =
    subst (P (event.DriverBytes u piece)) (sym (bytes_change u piece m s))
    (ups (event.DriverBytes u piece) u (ups_after_bytes s.moment u.place s.tracking piece m)
    (lines_read u piece m s) refl refl (drivers.tells u.place piece))
of_parts s m Q drivers P ups tick opens feed took closes hands (event.DriverTook u n) =
    ups (event.DriverTook u n) u (after_driver_took n) [] refl refl (drivers.takes n)
of_parts s m Q drivers P ups tick opens feed took closes hands (event.DriverDown u) =
    ups (event.DriverDown u) u disconnected [] refl refl drivers.goes
of_parts s m Q drivers P ups tick opens feed took closes hands (event.Tick seconds) = tick seconds
of_parts s m Q drivers P ups tick opens feed took closes hands (event.Open address) = opens address
of_parts s m Q drivers P ups tick opens feed took closes hands (event.Feed c piece) = feed c piece
of_parts s m Q drivers P ups tick opens feed took closes hands (event.Took c n) = took c n
of_parts s m Q drivers P ups tick opens feed took closes hands (event.Close c) = closes c
of_parts s m Q drivers P ups tick opens feed took closes hands (event.Id id) = hands id

-- what asks nothing of these changes
pub any_driver : (moment : ℕ) (t : TrackingState) (m : Option ℕ) → OfDrivers moment t m (λ f. Unit {0})
any_driver moment t m = record { comes = tt; tells = λ place piece. tt; takes = λ n. tt; goes = tt }

-- what is answered to each, and what it leaves where a fault that changes nothing refuses it
abbrev pub is_quiet : Outcome → Bool
is_quiet (Refused fault) = is_harmless fault
is_quiet _ = false

pub not_memory : (fault : Fault) → is_harmless fault ≡ true → refused_after (Refused fault) ≡ None
not_memory fault h = grind arith

-- what is taken in, or stopped at a line that is too long, is none of these refusals
taken_in : (n : ℕ) (b : Bool) → is_quiet (cond b (Refused faults.LineTooLong) (Fed n)) ≡ true → ⊥
taken_in n b h = grind arith

-- what is done unless it is refused
stays : {A : Type 0} (b : Bool) (o p : Outcome) (t s : A) → is_quiet o ≡ false →
    is_quiet (cond b o p) ≡ true → cond b t s ≡ s
stays b o p t s done h = grind arith

up_stays : (now : ℕ) (x : UpsState) (b : Bool) →
    is_quiet (cond b (Refused faults.AlreadyConnected) Done) ≡ true → cond b x (after_connecting now x) ≡ x
up_stays now x b h = grind arith

took_stays : (x y : UpsState) (b d : Bool) →
    is_quiet (cond (not b) (Refused faults.NotConnected) (cond d Done (Refused faults.TookTooMuch))) ≡ true →
    cond (b && d) y x ≡ x
took_stays x y b d h = grind arith

bytes_stay : (s : ServerState) (u : UpsId) (piece : List ℕ) →
    is_quiet (driver_bytes_by piece (ups_at u.place s)) ≡ true → after_driver_bytes u piece None s ≡ s
unfolding after_driver_bytes lines_read
bytes_stay s u piece h = by_ups (ups_at u.place s) refl h
  where
    f : UpsState → UpsState
    f = ups_after_bytes s.moment u.place s.tracking piece None

    absent : (x : UpsState) → is_quiet (driver_bytes_by piece (Some x)) ≡ true → x.report.connected ≡ false
    absent x h = grind arith

    by_ups : (o : Option UpsState) → ups_at u.place s ≡ o → is_quiet (driver_bytes_by piece o) ≡ true
        → with_tracking (after_ends u.place (option_map_or (lines_of piece None) o []) s.tracking)
        (with_ups_changed f u s) ≡ s
    by_ups None none h = sym (server_same s u f (λ x there. cc))
    by_ups (Some x) there h =
        let gone : x.report.connected ≡ false = absent x h in
        ap (λ (lines : List (List ℕ)). with_tracking (after_ends u.place lines s.tracking)
        (with_ups_changed f u s)) (cond-false _ _ _ gone)
        ∙ sym (server_same s u f (of_ups s u x (λ y. f y ≡ y) there (cond-false _ _ _ gone)))

feed_stays : (s : ServerState) (c : ℕ) (piece : List ℕ) (o : Option SessionState) (b : Bool) →
    session c s ≡ o → is_quiet (fed_by o piece b) ≡ true → pumped (with_input s c piece) c ≡ s
feed_stays s c piece None b e h =
    ap (λ (z : ServerState). pumped z c) (input_absent s c piece e) ∙ sym (pump_absent s c e)
feed_stays s c piece (Some x) b e h = absurd (taken_in (accepted x piece) b h)

-- where a take is refused, nothing may be taken
pub may_not : (o : Option SessionState) (n : ℕ) (b : Bool) → is_quiet (took_by o n b) ≡
    true → may_take o n ≡ false
may_not o n b h = grind arith

close_stays : (s : ServerState) (c : ℕ) (o : Option SessionState) → session c s ≡ o →
    is_quiet (closed_by o) ≡ true → (let t : ServerState = record s { sessions = without c s.sessions } in t) ≡ s
close_stays s c None e h = ap (λ (xs : List SessionState). let t : ServerState =
    record s { sessions = xs } in t) (without_none c s.sessions e)
close_stays s c (Some x) e h = cc h

id_stays : (s : ServerState) (id : ℕ) (o : Option IdFault) → id_fault id s.tracking ≡ o →
    is_quiet (id_outcome o) ≡ true → handed_in id s ≡ s
id_stays s id o e h = grind arith

-- what each event of a driver does to its UPS
down_does : (now : ℕ) (u : UpsId) (e : Event) (x : UpsState) (b : Bool) → x.report.connected ≡
    b → Does now u e x [] [] [] [] (cond b (after_loss x) x)
down_does now u e x true is = lost now u e x [] [] x is (x.unfinished ++ [], refl) (λ few. omega (arith, few))
down_does now u e x false gone = stays_so now u e x

took_does : (now : ℕ) (u : UpsId) (e : Event) (x : UpsState) (n : ℕ) (b : Bool) →
    Does now u e x [] [] [] (cond b (take n x.owed) []) (cond b (record x { owed = drop n x.owed }) x)
took_does now u e x n true = goes_on now u e x [] (take n x.owed) _ refl refl refl
    (append-nil x.owed ∙ sym (take-append-drop n x.owed))
took_does now u e x n false = stays_so now u e x

tick_does : (now : ℕ) (u : UpsId) (e : Event) (x : UpsState) (moment : ℕ) (b : Bool) →
    Does now u e x [] [] (cond b (ping ∷ []) []) []
    (cond b (record x { pinged = moment; owed = x.owed ++ ping_line }) x)
tick_does now u e x moment true =
    goes_on now u e x (ping ∷ []) [] _ refl refl refl (ap (λ (z : List ℕ). x.owed ++ z) (append-nil ping_line))
tick_does now u e x moment false = stays_so now u e x

up_does : (now : ℕ) (u : UpsId) (e : Event) (x : UpsState) (b : Bool) → x.report.connected ≡
    b → e ≡ event.DriverUp u → Does now u e x [] [] (cond (not b) (dump_all ∷ []) []) []
    (cond b x (after_connecting now x))
up_does now u e x true there is = stays_so now u e x
up_does now u e x false absent is =
    unconnected now u e x [] (dump_all ∷ []) (after_connecting now x) absent refl
    (λ still. (is, refl)) (λ nothing. ap (λ (z : List ℕ). z ++ texts_of (dump_all ∷ [])) (nothing absent))

-- what a driver's bytes leave of a UPS
bytes_leave : (s : ServerState) (v : UpsId) (piece : List ℕ) (u : UpsId) (o : Outcome)
    (x : UpsState) → ups_at u.place s ≡ Some x → let e : Event = event.DriverBytes v piece in
    Stands u.place (after s e o).upses (Does s.moment u e x (came_in_event u e) (heard_in_event u s e o) [] [])
unfolding after_by executions_by
bytes_leave s v piece u o x there =
    let e : Event = event.DriverBytes v piece in
    let m : Option ℕ = refused_after o in
    rw (bytes_change v piece m s) (of_place (ups_after_bytes s.moment v.place s.tracking piece m) u
    v s.upses x (Does s.moment u e x (came_in_event u e) (heard_in_event u s e o) [] []) there
    (λ k same. rw (k, there, same) (bytes_do s.moment u _ x s.tracking piece m))
    (λ k. rw k (stays_so s.moment u e x)))

-- what is said of each by itself: where a fault that changes nothing refuses it, all is as it was;
-- and what it leaves of a UPS
pub record OfEvent (s : ServerState) (e : Event) : Type 0 where
  pub quiet : is_quiet (outcome_of s e) ≡ true → after_by s e None ≡ s
  pub leaves : (u : UpsId) (o : Outcome) (x : UpsState) → ups_at u.place s ≡ Some x →
      Stands u.place (after s e o).upses
      (Does s.moment u e x (came_in_event u e) (heard_in_event u s e o) (given_in_event u s e o)
      (telling.taken_in_event u s e))

-- a UPS that it doesn't change
left_alone : (s : ServerState) (u : UpsId) (e : Event) (x : UpsState) (xs : List UpsState) →
    slice_get xs u.place ≡ Some x → Stands u.place xs (Does s.moment u e x [] [] [] [])
left_alone s u e x xs there = record { ups = x; there = there; is = stays_so s.moment u e x }

pub each : (s : ServerState) (e : Event) → OfEvent s e
unfolding outcome_of after_by executions_by pumped_until after_driver_bytes opened ticked with_input lines_read
each s (event.DriverUp v) =
    let e : Event = event.DriverUp v in record {
      quiet = λ h. sym (server_same s v (connected s.moment)
          (λ x there. up_stays s.moment x x.report.connected
          (subst (λ (o : Option UpsState). is_quiet (connected_by o) ≡ true) there h)));
      leaves = λ u o x there.
          of_place (connected s.moment) u v s.upses x (Does s.moment u e x [] [] (given_in_event u s e o) []) there
          (λ k same. rw (append-nil, k, there)
          (up_does s.moment u e x x.report.connected refl (ap (λ (w : UpsId). event.DriverUp w) same)))
          (λ k. rw (append-nil, k) (stays_so s.moment u e x));
    }
each s (event.DriverBytes v piece) =
    let e : Event = event.DriverBytes v piece in record {
      quiet = λ h. bytes_stay s v piece h;
      leaves = λ u o x there. bytes_leave s v piece u o x there;
    }
each s (event.DriverTook v n) =
    let e : Event = event.DriverTook v n in record {
      quiet = λ h. sym (server_same s v (after_driver_took n)
          (λ x there. took_stays x _ x.report.connected (nat_le n (length x.owed))
          (subst (λ (o : Option UpsState). is_quiet (driver_took_by n o) ≡ true) there h)));
      leaves = λ u o x there.
          of_place (after_driver_took n) u v s.upses x
          (Does s.moment u e x [] [] [] (telling.taken_in_event u s e)) there
          (λ k same. rw (k, there) (took_does s.moment u e x n (driver_may_take n x)))
          (λ k. rw k (stays_so s.moment u e x));
    }
each s (event.DriverDown v) =
    let e : Event = event.DriverDown v in record {
      quiet = λ h. sym (server_same s v disconnected
          (λ x there. stays x.report.connected Done (Refused faults.NotConnected) (after_loss x) x refl
          (subst (λ (o : Option UpsState). is_quiet (disconnected_by o) ≡ true) there h)));
      leaves = λ u o x there. of_place disconnected u v s.upses x (Does s.moment u e x [] [] [] [])
          there (λ k same. down_does s.moment u e x x.report.connected refl) (λ k. stays_so s.moment u e x);
    }
each s (event.Tick seconds) =
    let now : ℕ = max seconds s.moment in record {
      quiet = λ h. cc h;
      leaves = λ u o x there. record {
        ups = after_tick s.max_age now x;
        there = slice_get-map (after_tick s.max_age now) s.upses u.place ∙
            ap (option_map (after_tick s.max_age now)) there;
        is = rw (append-nil, there) (tick_does s.moment u (event.Tick seconds) x now (ping_is_due s.max_age now x));
      };
    }
each s (event.Open address) = record {
  quiet = λ h. stays (may_open s) (Opened s.next_id) (Refused faults.TooManyClients) _ s refl h;
  leaves = λ u o x there. left_alone s u (event.Open address) x _
      (of_opened (λ t. ups_at u.place t ≡ Some x) s address (refused_after o) there (λ room. there));
}
each s (event.Feed c piece) = record {
  quiet = λ h. feed_stays s c piece (session c s) (is_overlong (after_all_lines (with_input s c piece) c) c) refl h;
  leaves = λ u o x there. by_client s.moment u (event.Feed c piece) x _ _
      (pump_adds u (with_input s c piece) c (refused_after o) x (session_keeps u (joined piece) s c x there));
}
each s (event.Took c n) = record {
  quiet = λ h. cond-false _ _ _ (may_not (session c s) n (is_overlong (after_all_lines (without_output s c n) c) c) h);
  leaves = λ u o x there. by_client s.moment u (event.Took c n) x _ _
      (took_adds u s c n (refused_after o) x (may_take (session c s) n) there);
}
each s (event.Close c) = record {
  quiet = λ h. close_stays s c (session c s) refl h;
  leaves = λ u o x there. left_alone s u (event.Close c) x _ there;
}
each s (event.Id id) = record {
  quiet = λ h. id_stays s id (id_fault id s.tracking) refl h;
  leaves = λ u o x there. left_alone s u (event.Id id) x _ there;
}

-- and what sessions hold and are owed matters to none, but where a client sends or takes
pub core_event : (s : ServerState) (e : Event) (m : Option ℕ) → IsPlain e →
    after_by (apart_from_bytes s) e m ≡ apart_from_bytes (after_by s e m)
unfolding after_by ticked lines_read
core_event s (event.DriverBytes u piece) m plain = bytes_change u piece m (apart_from_bytes s) ∙
    ap apart_from_bytes (sym (bytes_change u piece m s))
core_event s (event.Open address) m plain = core_opened s address m
core_event s (event.Feed c piece) m plain = absurd plain
core_event s (event.Took c n) m plain = absurd plain
core_event s (event.Close c) m plain = ap
    (λ (xs : List SessionState). let t : ServerState = record s { sessions = xs } in t)
    (sym (closed_without c s.sessions))
core_event s e m plain = refl

-- so a refused event
pub refused : (s : ServerState) (e : Event) (fault : Fault) → outcome_of s e ≡ Refused fault →
    is_harmless fault ≡ true → Step s e (Refused fault) s
refused s e fault is few = record {
  allowed = inl (sym is);
  leaves = sym (ap (after_by s e) (not_memory fault few) ∙
      (each s e).quiet (subst (λ (o : Outcome). is_quiet o ≡ true) (sym is) few));
}
