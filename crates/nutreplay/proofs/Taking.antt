-- What clients and drivers take of what they are offered.
use Rattle.std.proofs.Common.{refl, ◌≡◌, ◌≢◌, ℕ, ◌+◌, ◌<◌, ◌∙◌, List}
use Rattle.std.proofs.Common.{[], sym, ap, subst, length, length-append, arith, Option, Some, None}
use Rattle.std.proofs.Common.{Bool, true, false, ◌&&◌, eqb, take, if◌then◌else◌}
use Rattle.std.proofs.Common.{◌≤◌}
use Rattle.std.proofs.lemmas.Grind.{common_steps}
use Rattle.std.proofs.lemmas.Bool.Decides.{nat_tests}
use Rattle.std.specs.Prelude.{is_some}
use Rattle.std.proofs.lemmas.Bool.{le-leb, lt-leb, and_from, and_left, and_right, eq-eqb}
use Rattle.std.proofs.Math.Seq.{take-nil}
use Rattle.std.specs.Option.{option_map, option_map_or}
use Rattle.std.proofs.lemmas.List.{take-take, length-take}
use Rattle.nutcore.specs.Session.{SessionState}
use Rattle.nutusers.specs.declared.ups_list.UpsId.{UpsId}
use Rattle.nutcore.specs.Ups.{UpsState}
use Rattle.nutcore.specs.Server.{ServerState, session}
use Rattle.nutcore.specs.Parts.{ups_at}
use Rattle.nutcore.specs.Pump.{owed_of}
use Rattle.nutcore.specs.Step.{may_take, offered}
use Rattle.nutcore.specs.DriverEvents.{driver_may_take}
use Rattle.nutcore.specs.Calls.{is_connected, owed_to}
use Rattle.nutcore.specs.DriverOrders.{taken_in_event as driver_taken_in_event, owed_to_driver}
use Rattle.nutcore.specs.History.{taken_in_event}
use Rattle.nutcore.specs.declared.event.Event.TheVariants.{Took, DriverTook}
use Rattle.nutlisting.specs.declared.outbox.TheConstants.{QUEUE_LIMIT}
use Rattle.nutreplay.specs.declared.transcript.sent.Taken.{Taken}
use Rattle.nutcore.specs.declared.event.Peer.{Peer}
use Rattle.nutcore.specs.declared.event.Peer.TheVariants.{Client, Driver}
use Rattle.nutreplay.specs.Script.{took}
use Rattle.nutreplay.specs.Transcript.{TranscriptState, Happens, TakesAgain, count_offered, taken_by}
use Rattle.nutreplay.specs.Transcript.TakesAgain.{again}

-- each taking is kept
one_taken : (p : Peer) (n : ℕ) (s : ServerState) → length (taken_by s (took p n)) ≡ 1
one_taken (Client c) n s = refl
one_taken (Driver u) n s = refl

pub taken_longer : (line : ℕ) (p : Peer) (n : ℕ) (old new : TranscriptState) →
    Happens line (took p n) old new → length new.taken ≡ length old.taken + 1
taken_longer line p n old new h = ap (λ (ts : List Taken). length ts) h.taken ∙
    length-append old.taken _ ∙ ap (λ (m : ℕ). length old.taken + m) (one_taken p n old.server)

pub takes_again : (line : ℕ) (p : Peer) (n : ℕ) (old mid new : TranscriptState) → n ≡
    count_offered p old → 0 < n → Happens line (took p n) old mid →
    TakesAgain line p mid new → TakesAgain line p old new
takes_again line p n old mid new e some h rest =
    let more : count_offered p old ≢ 0 = omega (arith, e, some) in
    again old mid new more (subst (λ (m : ℕ). Happens line (took p m) old mid) e h) rest

-- the first taking, of the transcript as its fields say
pub first_time : (line : ℕ) (p : Peer) (n : ℕ) (t fields mid : TranscriptState) → fields ≡
    t → n ≡ count_offered p fields → Happens line (took p n) t mid →
    Happens line (took p (count_offered p t)) t mid
first_time line p n t fields mid is count h =
    subst (λ (m : ℕ). Happens line (took p m) t mid) (count ∙ ap (count_offered p) is) h

-- what is taken, by the session
pub client_taken_of : (c n : ℕ) (s : ServerState) (o : Option SessionState) → session c s ≡
    o → taken_in_event c s (Took c n) ≡ (if may_take o n then take n (owed_of o) else [])
unfolding taken_in_event
client_taken_of c n s o e = grind (arith, nat_tests, common_steps, e)

pub taken_none : (c n : ℕ) (s : ServerState) → session c s ≡ None → taken_in_event c s (Took c n) ≡ []
taken_none c n s e = client_taken_of c n s None e

pub when_true : (b : Bool) (xs : List ℕ) → b ≡ true → (if b then xs else []) ≡ xs
when_true true xs e = refl
when_true false xs e = cc e

pub when_false : (b : Bool) (xs : List ℕ) → b ≡ false → (if b then xs else []) ≡ []
when_false true xs e = cc e
when_false false xs e = refl

-- n bytes of the first ones are the first n
within_offer : (limit n : ℕ) (owed : List ℕ) → n ≤ length (take limit owed) →
    take n (take limit owed) ≡ take n owed
within_offer limit n owed h = take-take n limit owed (omega (arith, h, length-take limit owed))

taken_open : (c n : ℕ) (s : ServerState) (o : Option SessionState) (bytes : List ℕ) →
    session c s ≡ o → is_some o ≡ true → bytes ≡ offered o → n ≤ length bytes →
    taken_in_event c s (Took c n) ≡ take n bytes
taken_open c n s None bytes e is_open b h = cc is_open
taken_open c n s (Some x) bytes e is_open b h =
    let few : n ≤ length (offered (Some x)) = subst (λ (xs : List ℕ). n ≤ length xs) b h in
    client_taken_of c n s (Some x) e ∙
    when_true (may_take (Some x) n) (take n x.owed) (le-leb _ _ few) ∙
    sym (within_offer QUEUE_LIMIT n x.owed few) ∙ sym (ap (λ (xs : List ℕ). take n xs) b)

pub taken_some : (c n : ℕ) (s : ServerState) (bytes : List ℕ) → is_some (session c s) ≡
    true → bytes ≡ offered (session c s) → n ≤ length bytes → taken_in_event c s (Took c n) ≡ take n bytes
taken_some c n s bytes is_open b h = taken_open c n s (session c s) bytes refl is_open b h

taken_fewer : (c n : ℕ) (s : ServerState) (o : Option SessionState) (bytes : List ℕ) →
    session c s ≡ o → is_some o ≡ true → bytes ≡ offered o → length bytes < n →
    taken_in_event c s (Took c n) ≡ []
taken_fewer c n s None bytes e is_open b h = cc is_open
taken_fewer c n s (Some x) bytes e is_open b h =
    let more : length (offered (Some x)) < n = subst (λ (xs : List ℕ). length xs < n) b h in
    client_taken_of c n s (Some x) e ∙ when_false (may_take (Some x) n) (take n x.owed) (lt-leb _ _ more)

pub taken_too_few : (c n : ℕ) (s : ServerState) (bytes : List ℕ) → is_some (session c s) ≡
    true → bytes ≡ offered (session c s) → length bytes < n → taken_in_event c s (Took c n) ≡ []
taken_too_few c n s bytes is_open b h = taken_fewer c n s (session c s) bytes refl is_open b h

-- what a driver takes, by its UPS
driver_taken_of : (u : UpsId) (n : ℕ) (s : ServerState) (o : Option UpsState) (bytes : List ℕ)
    → ups_at u.place s ≡ o → option_map_or (driver_may_take n) o false ≡ true →
    option_map_or (λ x. x.owed) o [] ≡ bytes
    → driver_taken_in_event u s (DriverTook u n) ≡ take n bytes
driver_taken_of u n s o bytes e may owed =
    when_true (eqb u.place u.place && option_map_or (driver_may_take n) (ups_at u.place s) false)
    (take n (owed_to_driver u s))
    (and_from _ _ (eq-eqb u.place u.place refl)
    (ap (λ (z : Option UpsState). option_map_or (driver_may_take n) z false) e ∙ may))
    ∙ ap (λ (z : Option UpsState). take n (option_map_or (λ x. x.owed) z [])) e ∙ ap (take n) owed

nothing_taken : (u : UpsId) (n : ℕ) (s : ServerState) (o : Option UpsState) →
    ups_at u.place s ≡ o → option_map_or (driver_may_take n) o false ≡ false →
    driver_taken_in_event u s (DriverTook u n) ≡ []
nothing_taken u n s o e may =
    when_false (eqb u.place u.place && option_map_or (driver_may_take n) (ups_at u.place s) false)
    (take n (owed_to_driver u s))
    (and_right _ _ (ap (λ (z : Option UpsState). option_map_or (driver_may_take n) z false) e ∙ may))

pub driver_taken_none : (u : UpsId) (n : ℕ) (s : ServerState) → ups_at u.place s ≡ None →
    driver_taken_in_event u s (DriverTook u n) ≡ []
driver_taken_none u n s e = nothing_taken u n s None e refl

driver_open : (u : UpsId) (n : ℕ) (s : ServerState) (x : UpsState) (bytes : List ℕ) (b : Bool)
    → ups_at u.place s ≡ Some x → x.report.connected ≡ b → x.owed ≡ bytes →
    (b ≡ false → bytes ≡ []) → n ≤ length bytes
    → driver_taken_in_event u s (DriverTook u n) ≡ take n bytes
driver_open u n s x bytes true e is owed idle few =
    driver_taken_of u n s (Some x) bytes e
    (and_from _ _ is (le-leb n (length x.owed) (subst (λ (xs : List ℕ). n ≤ length xs) (sym owed) few))) owed
driver_open u n s x bytes false e is owed idle few =
    nothing_taken u n s (Some x) e (and_left _ _ is) ∙ sym (ap (take n) (idle refl) ∙ take-nil n)

by_state : (u : UpsId) (n : ℕ) (s : ServerState) (o : Option UpsState) (bytes : List ℕ) →
    ups_at u.place s ≡ o → option_map owed_to o ≡ Some bytes →
    (option_map is_connected o ≡ Some false → bytes ≡ []) → n ≤ length bytes
    → driver_taken_in_event u s (DriverTook u n) ≡ take n bytes
by_state u n s None bytes e owed idle few = cc owed
by_state u n s (Some x) bytes e owed idle few = let same : x.owed ≡ bytes = cc owed in
    driver_open u n s x bytes x.report.connected e refl same (λ k. idle (ap (λ (b : Bool). Some b) k)) few

pub driver_taken_some : (u : UpsId) (n : ℕ) (s : ServerState) (bytes : List ℕ) →
    option_map owed_to (ups_at u.place s) ≡ Some bytes →
    (option_map is_connected (ups_at u.place s) ≡ Some false → bytes ≡ []) → n ≤ length bytes
    → driver_taken_in_event u s (DriverTook u n) ≡ take n bytes
driver_taken_some u n s bytes owed idle few = by_state u n s (ups_at u.place s) bytes refl owed idle few

driver_fewer : (u : UpsId) (n : ℕ) (s : ServerState) (o : Option UpsState) (bytes : List ℕ) →
    ups_at u.place s ≡ o → option_map owed_to o ≡ Some bytes → length bytes < n →
    driver_taken_in_event u s (DriverTook u n) ≡ []
driver_fewer u n s None bytes e owed more = cc owed
driver_fewer u n s (Some x) bytes e owed more =
    let same : x.owed ≡ bytes = cc owed in
    nothing_taken u n s (Some x) e (and_right _ _
    (lt-leb _ _ (subst (λ (xs : List ℕ). length xs < n) (sym same) more)))

pub driver_taken_too_few : (u : UpsId) (n : ℕ) (s : ServerState) (bytes : List ℕ) →
    option_map owed_to (ups_at u.place s) ≡ Some bytes → length bytes < n →
    driver_taken_in_event u s (DriverTook u n) ≡ []
driver_taken_too_few u n s bytes owed more = driver_fewer u n s (ups_at u.place s) bytes refl owed more
