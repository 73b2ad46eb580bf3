-- Each event of a driver, over plain states.
use Rattle.std.proofs.Common.{◌≡◌, ℕ, zero, suc, ◌<◌, Bool, true, false, List, []}
use Rattle.std.proofs.Common.{◌∷◌, Option, Some, None, Result, Ok}
use Rattle.std.proofs.Common.{Err, refl, sym, subst, ◌∙◌, ap, arith, length, max, map, take}
use Rattle.std.proofs.Common.{drop, ◌++◌, set, get_or}
use Rattle.std.proofs.Common.{inl}
use Rattle.std.proofs.lemmas.Bool.Decides.{nat_tests}
use Rattle.nutcore.proofs.Common.{option_map, cond-true, slice_get_within, UpsId, TrackingState, Fault, ServerState}
use Rattle.nutcore.proofs.Common.{ups_at, with_ups_changed, with_tracking}
use Rattle.nutcore.specs.declared.event.Event.TheVariants.{DriverUp, DriverBytes, DriverTook, DriverDown, Tick}
use Rattle.nutcore.specs.declared.event.Outcome.TheVariants.{Done}
use Rattle.nutcore.specs.declared.event.Fault.TheVariants.{NoSuchUps, AlreadyConnected}
use Rattle.nutwords.specs.WholeLines.{whole_lines}
use Rattle.nutcore.specs.declared.note.Note.{Note}
use Rattle.nutcore.specs.declared.note.Note.TheVariants.{Data}
use Rattle.nutcore.specs.declared.note.DataState.TheVariants.{Awaited}
use Rattle.nutcore.specs.declared.note.TheConstants.{NOTE_LIMIT}
use Rattle.nutcore.specs.Notes.{notes_of, loss_notes}
use Rattle.nutcore.specs.Reports.{after_ends}
use Rattle.nutcore.specs.Ups.{UpsState, after_connecting, after_loss, after_tick, as_far, ups_after_bytes}
use Rattle.nutcore.specs.Step.{Step, MayAnswer}
use Rattle.nutcore.specs.DriverEvents.{connected, disconnected, after_driver_bytes, after_driver_took}
use Rattle.nutcore.specs.Step.{outcome_of, after, after_by, refused_after, MayLackMemory}
use Rattle.nutcore.specs.DriverEvents.{lines_read, ticked}
use Rattle.nutcore.specs.Calls.{is_connected, done, ReadsUps}
use Rattle.nutcore.specs.Cost.{RunningServer}
use Rattle.nutcore.specs.Promises.{with_note, IsTaken, Reports, IsAnswered}
use Rattle.nutcore.proofs.UpsPlaces.{Stands, of_ups, there_is, server_set}
use Rattle.nutcore.proofs.OneEvent.{Refuses}

-- what its connection says of a UPS
abbrev pub IsThere : ServerState → UpsId → Bool → Type 0
IsThere s u b = Stands u.place s.upses (λ x. x.report.connected ≡ b)

pub is_there : (s : ServerState) (u : UpsId) (b : Bool) →
    option_map is_connected (ups_at u.place s) ≡ Some b → IsThere s u b
is_there s u b h = grind arith

pub there_within : (s : ServerState) (u : UpsId) (b : Bool) → IsThere s u b → u.place < length s.upses
there_within s u b h = slice_get_within s.upses u.place h.ups h.there

-- the UPS of an event, as the code finds it
pub record Stood (v : ServerState) (u : UpsId) (x : UpsState) (b : Bool) : Type 0 where
  pub there : ups_at u.place v ≡ Some x
  pub is : x.report.connected ≡ b

pub stood_within : (v s : RunningServer) (u : UpsId) (b : Bool) → v ≡ s
    → option_map is_connected (ups_at u.place s.state) ≡ Some b → u.place < length v.state.upses
stood_within v s u b same h = subst (λ (z : RunningServer). u.place < length z.state.upses) (sym same)
    (there_within s.state u b (is_there s.state u b h))

pub stood : {v s : RunningServer} {u : UpsId} {x : UpsState} {b : Bool} → v ≡ s
    → option_map is_connected (ups_at u.place s.state) ≡ Some b → x ≡ get_or v.state.upses u.place x
    → Stood v.state u x b
stood {v} {s} {u} {x} {b} same h at =
    let there : ups_at u.place v.state ≡ Some x = there_is v.state.upses u.place x (stood_within v s u b same h) at in
    let is = is_there s.state u b h in
    record {
      there = there;
      is = of_ups s.state u is.ups (λ y. y.report.connected ≡ b) is.there is.is x
          (ap (λ (z : RunningServer). ups_at u.place z.state) (sym same) ∙ there);
    }

-- what is answered of its connection
pub connected_so : (o : Option UpsState) (b : Bool) → ReadsUps is_connected o (Ok b)
    → option_map is_connected o ≡ Some b
connected_so o b h = grind arith

pub no_ups_read : (o : Option UpsState) (fault : Fault) → ReadsUps is_connected o (Err fault)
    → (fault ≡ NoSuchUps) × (o ≡ None)
no_ups_read o fault h = grind arith

-- a UPS in place of the one that stands there
abbrev pub in_place : ServerState → UpsId → UpsState → ServerState
in_place s u y = record s { upses = set s.upses u.place y }

-- a driver connects
pub up_again : (s : ServerState) (u : UpsId) → option_map is_connected (ups_at u.place s) ≡ Some true
    → Refuses s (DriverUp u) AlreadyConnected
unfolding outcome_of
up_again s u h = record { is = grind arith; harmless = refl }

pub up_does : {s : ServerState} {u : UpsId} {x y : UpsState} → Stood s u x false → y ≡ after_connecting s.moment x
    → Step s (DriverUp u) Done (in_place s u y)
unfolding outcome_of after_by
up_does {s} {u} {x} {y} at e = grind (arith, server_set s u (connected s.moment) x y at.there)

pub up_noted : {s : ServerState} {u : UpsId} {x : UpsState} {n n' : List Note} → Stood s u x false → n ≡ []
    → n' ≡ with_note (Some (Data u Awaited)) n → n' ≡ notes_of s (DriverUp u) Done
up_noted at none noted = noted ∙ rw (at.there, at.is, none) refl

-- is lost
pub down_does : {s : ServerState} {u : UpsId} {x y : UpsState} → Stood s u x true → y ≡ after_loss x
    → Step s (DriverDown u) Done (in_place s u y)
unfolding outcome_of after_by
down_does {s} {u} {x} {y} at e = grind (arith, server_set s u disconnected x y at.there)

pub down_noted : {s : ServerState} {u : UpsId} {x : UpsState} {n n' : List Note} → Stood s u x true → n ≡ []
    → n' ≡ take NOTE_LIMIT (n ++ loss_notes u x) → n' ≡ notes_of s (DriverDown u) Done
down_noted at none noted = noted ∙ rw (at.there, at.is, none) refl

-- takes of what it is owed
pub took_does : {s : ServerState} {u : UpsId} {n : ℕ} {x : UpsState} (y : UpsState) (r : Result (Unit {0}) Fault)
    → Stood s u x true → IsTaken n x r y → Step s (DriverTook u n) (done r) (in_place s u y)
unfolding outcome_of after_by
took_does {s} {u} {n} {x} y r at taken =
    let to = λ (e : y ≡ after_driver_took n x). server_set s u (after_driver_took n) x y at.there e in
    grind (arith, nat_tests)

-- what it reported, and what is noted of it
pub bytes_do : {s : ServerState} {u : UpsId} {piece : List ℕ} {x y : UpsState} {r : Result (Unit {0}) Fault}
    {n n' : List Note} {t : TrackingState} → Stood s u x true
    → Reports s.max_age s.moment u (x.unfinished ++ piece) x s.tracking n r y t n' →
    Step s (DriverBytes u piece) (done r) (with_tracking t (in_place s u y))
unfolding outcome_of after_by MayLackMemory after_driver_bytes lines_read
bytes_do {s} {u} {piece} {x} {y} {r} {n} {n'} {t} at h = record { allowed = allowed r h.answers; leaves = leaves }
  where
    m : Option ℕ
    m = refused_after (done r)

    allowed : (r : Result (Unit {0}) Fault) →
        IsAnswered s.moment u.place s.tracking (x.unfinished ++ piece) x r →
        MayAnswer s (DriverBytes u piece) (done r)
    allowed r answers = grind arith

    leaves : with_tracking t (in_place s u y) ≡ after s (DriverBytes u piece) (done r)
    leaves =
        let f : UpsState → UpsState = ups_after_bytes s.moment u.place s.tracking piece m in
        let same : y ≡ f x = h.leaves ∙ sym (cond-true _ _ _ at.is) in
        let lines : lines_read u piece m s ≡ as_far m (whole_lines (x.unfinished ++ piece)) =
        rw (at.there, at.is) refl
        in
        ap (with_tracking t) (server_set s u f x y at.there same) ∙ ap
        (λ (k : TrackingState). with_tracking k (with_ups_changed f u s))
        (h.settles ∙ ap (λ (z : List (List ℕ)). after_ends u.place z s.tracking) (sym lines))

pub bytes_noted : {s : ServerState} {u : UpsId} (piece : List ℕ) {x y : UpsState} {r : Result (Unit {0}) Fault}
    {n n' : List Note} {t : TrackingState} → Stood s u x true → n ≡ []
    → Reports s.max_age s.moment u (x.unfinished ++ piece) x s.tracking n r y t n' → n' ≡ notes_of s
    (DriverBytes u piece) (done r)
bytes_noted piece at none h = h.notes_it ∙ rw (at.there, at.is, none) refl

-- the clock
pub tick_done : (s t : ServerState) (seconds : ℕ) → t ≡ ticked seconds s → Step s (Tick seconds) Done t
unfolding outcome_of after_by
tick_done s t seconds e = record { allowed = inl refl; leaves = e }

-- one more of a list's elements is changed, those before it being so already
pub changed_so_far : (f : UpsState → UpsState) (p : ℕ) (xs : List UpsState) (x : UpsState) →
    p < length xs → x ≡ get_or (map f (take p xs) ++ drop p xs) p x →
    set (map f (take p xs) ++ drop p xs) p (f x) ≡ map f (take (suc p) xs) ++ drop (suc p) xs
changed_so_far f p [] x lt e = absurd (omega arith)
changed_so_far f zero (y ∷ xs) x lt e = ap (λ (z : UpsState). f z ∷ xs) e
changed_so_far f (suc p) (y ∷ xs) x lt e =
    ap (λ (zs : List UpsState). f y ∷ zs) (changed_so_far f p xs x (omega (arith, lt)) e)

pub ticked_is : (s : ServerState) (seconds moment age : ℕ) (xs : List UpsState) → moment ≡
    max seconds s.moment → age ≡ s.max_age → xs ≡ map (after_tick age moment) s.upses →
    (let code : ServerState = record s { moment = moment; upses = xs } in code ≡ ticked seconds s)
unfolding ticked
ticked_is s seconds moment age xs em ea exs = grind arith
