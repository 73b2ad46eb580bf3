-- Turns, one after another, and what they move.
use Rattle.std.proofs.Common.{◌≡◌, ℕ, zero, suc, Bool, true, false, List, [], ◌∷◌}
use Rattle.std.proofs.Common.{◌++◌, length, take, Option, Some, None, refl, sym, ap, ap₂, inl, inr}
use Rattle.std.proofs.Common.{subst, ◌∙◌, ◌+◌, add-one, append-nil, append_assoc, arith}
use Rattle.std.proofs.Common.{rules, All}
use Rattle.std.specs.Prelude.{◌≤◌, ◌==◌, if◌then◌else◌, Result, Ok, Err, IfSome, IsTrue, nat_le}
use Rattle.std.specs.Option.{option_map_or}
use Rattle.std.specs.List.{flat_map}
use Rattle.std.proofs.lemmas.Grind.{flat_map-append}
use Rattle.std.proofs.lemmas.Bool.Decides.{nat_tests}
use Rattle.std.proofs.lemmas.List.Elements.{All-nil, All-cons, All-head, All-tail}
use Rattle.nutusers.specs.declared.ups_list.UpsId.{UpsId}
use Rattle.nutcore.specs.declared.event.Event.{Event}
use Rattle.nutcore.specs.declared.event.Event.TheVariants as event
use Rattle.nutcore.specs.declared.event.Outcome.{Outcome}
use Rattle.nutcore.specs.declared.event.Peer.TheVariants.{Client, Driver}
use Rattle.nutcore.specs.declared.TheConstants.{DRIVER_READ_LIMIT}
use Rattle.nutcore.specs.declared.note.Note.{Note}
use Rattle.nutcore.specs.Session.{SessionState}
use Rattle.nutcore.specs.Server.{ServerState, session}
use Rattle.nutcore.specs.Pump.{owed_of}
use Rattle.nutcore.specs.Cost.{RunningServer, forgetful}
use Rattle.nutcore.specs.Notes.{IsReadAtOnce, notes_of}
use Rattle.nutcore.specs.NotedRuns.{notes_along}
use Rattle.nutcore.specs.Recording.{Recorded, Continues}
use Rattle.nutcore.specs.Step.{after, offered, may_take}
use Rattle.nutcore.specs.Run.{Run}
use Rattle.nutcore.specs.History.{taken, taken_in_event}
use Rattle.nutcore.specs.DriverHistory.{came, came_in_event, has_driver}
use Rattle.nutcore.specs.DriverOrders.{owed_to_driver}
use Rattle.nutcore.specs.Addresses.{OpensLawfully, opened_from}
use Rattle.nutwords.specs.Reading.{is_address}
use Rattle.nutloop.specs.declared.fault.LoopFault.{LoopFault}
use Rattle.nutloop.specs.declared.fault.LoopFault.TheVariants as fault
use Rattle.nutloop.specs.declared.sockets.Ready.{Ready}
use Rattle.nutloop.specs.declared.sockets.Ready.TheVariants.{Nothing, Newcomer, Tick, Id, DriverUp, Read, Write}
use Rattle.nutloop.specs.declared.sockets.Call.{Call}
use Rattle.nutloop.specs.declared.sockets.Call.TheVariants.{Readied}
use Rattle.nutloop.specs.declared.turns.Loop.{Loop}
use Rattle.nutloop.specs.Sockets.{Follows, IsFound, Told, look_calls}
use Rattle.nutloop.specs.Turn.{ask, answered, row_events, calls_behind_all, AreNoted, IsTurn, MayAnswer}
use Rattle.nutloop.specs.Turn.{Answer, unasked, newcomer, gave, later, ended, took, failed, nobody, reads}
use Rattle.nutloop.specs.Turn.{opening, read_of_client, read_of_driver, write_to_client, write_to_driver}
use Rattle.nutloop.specs.Serving.{Turns, ShownTurns, Ends, Serves, TurnsUpTo}
use Rattle.nutloop.specs.Moved.{is_client, is_driver, gave_in, took_in, along, fed_in_event}
use Rattle.nutloop.specs.Moved.{driver_took_in_event, AreMoved, EveryByteIsMovedOnce}
use Rattle.nutloop.proofs.Rows.{follows_nothing, follows_joins, continues_nothing, continues_joins}
use Rattle.nutloop.proofs.Moving.{Fit, row_moves, behind_all}

-- Runs and what is found along them are joined.
pub run_joins : (s mid new : ServerState) (es fs : List Event) (os qs : List Outcome) →
    Run s es os mid → Run mid fs qs new → Run s (es ++ fs) (os ++ qs) new
run_joins s mid new [] fs [] qs r q = subst (λ t. Run t fs qs new) r q
run_joins s mid new [] fs (o ∷ os) qs r q = absurd r
run_joins s mid new (e ∷ es) fs [] qs r q = absurd r
run_joins s mid new (e ∷ es) fs (o ∷ os) qs r q = (r.0, r.1, run_joins r.0 mid new es fs os qs r.2 q)

pub along_joins : (f : ServerState → Event → List ℕ) (s mid : ServerState)
    (es fs : List Event) (os qs : List Outcome) → Run s es os mid →
    along f s (es ++ fs) (os ++ qs) ≡ along f s es os ++ along f mid fs qs
along_joins f s mid [] fs [] qs r = ap (λ t. along f t fs qs) (sym r)
along_joins f s mid [] fs (o ∷ os) qs r = absurd r
along_joins f s mid (e ∷ es) fs [] qs r = absurd r
along_joins f s mid (e ∷ es) fs (o ∷ os) qs r =
    let rest : Run (after s e o) es os mid = subst (λ t. Run t es os mid) r.1.leaves r.2 in
    ap (λ v. f s e ++ v) (along_joins f (after s e o) mid es fs os qs rest) ∙
    sym (append_assoc (f s e) (along f (after s e o) es os) (along f mid fs qs))

notes_join : (s mid : ServerState) (es fs : List Event) (os qs : List Outcome) →
    Run s es os mid → notes_along s (es ++ fs) (os ++ qs) ≡ notes_along s es os ++ notes_along mid fs qs
notes_join s mid [] fs [] qs r = ap (λ t. notes_along t fs qs) (sym r)
notes_join s mid [] fs (o ∷ os) qs r = absurd r
notes_join s mid (e ∷ es) fs [] qs r = absurd r
notes_join s mid (e ∷ es) fs (o ∷ os) qs r =
    let rest : Run (after s e o) es os mid = subst (λ t. Run t es os mid) r.1.leaves r.2 in
    ap (λ v. notes_of s e o ++ v) (notes_join (after s e o) mid es fs os qs rest) ∙
    sym (append_assoc (notes_of s e o) (notes_along (after s e o) es os) (notes_along mid fs qs))

pub all_joins : {X : Type 0} (P : X → Type 0) (xs ys : List X) → All P xs → All P ys → All P (xs ++ ys)
all_joins P [] ys h k = k
all_joins P (x ∷ xs) ys h k = All-cons P x (xs ++ ys) (All-head P x xs h) (all_joins P xs ys (All-tail P x xs h) k)

noted_by_one : (s : ServerState) (v : RunningServer) (new : RunningServer) (es : List Event) (os : List Outcome) →
    AreNoted (forgetful s v.waste) es os new → new.notes ≡ notes_along s es os
noted_by_one s v new [] [] h = h
noted_by_one s v new (e ∷ []) (o ∷ []) h = h ∙ sym (append-nil (notes_of s e o))
noted_by_one s v new [] (o ∷ os) h = absurd h
noted_by_one s v new (e ∷ []) [] h = absurd h
noted_by_one s v new (e ∷ []) (o ∷ (q ∷ os)) h = absurd h
noted_by_one s v new (e ∷ (f ∷ es)) os h = absurd h

-- They open sessions only from lawful addresses: of any other there would be something.
abbrev unlawful : Option (List ℕ) → List ℕ
unlawful address = option_map_or (λ a. if is_address a then [] else (0 ∷ [])) address []

is_lawful : (address : Option (List ℕ)) → unlawful address ≡ [] → IfSome address (λ a. IsTrue (is_address a))
is_lawful None h = tt
is_lawful (Some a) h = of_test (is_address a) h
  where
    of_test : (b : Bool) → if◌then◌else◌ {A = List ℕ} b [] (0 ∷ []) ≡ [] → IsTrue b
    of_test true h = search rules
    of_test false h = cc h

lawful_fits : Fit (λ x. []) (λ s e. unlawful (opened_from e))
lawful_fits = search rules

empty : (xs ys : List ℕ) → xs ++ ys ≡ [] → (xs ≡ []) × (ys ≡ [])
empty [] ys h = (refl, h)
empty (x ∷ xs) ys h = cc h

none_given : (since : List Call) → flat_map {A = ℕ} (λ x. []) since ≡ []
none_given [] = refl
none_given (x ∷ since) = none_given since

opens_lawfully : (s new : ServerState) (es : List Event) (os : List Outcome) → Run s es os new →
    along (λ s e. unlawful (opened_from e)) s es os ≡ [] → All OpensLawfully es
opens_lawfully s new [] os r h = All-nil OpensLawfully
opens_lawfully s new (e ∷ es) [] r h = absurd r
opens_lawfully s new (e ∷ es) (o ∷ os) r h =
    let no = empty (unlawful (opened_from e)) (along (λ s e. unlawful (opened_from e)) (after s e o) es os) h in
    All-cons OpensLawfully e es (is_lawful (opened_from e) no.0)
    (opens_lawfully (after s e o) new es os (subst (λ t. Run t es os new) r.1.leaves r.2) no.1)

-- A row reads a driver at once, no more than is read.
driver_reads : (u : UpsId) (b : Bool) (answer : Answer) →
    MayAnswer (if b then reads (Driver u) DRIVER_READ_LIMIT else nobody) answer →
    All IsReadAtOnce (read_of_driver u answer)
driver_reads u true (gave bytes) may = All-cons IsReadAtOnce (event.DriverBytes u bytes) [] may (All-nil IsReadAtOnce)
driver_reads u false (gave bytes) may = absurd may
driver_reads u b later may = search rules
driver_reads u b ended may = search rules
driver_reads u b failed may = search rules
driver_reads u b unasked may = search rules
driver_reads u b (newcomer address) may = search rules
driver_reads u b (took n) may = search rules

client_reads : (s : ServerState) (c : ℕ) (answer : Answer) → All IsReadAtOnce (read_of_client s c answer)
client_reads s c answer = search rules

client_writes : (s : ServerState) (c : ℕ) (answer : Answer) → All IsReadAtOnce (write_to_client s c answer)
client_writes s c answer = search rules

driver_writes : (u : UpsId) (answer : Answer) → All IsReadAtOnce (write_to_driver u answer)
driver_writes u answer = search rules

opens_reads : (answer : Answer) → All IsReadAtOnce (opening answer)
opens_reads answer = search rules

pub row_reads_at_once : (s : ServerState) (ready : Ready) (answer : Answer) → MayAnswer (ask s ready) answer →
    All IsReadAtOnce (row_events s ready answer)
row_reads_at_once s Nothing answer may = search rules
row_reads_at_once s (Tick n) answer may = search rules
row_reads_at_once s Newcomer answer may = opens_reads answer
row_reads_at_once s (Id n) answer may = search rules
row_reads_at_once s (DriverUp u) answer may = search rules
row_reads_at_once s (Read (Client c)) answer may = client_reads s c answer
row_reads_at_once s (Read (Driver u)) answer may = driver_reads u (has_driver u s) answer may
row_reads_at_once s (Write (Client c)) answer may = client_writes s c answer
row_reads_at_once s (Write (Driver u)) answer may = driver_writes u answer

-- The calls of a row, after those that find what is ready.
pub row_reads : (g : Call → List ℕ) (f : ServerState → Event → List ℕ) → Fit g f →
    (found a b : List Call) (bytes : List ℕ) → flat_map g found ≡ [] → flat_map g a ≡
    bytes → flat_map g b ≡
    [] → flat_map g ((found ++ a) ++ b) ≡ bytes
row_reads g f fit found a b bytes hf ha hb =
    flat_map-append g (found ++ a) b
    ∙ ap₂ (λ v w. v ++ w) (flat_map-append g found a) hb
    ∙ append-nil (flat_map g found ++ flat_map g a)
    ∙ ap (λ v. v ++ flat_map g a) hf
    ∙ ha

-- What found what is ready: nothing, or a look.
abbrev pub finding : {soon : Bool} {s : ServerState} {ready : Ready} {a b : Told} →
    IsFound soon s ready a b → List Call
finding {soon} {s} {ready} (inl known) = Readied ready ∷ []
finding {soon} {s} {ready} (inr looked) = look_calls looked.0 ready

pub found_follows : {soon : Bool} {s : ServerState} {ready : Ready} {a b : Told} (f : IsFound soon s ready a b) →
    Follows a.calls (finding f) b.calls
found_follows (inl known) = known.follows
found_follows (inr looked) = looked.2.follows

pub found_reads : (g : Call → List ℕ) (f : ServerState → Event → List ℕ) → Fit g f →
    {soon : Bool} {s : ServerState}
    {ready : Ready} {a b : Told} (h : IsFound soon s ready a b) → flat_map g (finding h) ≡ []
found_reads g f fit {soon} {s} {ready} (inl known) = append-nil (g (Readied ready)) ∙ fit.readied ready
found_reads g f fit {soon} {s} {ready} (inr looked) =
    ap₂ (λ v w. v ++ (w ++ [])) (fit.looked looked.0) (fit.readied ready)

module _ {S R : Type 0} (told : S → Told) (holds : R → Recorded) where
  -- What turns did, in the words of any reading of calls and events that fit.
  pub record Between (old new : Loop S R) : Type 0 where
    pub since : List Call
    pub events : List Event
    pub outcomes : List Outcome
    pub follows : Follows (told old.sockets).calls since (told new.sockets).calls
    pub run : Run old.server.state events outcomes new.server.state
    pub reads : All IsReadAtOnce events
    pub recorded : Continues (holds old.recorder) events (holds new.recorder)
    pub moves : (g : Call → List ℕ) (f : ServerState → Event → List ℕ) → Fit g f →
        flat_map g since ≡ along f old.server.state events outcomes

  abbrev pub one : (soon : Bool) (old new : Loop S R) → IsTurn told holds soon old new → Between old new
  one soon old new t =
      let s = old.server.state in
      let w = t.row in
      let es : List Event = row_events s t.ready w.answer in
      let found = finding t.found in
      record {
        since = (found ++ answered (ask s t.ready) w.answer) ++ calls_behind_all es w.does.outcomes;
        events = es;
        outcomes = w.does.outcomes;
        follows = follows_joins (told old.sockets).calls (told w.mid).calls (told new.sockets).calls
            (found ++ answered (ask s t.ready) w.answer) (calls_behind_all es w.does.outcomes)
            (follows_joins (told old.sockets).calls (told t.mid).calls (told w.mid).calls found
            (answered (ask s t.ready) w.answer) (found_follows t.found) w.called.follows)
            w.does.reported.follows;
        run = w.does.run;
        reads = row_reads_at_once s t.ready w.answer w.may;
        recorded = w.does.recorded;
        moves = λ g f fit. row_reads g f fit found (answered (ask s t.ready) w.answer)
            (calls_behind_all es w.does.outcomes) (along f s es w.does.outcomes) (found_reads g f fit t.found)
            (row_moves g f fit s new.server.state t.ready w.answer w.does.outcomes w.may w.does.run)
            (behind_all g f fit es w.does.outcomes);
      }

  turn_notes : (soon : Bool) (old new : Loop S R) (t : IsTurn told holds soon old new) → new.server.notes ≡
      notes_along old.server.state (one soon old new t).events (one soon old new t).outcomes
  turn_notes soon old new t = noted_by_one old.server.state t.server new.server
      (row_events old.server.state t.ready t.row.answer) t.row.does.outcomes t.row.does.noted

  -- No event happens.
  abbrev nothing_happens : (old new : Loop S R) (since : List Call) → new.server.state ≡ old.server.state →
      Follows (told old.sockets).calls since (told new.sockets).calls →
      Continues (holds old.recorder) [] (holds new.recorder) →
      ((g : Call → List ℕ) (f : ServerState → Event → List ℕ) → Fit g f →
      flat_map g since ≡ []) → Between old new
  nothing_happens old new since same follows recorded moves = record {
    since = since;
    events = [];
    outcomes = [];
    follows = follows;
    run = same;
    reads = All-nil IsReadAtOnce;
    recorded = recorded;
    moves = moves;
  }

  abbrev pub still : (old new : Loop S R) → new ≡ old → Between old new
  still old new same = nothing_happens old new [] (ap (λ (r : Loop S R). r.server.state) same)
      (subst (λ (r : Loop S R). Follows (told old.sockets).calls [] (told r.sockets).calls) (sym same)
      (follows_nothing (told old.sockets).calls))
      (subst (λ (r : Loop S R). Continues (holds old.recorder) [] (holds r.recorder)) (sym same)
      (continues_nothing (holds old.recorder))) (λ g f fit. refl)

  abbrev pub joined : (old mid new : Loop S R) → Between old mid → Between mid new → Between old new
  joined old mid new x y = record {
    since = x.since ++ y.since;
    events = x.events ++ y.events;
    outcomes = x.outcomes ++ y.outcomes;
    follows = follows_joins (told old.sockets).calls (told mid.sockets).calls (told new.sockets).calls
        x.since y.since x.follows y.follows;
    run = run_joins old.server.state mid.server.state new.server.state x.events y.events x.outcomes
        y.outcomes x.run y.run;
    reads = all_joins IsReadAtOnce x.events y.events x.reads y.reads;
    recorded = continues_joins (holds old.recorder) (holds mid.recorder) (holds new.recorder) x.events
        y.events x.recorded y.recorded;
    moves = λ g f fit. flat_map-append g x.since y.since ∙
        ap (λ v. v ++ flat_map g y.since) (x.moves g f fit) ∙
        ap (λ v. along f old.server.state x.events x.outcomes ++ v) (y.moves g f fit) ∙
        sym (along_joins f old.server.state mid.server.state x.events y.events x.outcomes y.outcomes x.run);
  }

  open_lawfully : (old new : Loop S R) (m : Between old new) → All OpensLawfully m.events
  open_lawfully old new m =
      opens_lawfully old.server.state new.server.state m.events m.outcomes m.run
      (sym (m.moves (λ x. []) (λ s e. unlawful (opened_from e)) lawful_fits) ∙ none_given m.since)

  turns_are_moved : (n : ℕ) (old new : Loop S R) → Turns told holds old n new → Between old new
  turns_are_moved zero old new t = still old new t
  turns_are_moved (suc n) old new (mid, (soon, turn, rest)) =
      joined old mid new (one soon old mid turn) (turns_are_moved n mid new rest)

  -- The turn that fails has no event.
  abbrev end_is_moved : (n : ℕ) (old : Loop S R) (result : Result (Unit {0}) LoopFault)
      (new : Loop S R) → Ends told holds n old result new → Between old new
  end_is_moved n old (Ok u) new e = still old new e.1
  end_is_moved n old (Err fault.Ready) new (soon, (left, looked)) =
      nothing_happens old new [] (ap (λ (r : RunningServer). r.state) left.server) looked.follows
      left.recorded (λ g f fit. refl)
  end_is_moved n old (Err fault.Accept) new (soon, (left, (mid, found, accepts))) =
      nothing_happens old new (finding found ++ []) (ap (λ (r : RunningServer). r.state) left.server)
      (follows_joins (told old.sockets).calls (told mid).calls (told new.sockets).calls (finding found) []
      (found_follows found) accepts.follows) left.recorded
      (λ g f fit. flat_map-append g (finding found) [] ∙ append-nil (flat_map g (finding found)) ∙
      found_reads g f fit found)

  pub all_are_moved : (old : Loop S R) (result : Result (Unit {0}) LoopFault) (new : Loop S R)
      → TurnsUpTo told holds old result new → Between old new
  all_are_moved old result new (n, (mid, turns, ends)) =
      joined old mid new (turns_are_moved n old mid turns) (end_is_moved n mid result new ends)

  -- What is shown of the turns is what their events noted.
  record IsNotedRun (old new : Loop S R) (notes : List Note) : Type 0 where
    moved : Between old new
    noted : notes ≡ notes_along old.server.state moved.events moved.outcomes

  module _ {W : Type 0} (shows : W → Loop S R → Bool → W → Type 0) where
    shown_are_noted : (n : ℕ) (soon : Bool) (old : Loop S R) (watcher : W) (notes : List Note)
        (again : Bool) (new : Loop S R) (last : W) →
        ShownTurns told holds shows soon old watcher n notes again new last → IsNotedRun old new notes
    shown_are_noted zero soon old watcher notes again new last (is, same, kept, none) =
        record { moved = still old new same; noted = none }
    shown_are_noted (suc n) soon old watcher notes again new last
        (mid, (next, (then_soon, (more, all, turn, shown, rest)))) =
        let first = one soon old mid turn in
        let after = shown_are_noted n then_soon mid next more again new last rest in
        record {
          moved = joined old mid new first after.moved;
          noted = all ∙ ap₂ (λ xs ys. xs ++ ys) (turn_notes soon old mid turn) after.noted
              ∙ sym (notes_join old.server.state mid.server.state first.events after.moved.events
              first.outcomes after.moved.outcomes first.run);
        }

    -- They are turns.
    pub turns_shown : (n : ℕ) (soon : Bool) (old : Loop S R) (watcher : W) (notes : List Note)
        (again : Bool) (new : Loop S R) (last : W) →
        ShownTurns told holds shows soon old watcher n notes again new last → Turns told holds old n new
    turns_shown zero soon old watcher notes again new last (is, same, kept, none) = same
    turns_shown (suc n) soon old watcher notes again new last
        (mid, (next, (then_soon, (more, all, turn, shown, rest)))) =
        (mid, (soon, turn, turns_shown n then_soon mid next more again new last rest))

    -- One more turn after them.
    next_shown : (n : ℕ) (soon : Bool) (old : Loop S R) (watcher : W) (notes : List Note) (again : Bool)
        (mid : Loop S R) (next : W) (new : Loop S R) (says : Bool) (last : W)
        → ShownTurns told holds shows soon old watcher n notes again mid next
        → IsTurn told holds again mid new → shows next new says last →
        ShownTurns told holds shows soon old watcher (suc n) (notes ++ new.server.notes) says new last
    next_shown zero soon old watcher notes again mid next new says last (is, same, kept, none) turn h = (
      new,
      (
        last,
        (
          says,
          (
            [],
            ap (λ ns. ns ++ new.server.notes) none ∙ sym (append-nil new.server.notes),
            subst (λ (r : Loop S R). IsTurn told holds soon r new) same
                (subst (λ b. IsTurn told holds b mid new) is turn),
            subst (λ w. shows w new says last) kept h,
            (refl, refl, refl, refl),
          ),
        ),
      ),
    )
    next_shown (suc n) soon old watcher notes again mid next new says last
        (first, (w, (then_soon, (more, all, its, shown, rest)))) turn h = (
          first,
          (
            w,
            (
              then_soon,
              (
                more ++ new.server.notes,
                ap (λ ns. ns ++ new.server.notes) all ∙
                    append_assoc first.server.notes more new.server.notes,
                its,
                shown,
                next_shown n then_soon first w more again mid next new says last rest turn h,
              ),
            ),
          ),
        )

    pub shown_then : (n : ℕ) (soon : Bool) (old : Loop S R) (watcher : W) (notes : List Note) (again : Bool)
        (mid : Loop S R) (next : W) (new : Loop S R) (says : Bool) (last : W)
        → ShownTurns told holds shows soon old watcher n notes again mid next
        → IsTurn told holds again mid new → shows next new says last →
        ShownTurns told holds shows soon old watcher (n + 1) (notes ++ new.server.notes) says new last
    shown_then n soon old watcher notes again mid next new says last t turn h =
        subst (λ k. ShownTurns told holds shows soon old watcher k (notes ++ new.server.notes) says new last)
        (sym (add-one n)) (next_shown n soon old watcher notes again mid next new says last t turn h)

    -- They are what serving does.
    pub serves : (n : ℕ) (old : Loop S R) (watcher : W) (notes : List Note) (again : Bool)
        (mid : Loop S R) (last : W) (result : Result (Unit {0}) LoopFault) (new : Loop S R)
        → ShownTurns told holds shows true old watcher n notes again mid last →
        Ends told holds n mid result new → Serves told holds shows old watcher result new
    serves n old watcher notes again mid last result new shown ends =
        let all = shown_are_noted n true old watcher notes again mid last shown in
        let end = end_is_moved n mid result new ends in
        let both = joined old mid new all.moved end in
        record {
          turns = (n, (mid, turns_shown n true old watcher notes again mid last shown, ends));
          notes = notes;
          again = again;
          last = last;
          shown = shown;
          run = record {
            events = both.events;
            outcomes = both.outcomes;
            run = both.run;
            opens = open_lawfully old new both;
            reads = both.reads;
            recorded = both.recorded;
            noted = all.noted ∙ sym (append-nil _) ∙
                ap (λ ns. notes_along old.server.state all.moved.events all.moved.outcomes ++ ns)
                (sym (none_noted n mid result new ends))
                ∙ sym (notes_join old.server.state mid.server.state all.moved.events end.events
                all.moved.outcomes end.outcomes all.moved.run);
          };
        }
      where
        none_noted : (n : ℕ) (mid : Loop S R) (result : Result (Unit {0}) LoopFault)
            (new : Loop S R) (e : Ends told holds n mid result new)
            → notes_along mid.server.state (end_is_moved n mid result new e).events
            (end_is_moved n mid result new e).outcomes ≡ []
        none_noted n mid (Ok u) new e = refl
        none_noted n mid (Err fault.Ready) new e = refl
        none_noted n mid (Err fault.Accept) new e = refl

-- The four readings.
pub none : (b : Bool) → if◌then◌else◌ {A = List ℕ} b [] [] ≡ []
none true = refl
none false = refl

fed_fits : (c : ℕ) → Fit (gave_in (is_client c)) (fed_in_event c)
fed_fits c = search (rules, none)

-- The front of a front.
front : (n r : ℕ) (ys : List ℕ) → n ≤ length (take r ys) → take n (take r ys) ≡ take n ys
front zero r ys h = refl
front (suc n) zero ys h = absurd (no_more n h)
  where
    no_more : (k : ℕ) → suc k ≤ 0 → ⊥
    no_more k h = omega arith
front (suc n) (suc r) [] h = refl
front (suc n) (suc r) (y ∷ ys) h = ap (λ v. y ∷ v) (front n r ys (omega arith))

within : (n m : ℕ) → n ≤ m → nat_le n m ≡ true
within n m h = grind (arith, nat_tests)

front_of : (n : ℕ) (x : SessionState) → n ≤ length (offered (Some x)) →
    take n (offered (Some x)) ≡ take n x.owed
front_of n x h = search (rules, front)

nothing_of : (b : Bool) (n : ℕ) → n ≤ 0 → (if b then take {A = ℕ} n [] else []) ≡ []
nothing_of true zero h = refl
nothing_of true (suc n) h = refl
nothing_of false n h = refl

taken_of : (b : Bool) (n : ℕ) (o : Option SessionState) → n ≤ length (offered o) →
    (if b then take n (offered o) else []) ≡ (if may_take o n then (if b then take n (owed_of o) else []) else [])
taken_of b n None h = nothing_of b n h
taken_of b n (Some x) h = rw (within n (length (offered (Some x))) h)
    (ap (λ ys. if b then ys else []) (front_of n x h))

takes_of : (c : ℕ) (s : ServerState) (d n : ℕ) (xs : List ℕ) → xs ≡ offered (session d s) → n ≤ length xs
    → (if d == c then take n xs else []) ≡
    (if may_take (session d s) n then (if d == c then take n (owed_of (session d s)) else []) else [])
takes_of c s d n xs e h = ap (λ ys. if d == c then take n ys else []) e ∙
    taken_of (d == c) n (session d s) (subst (λ ys. n ≤ length ys) e h)

pub taken_fits : (c : ℕ) → Fit (took_in (is_client c)) (taken_in_event c)
unfolding taken_in_event
taken_fits c = search (rules, takes_of)

pub came_fits : (u : UpsId) → Fit (gave_in (is_driver u)) (λ s e. came_in_event u e)
came_fits u = search rules

driver_takes_of : (u v : UpsId) (s : ServerState) (n : ℕ) (xs : List ℕ) → xs ≡ owed_to_driver v s
    → (if v.place == u.place then take n xs else []) ≡
    (if v.place == u.place then take n (owed_to_driver v s) else [])
driver_takes_of u v s n xs e = ap (λ ys. if v.place == u.place then take n ys else []) e

driver_took_fits : (u : UpsId) → Fit (took_in (is_driver u)) (driver_took_in_event u)
driver_took_fits u = search (rules, driver_takes_of)

-- The histories of nutcore are such readings.
pub taken_is_along : (c : ℕ) (s : ServerState) (es : List Event) (os : List Outcome) →
    along (taken_in_event c) s es os ≡ taken c s es os
taken_is_along c s [] os = refl
taken_is_along c s (e ∷ es) [] = refl
taken_is_along c s (e ∷ es) (o ∷ os) = ap (λ v. taken_in_event c s e ++ v) (taken_is_along c (after s e o) es os)

pub came_is_along : (u : UpsId) (s new : ServerState) (es : List Event) (os : List Outcome) →
    Run s es os new → along (λ t e. came_in_event u e) s es os ≡ came u es
came_is_along u s new [] [] r = refl
came_is_along u s new [] (o ∷ os) r = absurd r
came_is_along u s new (e ∷ es) [] r = absurd r
came_is_along u s new (e ∷ es) (o ∷ os) r =
    ap (λ v. came_in_event u e ++ v)
    (came_is_along u (after s e o) new es os (subst (λ t. Run t es os new) r.1.leaves r.2))

pub reported_since : (a b : Option (List Call)) (before now since : List Call) →
    Follows a since b → a ≡ Some before → b ≡ Some now → now ≡ before ++ since
reported_since (Some xs) (Some ys) before now since h e k = cc
reported_since None b before now since h e k = cc
reported_since (Some xs) None before now since h e k = cc

pub every_byte_is_moved_once : {S R : Type 0} (told : S → Told) (holds : R → Recorded) →
    EveryByteIsMovedOnce told holds
every_byte_is_moved_once {S} {R} told holds =
    λ old new result before now turns reported reported_after. from old new before now
    (all_are_moved told holds old result new turns) reported reported_after
  where
    from : (old new : Loop S R) (before now : List Call) → Between told holds old new →
        (told old.sockets).calls ≡ Some before → (told new.sockets).calls ≡ Some now
        → (since : List Call) × ((events : List Event) ×
        ((outcomes : List Outcome) × (now ≡ before ++ since) ×
        AreMoved since old.server.state events outcomes new.server.state))
    from old new before now m reported reported_after = (
      m.since,
      (
        m.events,
        (
          m.outcomes,
          reported_since (told old.sockets).calls (told new.sockets).calls before now m.since
              m.follows reported reported_after,
          record {
            run = m.run;
            fed = λ c. m.moves (gave_in (is_client c)) (fed_in_event c) (fed_fits c);
            taken_by_client = λ c. m.moves (took_in (is_client c)) (taken_in_event c)
                (taken_fits c) ∙ taken_is_along c old.server.state m.events m.outcomes;
            came_of_driver = λ u. m.moves (gave_in (is_driver u)) (λ s e. came_in_event u e)
                (came_fits u) ∙ came_is_along u old.server.state new.server.state m.events m.outcomes m.run;
            taken_by_driver = λ u. m.moves (took_in (is_driver u)) (driver_took_in_event u) (driver_took_fits u);
          },
        ),
      ),
    )
