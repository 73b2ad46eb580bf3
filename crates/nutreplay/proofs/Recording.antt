-- A recorder after one more event, and after what waits is written.
use Rattle.std.proofs.Common.{◌≡◌, ◌∙◌, ℕ, Bool, true, false, not, is_some}
use Rattle.std.proofs.Common.{string_bytes, ◌⊎◌, inl, inr, List, [], ◌∷◌, ◌++◌}
use Rattle.std.proofs.Common.{Option, Some, None, refl, sym, ap, subst, append-nil, append_assoc}
use Rattle.std.specs.Prelude.{OnSome}
use Rattle.std.specs.Io.KnownBytes.{Appends}
use Rattle.nutio.specs.Ends.{IsBeginning}
use Rattle.nutusers.specs.UpsList.{Ups, IsList}
use Rattle.nutcore.specs.declared.event.Event.{Event}
use Rattle.nutcore.specs.declared.event.Peer.{Peer}
use Rattle.nutcore.specs.declared.event.Peer.TheVariants.{Client, Driver}
use Rattle.nutcore.specs.Recording.{Continues, came_from}
use Rattle.nutreplay.specs.Written.{IsReadAs, IsEventOf, line_of, line_of_bytes}
use Rattle.nutreplay.specs.declared.recorder.Recorder.{Recorder}
use Rattle.nutreplay.specs.Recorded.{next_line, EndsAfterHead, HasEnded, GoesOn, IsRecordOf}
use Rattle.nutreplay.specs.Recorded.{IsFileOf, Records, Leaves, WritesAll, ARecordIsOfItsEvents}
use Rattle.nutreplay.proofs.ReadBack.{what_is_written_is_read_back}

-- One more event where the record has ended.
later : (list : List Ups) (part : List ℕ) (lost : List Event) (e : Event) →
    IsBeginning part (next_line list lost) → IsBeginning part (next_line list (lost ++ e ∷ []))
later list [] [] e h = (line_of list e, refl)
later list (x ∷ part) [] e h = cc (h.1)
later list part (first ∷ lost) e h = h

-- A beginning of two texts is one of the first, or all of it and a beginning of the second.
front_of : (a b front : List ℕ) → IsBeginning front (a ++ b) →
    IsBeginning front a ⊎ ((tail : List ℕ) × ((front ≡ a ++ tail) × IsBeginning tail b))
front_of [] b front h = inr (front, (refl, h))
front_of (x ∷ a) b [] h = inl (x ∷ a, refl)
front_of (x ∷ a) b (y ∷ front) h = of (front_of a b front (h.0, cc (h.1)))
  where
    of : IsBeginning front a ⊎ ((tail : List ℕ) ×
        ((front ≡ a ++ tail) × IsBeginning tail b)) →
        IsBeginning (y ∷ front) (x ∷ a) ⊎
        ((tail : List ℕ) × ((y ∷ front ≡ x ∷ (a ++ tail)) × IsBeginning tail b))
    of (inl begins) = inl (begins.0, cc (h.1, begins.1))
    of (inr (tail, (is, begins))) = inr (tail, (cc (h.1, is), begins))

-- The bytes that come from a client or a driver.
pub line_sent : (list : List Ups) (from : Peer) (bytes : List ℕ) →
    line_of_bytes list from bytes ≡ line_of list (came_from from bytes)
line_sent list (Client c) bytes = refl
line_sent list (Driver u) bytes = refl

appended : (old new : Option (List ℕ)) (script text : List ℕ) → old ≡ Some script →
    Appends old new text → new ≡ Some (script ++ text)
appended None new script text known h = cc known
appended (Some xs) None script text known h = absurd h
appended (Some xs) (Some ys) script text known h = cc (known, h)

module _ (list : List Ups) (max_age : ℕ) where
  abbrev Read : List ℕ → List Event → Type 0
  Read = IsReadAs list max_age

  abbrev Ended : List ℕ → List Event → Type 0
  Ended = HasEnded list max_age

  abbrev Goes : List ℕ → List ℕ → List Event → Type 0
  Goes = GoesOn list max_age

  ended_then : (script : List ℕ) (events : List Event) (e : Event) → Ended script events →
      Ended script (events ++ e ∷ [])
  ended_then script events e (inl in_head) = inl in_head
  ended_then script events e (inr h) = inr (record {
    lines = h.lines;
    part = h.part;
    first = h.first;
    lost = h.lost ++ e ∷ [];
    script_is = h.script_is;
    events_are = ap (λ es. es ++ e ∷ []) h.events_are ∙ append_assoc h.first h.lost (e ∷ []);
    read = h.read;
    begins = later list h.part h.lost e h.begins;
  })

  -- The record ends at this event, of whose line a front is written.
  ends : (script front : List ℕ) (events : List Event) (e : Event) → Read script events →
      IsBeginning front (line_of list e) → Ended (script ++ front) (events ++ e ∷ [])
  ends script front events e read begins =
      inr (record {
        lines = script;
        part = front;
        first = events;
        lost = e ∷ [];
        script_is = refl;
        events_are = refl;
        read = read;
        begins = begins;
      })

  -- Only the head waits.
  pub head_waits : (head : List ℕ) → Read head [] → Goes [] head []
  head_waits head read = record { read = read; stops = λ front begins. inl (head, read, begins) }

  -- What is written is read as the events, and nothing waits.
  nothing_waits : (script : List ℕ) (events : List Event) → Read script events → Goes script [] events
  nothing_waits script events read = record {
    read = subst (λ s. Read s events) (sym (append-nil script)) read;
    stops = λ front begins. inr (record {
      lines = script;
      part = front;
      first = events;
      lost = [];
      script_is = refl;
      events_are = sym (append-nil events);
      read = read;
      begins = begins;
    });
  }

  -- The line of one more event waits.
  goes_on_with : (script waiting : List ℕ) (events : List Event) (e : Event) → IsList list →
      IsEventOf list e → Goes script waiting events → Goes script (waiting ++ line_of list e) (events ++ e ∷ [])
  goes_on_with script waiting events e is_list lawful h = record {
    read = subst (λ s. Read s (events ++ e ∷ [])) (append_assoc script waiting (line_of list e))
        (what_is_written_is_read_back list max_age (script ++ waiting) events e is_list lawful h.read);
    stops = λ front begins. of front (front_of waiting (line_of list e) front begins);
  }
    where
      of : (front : List ℕ) → IsBeginning front waiting ⊎
          ((tail : List ℕ) × ((front ≡ waiting ++ tail) × IsBeginning tail (line_of list e)))
          → Ended (script ++ front) (events ++ e ∷ [])
      of front (inl begins) = ended_then (script ++ front) events e (h.stops front begins)
      of front (inr (tail, (is, begins))) =
          subst (λ s. Ended s (events ++ e ∷ []))
          (append_assoc script waiting tail ∙ ap (λ t. script ++ t) (sym is))
          (ends (script ++ waiting) tail events e h.read begins)

  -- The record ends, and what waits is not written any more.
  ends_here : (script waiting : List ℕ) (events : List Event) (e : Event) →
      Goes script waiting events → Ended script (events ++ e ∷ [])
  ends_here script waiting events e h =
      ended_then script events e (subst (λ s. Ended s events) (append-nil script) (h.stops [] (waiting, refl)))

  kept : {A : Type 0} (script waiting after : List ℕ) (events : List Event) (e : Event)
      (done : Option A) (cut : Bool) → is_some done ≡ not cut → IsList list →
      OnSome done (after ≡ waiting ++ line_of list e)
      → OnSome done (IsEventOf list e) → Goes script waiting events →
      IsRecordOf list max_age cut script after (events ++ e ∷ [])
  kept script waiting after events e (Some u) true is is_list line lawful h = cc is
  kept script waiting after events e None false is is_list line lawful h = cc is
  kept script waiting after events e (Some u) false is is_list line lawful h =
      subst (λ w. Goes script w (events ++ e ∷ [])) (sym line)
      (goes_on_with script waiting events e is_list lawful h)
  kept script waiting after events e None true is is_list line lawful h = ends_here script waiting events e h

module _ {W : Type 0} (contents : W → Option (List ℕ)) where
  abbrev pub RecordsNext : Recorder W → Event → Recorder W → Type 0
  RecordsNext old e new = Continues (λ age. Records contents age old) (e ∷ []) (λ age. Records contents age new)

  -- The record has ended.
  pub is_off : (recorder : Recorder W) (e : Event) → recorder.is_cut ≡ true → RecordsNext recorder e recorder
  is_off recorder e off = λ max_age events h. record {
    is_list = h.is_list;
    script = h.script;
    known = h.known;
    is = subst (λ b. IsRecordOf recorder.list max_age b h.script (string_bytes recorder.waiting)
        (events ++ e ∷ [])) (sym off)
        (ended_then recorder.list max_age h.script events e
        (subst (λ b. IsRecordOf recorder.list max_age b h.script (string_bytes recorder.waiting) events) off h.is));
  }

  -- The line was added to those that wait, or the record ends.
  pub added : {A : Type 0} (old new : Recorder W) (e : Event) (done : Option A) → new.list ≡
      old.list → new.writer ≡ old.writer → is_some done ≡ not new.is_cut → old.is_cut ≡ false
      → OnSome done (string_bytes new.waiting ≡ string_bytes old.waiting ++ line_of old.list e)
      → OnSome done (IsEventOf old.list e) → RecordsNext old e new
  added old new e done same_list same_writer cut goes_on line lawful = λ max_age events h. record {
    is_list = subst IsList (sym same_list) h.is_list;
    script = h.script;
    known = ap contents same_writer ∙ h.known;
    is = subst (λ list. IsRecordOf list max_age new.is_cut h.script (string_bytes new.waiting)
        (events ++ e ∷ [])) (sym same_list)
        (kept old.list max_age h.script (string_bytes old.waiting) (string_bytes new.waiting) events
        e done new.is_cut cut h.is_list line lawful
        (subst (λ b. IsRecordOf old.list max_age b h.script (string_bytes old.waiting) events) goes_on h.is));
  }

module _ {W : Type 0} (contents : W → Option (List ℕ)) (failures : W → ℕ) where
  -- What a write of the lines that wait leaves.
  file_after : (list : List Ups) (max_age left : ℕ) (old new : W) (script waiting : List ℕ)
      (events : List Event) (cut : Bool) → contents old ≡ Some script → GoesOn list max_age script waiting events
      → Leaves contents failures left old waiting (not cut) new → (file : List ℕ) ×
      (contents new ≡ Some file) × IsFileOf list max_age cut file events
  file_after list max_age left old new script waiting events false known goes written =
      (script ++ waiting, appended (contents old) (contents new) script waiting known written.bytes_written, goes.read)
  file_after list max_age left old new script waiting events true known goes (inl long) = (
    script,
    ap contents long.1 ∙ known,
    subst (λ s. HasEnded list max_age s events) (append-nil script) (goes.stops [] (waiting, refl)),
  )
  file_after list max_age left old new script waiting events true known goes (inr failed) = (
    script ++ failed.front,
    appended (contents old) (contents new) script failed.front known
        failed.bytes_written,
    goes.stops failed.front failed.begins,
  )

  is_file_of : (max_age : ℕ) (old new : Recorder W) (events : List Event) →
      Records contents max_age old events → WritesAll contents failures old new
      → (file : List ℕ) × (contents new.writer ≡ Some file) × IsFileOf new.list max_age new.is_cut file events
  is_file_of max_age old new events h written = of old.is_cut refl
    where
      of : (cut : Bool) → old.is_cut ≡ cut → (file : List ℕ) ×
          (contents new.writer ≡ Some file) × IsFileOf new.list max_age new.is_cut file events
      of true is = (
        h.script,
        ap contents (written.ended is).1 ∙ h.known,
        subst (λ list. IsFileOf list max_age new.is_cut h.script events) (sym written.list)
            (subst (λ cut. IsFileOf old.list max_age cut h.script events)
            (sym (written.ended is).0) (subst
            (λ cut. IsRecordOf old.list max_age cut h.script (string_bytes old.waiting) events) is h.is)),
      )
      of false is =
          let file = file_after old.list max_age old.left old.writer new.writer h.script
          (string_bytes old.waiting) events new.is_cut h.known
          (subst (λ cut. IsRecordOf old.list max_age cut h.script (string_bytes old.waiting)
          events) is h.is) (written.goes_on is) in
          (file.0, file.1, subst (λ list. IsFileOf list max_age new.is_cut file.0 events) (sym written.list) file.2)

  -- The recorder has recorded the same events.
  same_events : (max_age : ℕ) (old new : Recorder W) (events : List Event) →
      Records contents max_age old events → WritesAll contents failures old new →
      Records contents max_age new events
  same_events max_age old new events h written =
      let file = is_file_of max_age old new events h written in
      record {
        is_list = subst IsList (sym written.list) h.is_list;
        script = file.0;
        known = file.1;
        is = subst (λ waiting. IsRecordOf new.list max_age new.is_cut file.0 waiting events)
            (sym written.none_waits) (with_none new.list new.is_cut file.0 file.2);
      }
    where
      with_none : (list : List Ups) (cut : Bool) (file : List ℕ) →
          IsFileOf list max_age cut file events → IsRecordOf list max_age cut file [] events
      with_none list true file h = h
      with_none list false file h = nothing_waits list max_age file events h

  pub goes_on : (old new : Recorder W) → WritesAll contents failures old new →
      Continues (λ age. Records contents age old) [] (λ age. Records contents age new)
  goes_on old new written = λ age events h. subst (λ es. Records contents age new es)
      (sym (append-nil events)) (same_events age old new events h written)

  pub of_its_events : ARecordIsOfItsEvents contents failures
  of_its_events = record { file = is_file_of; same = same_events }
