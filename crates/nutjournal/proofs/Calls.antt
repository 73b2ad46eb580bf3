-- What a call logs and counts.
use Rattle.std.proofs.Common.{◌≡◌, ◌∙◌, ℕ, zero, suc, ◌+◌, ◌<◌, List, []}
use Rattle.std.proofs.Common.{◌∷◌, ◌++◌, drop, length, take}
use Rattle.std.proofs.Common.{Bool, true, Option, Some, None, refl, sym, ap, subst, arith}
use Rattle.std.proofs.Common.{slice_set, slice_index_or, add-one}
use Rattle.std.specs.Prelude.{is_none, ◌&&◌, ◌/◌, ◌≢◌, option_map, slice_get}
use Rattle.std.specs.Option.{option_map_or}
use Rattle.nutcore.specs.declared.note.Note.{Note}
use Rattle.nutcore.specs.Server.{ServerState}
use Rattle.nutjournal.specs.declared.doings.Doings.{Doings}
use Rattle.nutjournal.specs.declared.drivers.Driver.{Driver}
use Rattle.nutjournal.specs.declared.journal.Journal.{Journal}
use Rattle.nutjournal.specs.declared.log_buffer.LogBuffer.{LogBuffer}
use Rattle.nutjournal.specs.declared.refusals.Refusals.{Refusals}
use Rattle.nutjournal.specs.declared.tallies.Tallies.{Tallies}
use Rattle.nutjournal.specs.declared.tally.Count.{Count}
use Rattle.nutjournal.specs.Calls.{Begins, IsBegun, IsCall, after_counts, client_places, dues_of_call, place_of_tally}
use Rattle.nutjournal.specs.Calls.{ups_places}
use Rattle.nutjournal.specs.Tallies.{after_second_of}
use Rattle.nutjournal.specs.Lines.{DueMore, DuesMore, after_due, after_dues, drivers_along, dues_of, left_due}
use Rattle.nutjournal.specs.LogBuffer.{IsFlushed, PlaceMore, PlacesMore, SomeMore}
use Rattle.nutjournal.specs.Tally.{after_count, begins_minute, reported}
use Rattle.nutjournal.specs.declared.tally.Tally.{Tally}
use Rattle.nutusers.specs.UpsList.{Ups}
use Rattle.nutjournal.specs.Waiting.{are_none}
use Rattle.nutjournal.specs.declared.tally.TheConstants.{MINUTE}
use Rattle.nutjournal.proofs.Places.{after_both, dues_then, one_more, then_more, then_some}

nobody : {A B : Type 0} (f : A → Option B) (left : Option A) (b : Bool) → (is_none left && b) ≡ true
    → option_map_or f left None ≡ None
nobody f None b h = refl
nobody f (Some x) b h = cc h

nobody_left : (doings : Doings) → are_none doings ≡ true → left_due doings ≡ None
nobody_left doings h = nobody _ doings.left _ h

no_note : (all : List Note) → length all ≡ 0 → all ≡ []
no_note [] h = refl
no_note (note ∷ all) h = absurd (omega arith)

-- Nothing was noted, and nobody left.
no_dues : (s : ServerState) (all : List Note) (doings : Doings) (drivers : List Driver) → length all ≡ 0
    → are_none doings ≡ true → dues_of_call s all doings drivers ≡ None ∷ []
no_dues s all doings drivers none nobody =
    ap (λ ns. dues_of s.moment ns drivers ++ left_due doings ∷ []) (no_note all none)
    ∙ ap (λ due. due ∷ []) (nobody_left doings nobody)

pub no_call : (s : ServerState) (all : List Note) (doings : Doings) (old begun new : Journal)
    → Begins s doings old begun → length all ≡ 0 → are_none doings ≡ true → new ≡
    begun → IsCall s all doings old new
no_call s all doings old begun new second none nobody same = record {
  begun = begun;
  second = second;
  logged = begun.log;
  lines = subst (λ dues. DuesMore s.list dues begun.tallies begun.log begun.log)
      (sym (no_dues s all doings begun.drivers none nobody)) (begun.log, refl, refl);
  flushed = record { times = 0; are = ap (λ j. j.log) same };
  same = subst (λ dues. new ≡ record begun {
    log = new.log;
    drivers = drivers_along s.moment all begun.drivers;
    tallies = after_dues dues begun.tallies;
    refusals = new.refusals;
    has_more = new.has_more;
  }) (sym (no_dues s all doings begun.drivers none nobody))
      (subst (λ ns. new ≡ record begun {
        log = new.log;
        drivers = drivers_along s.moment ns begun.drivers;
        refusals = new.refusals;
        has_more = new.has_more;
      }) (sym (no_note all none))
      (subst (λ j. j ≡ record begun { log = j.log; refusals = j.refusals; has_more = j.has_more }) (sym same) refl));
}

-- The lines of the notes, and that of who left.
pub one_call : (s : ServerState) (all : List Note) (doings : Doings) (old begun noted done new : Journal)
    → Begins s doings old begun
    → DuesMore s.list (dues_of s.moment all begun.drivers) begun.tallies begun.log noted.log
    → noted ≡ record begun {
      log = noted.log;
      drivers = drivers_along s.moment all begun.drivers;
      tallies = after_dues (dues_of s.moment all begun.drivers) begun.tallies;
    }
    → DueMore s.list (left_due doings) noted.tallies noted.log done.log
    → done ≡ record noted {
      log = done.log;
      tallies = after_due (left_due doings) noted.tallies;
      refusals = done.refusals;
    }
    → IsFlushed done.log new.log → new ≡ record done { log = new.log; has_more = new.has_more }
    → IsCall s all doings old new
one_call s all doings old begun noted done new second lines noted_is left done_is flushed is =
    let tallies : noted.tallies ≡ after_dues (dues_of s.moment all begun.drivers) begun.tallies =
    ap (λ j. j.tallies) noted_is in
    record {
      begun = begun;
      second = second;
      logged = done.log;
      lines = dues_then s.list (dues_of s.moment all begun.drivers) (left_due doings ∷ [])
          begun.tallies begun.log noted.log done.log
          lines (done.log, subst (λ t. DueMore s.list (left_due doings) t noted.log done.log) tallies left, refl);
      flushed = flushed;
      same = is
          ∙ ap (λ (r : Refusals). record done { log = new.log; refusals = r; has_more = new.has_more })
          (sym (ap (λ j. j.refusals) is))
          ∙ ap (λ (j : Journal). record j { log = new.log; refusals = new.refusals; has_more = new.has_more }) done_is
          ∙ ap (λ (j : Journal). record j {
            log = new.log;
            tallies = after_due (left_due doings) j.tallies;
            refusals = new.refusals;
            has_more = new.has_more;
          }) noted_is
          ∙ ap (λ (t : Tallies). record begun {
            log = new.log;
            drivers = drivers_along s.moment all begun.drivers;
            tallies = t;
            refusals = new.refusals;
            has_more = new.has_more;
          }) (sym (after_both (dues_of s.moment all begun.drivers) (left_due doings ∷ []) begun.tallies));
    }

-- One count after another is logged.
at_counted : (minute : ℕ) (ns : List ℕ) (xs : List Count) (i : ℕ) (d : Count) → i < length xs → i < length ns
    → slice_set (after_counts minute (take i ns) (take i xs) ++ drop i xs) i
    (after_count (slice_index_or ns i 0) minute
    (slice_index_or (after_counts minute (take i ns) (take i xs) ++ drop i xs) i d))
    ≡ after_counts minute (take (suc i) ns) (take (suc i) xs) ++ drop (suc i) xs
at_counted minute ns [] i d below there = absurd (omega arith)
at_counted minute [] (x ∷ xs) i d below there = absurd (omega arith)
at_counted minute (n ∷ ns) (x ∷ xs) zero d below there = refl
at_counted minute (n ∷ ns) (x ∷ xs) (suc i) d below there =
    ap (λ l. after_count n minute x ∷ l) (at_counted minute ns xs i d (omega arith) (omega arith))

pub one_counted : (minute : ℕ) (ns : List ℕ) (xs items : List Count) (i : ℕ) (d v : Count)
    → i < length xs → i < length ns
    → items ≡ after_counts minute (take i ns) (take i xs) ++ drop i xs
    → v ≡ after_count (slice_index_or ns i 0) minute (slice_index_or items i d)
    → slice_set items i v ≡ after_counts minute (take (i + 1) ns) (take (i + 1) xs) ++ drop (i + 1) xs
one_counted minute ns xs items i d v below there are is =
    ap (slice_set items i) is
    ∙ ap (λ l. slice_set l i (after_count (slice_index_or ns i 0) minute (slice_index_or l i d))) are
    ∙ at_counted minute ns xs i d below there
    ∙ ap (λ k. after_counts minute (take k ns) (take k xs) ++ drop k xs) (sym (add-one i))

pub one_more_some : (due : Option ℕ) (ups : Option (List ℕ)) (a b c : LogBuffer)
    → SomeMore a b → PlaceMore due ups b c → SomeMore a c
one_more_some due ups a b c first h = then_some a b c first (one_more due ups b c h)

-- What was counted is logged, where a second begins.
pub begun : (s : ServerState) (is_minute : Bool) (doings : Doings) (old new : Journal)
    (upses users clients counts : LogBuffer)
    → PlacesMore (ups_places is_minute s.list old.tallies.upses) old.log upses
    → PlacesMore (client_places is_minute old.tallies.users) upses users
    → PlacesMore (client_places is_minute old.tallies.clients) users clients
    → SomeMore clients counts → SomeMore counts new.log
    → new ≡ record old {
      log = new.log;
      tallies = after_second_of (length s.list) is_minute old.tallies;
      counts = after_counts (s.moment / MINUTE) doings.counts old.counts;
      refusals = new.refusals;
    } → IsBegun s is_minute doings old new
begun s is_minute doings old new upses users clients counts one two three four five is = record {
  counted = clients;
  lines = then_more (ups_places is_minute s.list old.tallies.upses ++ client_places is_minute old.tallies.users)
      (client_places is_minute old.tallies.clients) old.log users clients
      (then_more (ups_places is_minute s.list old.tallies.upses)
      (client_places is_minute old.tallies.users) old.log upses users one two)
      three;
  others = then_some clients counts new.log four five;
  is = is;
}

pub begins_now : (s : ServerState) (doings : Doings) (old begun seen new : Journal) → old.moment ≢ Some s.moment
    → IsBegun s (begins_minute old.moment s.moment) doings (record old { moment = Some s.moment }) begun
    → SomeMore begun.log seen.log → seen ≡ record begun { log = seen.log; drivers = seen.drivers }
    → SomeMore seen.log new.log → new ≡
    record seen { log = new.log; crowded = new.crowded } → Begins s doings old new
begins_now s doings old begun seen new other lines news same crowd is = record {
  goes_on = λ now. absurd (other now);
  begins = λ h. record {
    begun = begun;
    lines = lines;
    seen = seen;
    news = news;
    same = same;
    crowd = crowd;
    is = is;
  };
}

-- What was counted of the next UPS is logged.
further : (is_minute : Bool) (list : List Ups) (ys : List Tally) (i : ℕ) (d : Tally) → i <
    length list → i < length ys
    → ups_places is_minute (drop i list) (drop i ys)
    ≡ place_of_tally is_minute (option_map (λ x. x.name) (slice_get list i)) (slice_index_or ys i d)
    ∷ ups_places is_minute (drop (suc i) list) (drop (suc i) ys)
further is_minute [] ys i d below there = absurd (omega arith)
further is_minute (x ∷ list) [] i d below there = absurd (omega arith)
further is_minute (x ∷ list) (y ∷ ys) zero d below there = refl
further is_minute (x ∷ list) (y ∷ ys) (suc i) d below there =
    further is_minute list ys i d (omega arith) (omega arith)

pub next_ups : (is_minute : Bool) (list : List Ups) (ys : List Tally) (i : ℕ) (d : Tally) (due : Option ℕ)
    (ups : Option (List ℕ)) (a b end : LogBuffer) → i < length list → i < length ys → PlaceMore due ups a b
    → due ≡ reported (slice_index_or ys i d) is_minute → ups ≡ option_map (λ x. x.name) (slice_get list i)
    → PlacesMore (ups_places is_minute (drop (i + 1) list) (drop (i + 1) ys)) b end
    → PlacesMore (ups_places is_minute (drop i list) (drop i ys)) a end
next_ups is_minute list ys i d due ups a b end below there more is_due is_ups later =
    subst (λ places. PlacesMore places a end) (sym (further is_minute list ys i d below there)) (
      b,
      subst (λ x. PlaceMore x (option_map (λ x. x.name) (slice_get list i)) a b) is_due
          (subst (λ x. PlaceMore due x a b) is_ups more),
      subst (λ k. PlacesMore (ups_places is_minute (drop k list) (drop k ys)) b end) (add-one i) later,
    )
