-- What a run of calls logs and counts.
use Rattle.std.proofs.Common.{◌≡◌, ◌∙◌, ℕ, zero, suc, ◌+◌, ◌-◌, ◌<◌, ◌^◌, refl, ap, sym, subst, arith}
use Rattle.std.proofs.Common.{List, [], ◌∷◌, length, Bool, true, false, Option, Some, None, slice_set}
use Rattle.std.specs.Prelude.{◌&&◌, ◌||◌, ◌==◌, ◌≢◌, if◌then◌else◌, nat_eq, nat_lt, not, slice_get, slice_index, unwrap_or}
use Rattle.std.specs.List.{repeat}
use Rattle.std.specs.Option.{option_eq}
use Rattle.std.proofs.lemmas.Bool.Decides.{nat_tests}
use Rattle.std.proofs.lemmas.Grind.{get_or-set_at}
use Rattle.std.proofs.lemmas.List.{get_or-set_other, length-set}
use Rattle.std.proofs.lemmas.Option.{unwrap_or-slice_get}
use Rattle.nutjournal.specs.declared.journal.Journal.{Journal}
use Rattle.nutjournal.specs.declared.log_buffer.LogBuffer.{LogBuffer}
use Rattle.nutjournal.specs.declared.tallies.Tallies.{Tallies}
use Rattle.nutjournal.specs.declared.tally.Kind.{Kind}
use Rattle.nutjournal.specs.declared.tally.Tally.{Tally}
use Rattle.nutjournal.specs.Calls.{Begins, IsCall, dues_of_call, tally_places}
use Rattle.nutjournal.specs.Lines.{DuesMore, Line, after_due, after_dues, due_now}
use Rattle.nutjournal.specs.LogBuffer.{Place}
use Rattle.nutjournal.specs.Network.{network_of}
use Rattle.nutjournal.specs.Runs as groups
use Rattle.nutjournal.specs.Runs.{Call, Group, HasPriority, IsSlot, LoggedAndCountedAreAll, Run, Slot, begins}
use Rattle.nutjournal.specs.Runs.{counts_for, dues, in_run, is_logged_for, note_places, reported_in, run_places}
use Rattle.nutjournal.specs.Runs.{tallies_after, tallies_begun, tallies_of, tally_at}
use Rattle.nutjournal.specs.Runs.{times_in, times_of}
use Rattle.nutjournal.specs.Tallies.{Whose, of_client, of_order, of_refused, of_ups, of_user}
use Rattle.nutjournal.specs.Tallies.{after_second_of, first_mapped, fresh, has_refusal_room}
use Rattle.nutjournal.specs.Tallies.{is_first_order, is_line_logged, place_of, ups_of}
use Rattle.nutjournal.specs.Tally.{after_line, after_second, begins_minute, count, is_logged, is_reported, is_same}
use Rattle.nutjournal.specs.Tally.{number, one_if}
use Rattle.nutjournal.specs.Written.{Come}
use Rattle.nutjournal.proofs.Lines.{same_size, step}
use Rattle.nutjournal.proofs.Places.{then_some}
use Rattle.nutjournal.proofs.Written.{all_come, come_then, come_behind, flushes_come, none_come, one_comes, some_come}
use Rattle.nutusers.specs.UpsList.{Ups}

abbrev at : List Tally → ℕ → Tally
at xs i = unwrap_or (slice_get xs i) fresh

at_set : (xs : List Tally) (i j : ℕ) (y : Tally) → i < length xs
    → at (slice_set xs j y) i ≡ (if i == j then y else at xs i)
at_set xs i j y below = rw (unwrap_or-slice_get (slice_set xs j y) i fresh, unwrap_or-slice_get xs i fresh)
    (grind (arith, nat_tests, get_or-set_at xs j i y fresh, get_or-set_other xs j i y fresh))

at_mapped : (f : Tally → Tally) (xs : List Tally) (n i : ℕ) → i < length xs
    → at (first_mapped f n xs) i ≡ (if nat_lt i n then f (at xs i) else at xs i)
at_mapped f [] n i below = absurd (omega arith)
at_mapped f (x ∷ xs) zero i below = grind (arith, nat_tests)
at_mapped f (x ∷ xs) (suc n) zero below = grind (arith, nat_tests)
at_mapped f (x ∷ xs) (suc n) (suc i) below = grind (arith, nat_tests, at_mapped f xs n i)

length_mapped : (f : Tally → Tally) (xs : List Tally) (n : ℕ) → length (first_mapped f n xs) ≡ length xs
length_mapped f [] zero = refl
length_mapped f [] (suc n) = refl
length_mapped f (x ∷ xs) zero = refl
length_mapped f (x ∷ xs) (suc n) = grind (arith, length_mapped f xs n)

-- What a line leaves of one of some tallies: it may come for it, and be logged.
pub record Left (i : ℕ) (kind : Kind) (comes logged : Bool) (xs ys : List Tally) : Type 0 where
  pub adds : one_if (comes && logged) + count kind (at ys i) ≡ count kind (at xs i) + one_if comes
  pub within : i < length ys
  pub size : length (at ys i).more ≡ 20
  pub says : HasPriority kind (at xs i) → HasPriority kind (at ys i)

elsewhere : (xs : List Tally) (i : ℕ) (kind : Kind) (b logged : Bool) → i < length xs
    → length (at xs i).more ≡ 20 → Left i kind (b && false) logged xs xs
elsewhere xs i kind true logged within size =
    record { adds = grind arith; within = within; size = size; says = λ h. h }
elsewhere xs i kind false logged within size =
    record { adds = grind arith; within = within; size = size; says = λ h. h }

one_in : (xs : List Tally) (i j : ℕ) (room : Bool) (kind next : Kind) → i < length xs
    → length (at xs i).more ≡ 20 → count kind (at xs i) < 2 ^ 64 - 1
    → Left i kind (is_same kind next && (i == j)) (is_logged room (at xs j) next) xs
    (slice_set xs j (after_line room (at xs j) next))
one_in xs i j room kind next within size few = record {
  adds = rw (at_set xs i j (after_line room (at xs j) next) within)
      (grind (arith, nat_tests, step room (at xs i) kind next size few));
  within = rw (length-set xs j (after_line room (at xs j) next)) within;
  size = rw (at_set xs i j (after_line room (at xs j) next) within)
      (grind (arith, nat_tests, same_size room (at xs i) next));
  says = rw (at_set xs i j (after_line room (at xs j) next) within) (λ h. grind (arith, nat_tests, h));
}

-- The first order of its kind is logged, and counts nowhere.
one_unless_first : (first : Bool) (xs : List Tally) (i j : ℕ) (kind next : Kind) → i < length xs
    → length (at xs i).more ≡ 20 → count kind (at xs i) < 2 ^ 64 - 1
    → Left i kind (is_same kind next && (i == j)) (first || is_logged true (at xs j) next) xs
    (if first then xs else slice_set xs j (after_line true (at xs j) next))
one_unless_first true xs i j kind next within size few =
    record { adds = grind (arith, nat_tests); within = within; size = size; says = λ h. h }
one_unless_first false xs i j kind next within size few = one_in xs i j true kind next within size few

field_of : {A : Type 0} (first : Bool) (f : Tallies → A) (x y : Tallies)
    → f (if first then x else y) ≡ (if first then f x else f y)
field_of true f x y = refl
field_of false f x y = refl

unchanged : {A : Type 0} (first : Bool) (f : Tallies → A) (x y z : Tallies) → f x ≡ f z → f y ≡ f z
    → f (if first then x else y) ≡ f z
unchanged true f x y z one other = one
unchanged false f x y z one other = other

abbrev slot : Group → ℕ → Slot
slot g i = record { group = g; place = i }

abbrev line : Whose → Kind → Line
line whose kind = record { whose = whose; kind = kind }

abbrev LeftBy : Group → ℕ → Kind → Line → Tallies → Type 0
LeftBy g i kind next all = Left i kind (counts_for (slot g i) kind next all) (is_line_logged next.whose next.kind all)
    (tallies_of g all) (tallies_of g (after_due (Some next) all))

one_line : (g : Group) (i : ℕ) (kind : Kind) (whose : Whose) (next : Kind) (all : Tallies) → IsSlot (slot g i) all
    → count kind (tally_at (slot g i) all) < 2 ^ 64 - 1 → LeftBy g i kind (line whose next) all
one_line groups.upses i kind (of_ups u) next all is few = one_in all.upses i u.place true kind next is.within is.size few
one_line groups.users i kind (of_ups u) next all is few = elsewhere _ i kind (is_same kind next) _ is.within is.size
one_line groups.clients i kind (of_ups u) next all is few = elsewhere _ i kind (is_same kind next) _ is.within is.size
one_line groups.upses i kind (of_user u who) next all is few = elsewhere _ i kind (is_same kind next) _ is.within is.size
one_line groups.users i kind (of_user u who) next all is few =
    one_in all.users.tallies i (place_of who.address all.users.addresses.items) true kind next is.within is.size few
one_line groups.clients i kind (of_user u who) next all is few = elsewhere _ i kind (is_same kind next) _ is.within is.size
one_line groups.upses i kind (of_order deed) next all is few =
    subst (λ ys. Left i kind (counts_for (slot groups.upses i) kind (line (of_order deed) next) all)
    (is_line_logged (of_order deed) next all) all.upses ys)
    (sym (unchanged (is_first_order deed all.orders.items) (λ x. x.upses) _ _ all refl refl))
    (elsewhere all.upses i kind (is_same kind next) _ is.within is.size)
one_line groups.users i kind (of_order deed) next all is few =
    subst (λ ys. Left i kind (counts_for (slot groups.users i) kind (line (of_order deed) next) all)
    (is_line_logged (of_order deed) next all) all.users.tallies ys)
    (sym (field_of (is_first_order deed all.orders.items) (λ x. x.users.tallies) _ _))
    (one_unless_first (is_first_order deed all.orders.items) all.users.tallies i
    (place_of deed.who.address all.users.addresses.items) kind next is.within is.size few)
one_line groups.clients i kind (of_order deed) next all is few =
    subst (λ ys. Left i kind (counts_for (slot groups.clients i) kind (line (of_order deed) next) all)
    (is_line_logged (of_order deed) next all) all.clients.tallies ys)
    (sym (unchanged (is_first_order deed all.orders.items) (λ x. x.clients.tallies) _ _ all refl refl))
    (elsewhere all.clients.tallies i kind (is_same kind next) _ is.within is.size)
one_line groups.upses i kind (of_refused deed) next all is few = elsewhere _ i kind (is_same kind next) _ is.within is.size
one_line groups.users i kind (of_refused deed) next all is few = elsewhere _ i kind (is_same kind next) _ is.within is.size
one_line groups.clients i kind (of_refused deed) next all is few =
    one_in all.clients.tallies i (place_of (network_of deed.who.address) all.clients.addresses.items) (has_refusal_room all)
    kind next is.within is.size few
one_line groups.upses i kind (of_client address) next all is few = elsewhere _ i kind (is_same kind next) _ is.within is.size
one_line groups.users i kind (of_client address) next all is few = elsewhere _ i kind (is_same kind next) _ is.within is.size
one_line groups.clients i kind (of_client address) next all is few =
    one_in all.clients.tallies i (place_of (network_of address) all.clients.addresses.items) (has_refusal_room all)
    kind next is.within is.size few

-- Lines one after another.
pub record LeftByAll (kind : Kind) (lines : List (Option Line)) (slot : Slot) (all : Tallies) : Type 0 where
  pub adds : times_of (is_logged_for slot kind) lines all + count kind (tally_at slot (after_dues lines all))
      ≡ count kind (tally_at slot all) + times_of (counts_for slot kind) lines all
  pub is : IsSlot slot (after_dues lines all)
  pub says : HasPriority kind (tally_at slot all) → HasPriority kind (tally_at slot (after_dues lines all))

each_line : (g : Group) (i : ℕ) (kind : Kind) (lines : List (Option Line)) (all : Tallies) → IsSlot (slot g i) all
    → count kind (tally_at (slot g i) all) + times_of (counts_for (slot g i) kind) lines all < 2 ^ 64 - 1
    → LeftByAll kind lines (slot g i) all
each_line g i kind [] all is few = record { adds = grind arith; is = is; says = λ h. h }
each_line g i kind (None ∷ later) all is few =
    let rest = each_line g i kind later all is (grind (arith, few)) in
    record { adds = grind (arith, rest.adds); is = rest.is; says = rest.says }
each_line g i kind (Some next ∷ later) all is few =
    let one = one_line g i kind next.whose next.kind all is (grind (arith, few)) in
    let rest = each_line g i kind later (after_due (Some next) all)
    (record { within = one.within; size = one.size }) (grind (arith, few, one.adds)) in
    record { adds = grind (arith, one.adds, rest.adds); is = rest.is; says = λ h. rest.says (one.says h) }

-- A second begins for some tallies: what is reported is counted no longer.
none_counted : (n i : ℕ) → slice_index (repeat n (0 ∷ [])) i ≡ 0
none_counted zero i = refl
none_counted (suc n) zero = refl
none_counted (suc n) (suc i) = none_counted n i

passed : (kind : Kind) (y : Tally) (is_minute : Bool)
    → (if is_reported y is_minute then count kind y else 0) + count kind (after_second y is_minute) ≡ count kind y
passed kind y is_minute = grind (arith, nat_tests, none_counted 20 (number kind))

pub record Turned (i n : ℕ) (starts is_minute : Bool) (kind : Kind) (xs ys : List Tally) : Type 0 where
  pub adds : (if starts && (nat_lt i n && is_reported (at xs i) is_minute) then count kind (at xs i) else 0)
      + count kind (at ys i) ≡ count kind (at xs i)
  pub within : i < length ys
  pub size : length (at ys i).more ≡ 20
  pub says : HasPriority kind (at xs i) → HasPriority kind (at ys i)

turn : (xs : List Tally) (i n : ℕ) (starts is_minute : Bool) (kind : Kind) → i < length xs
    → length (at xs i).more ≡ 20
    → Turned i n starts is_minute kind xs (if starts then first_mapped (λ y. after_second y is_minute) n xs else xs)
turn xs i n false is_minute kind within size =
    record { adds = grind arith; within = within; size = size; says = λ h. h }
turn xs i n true is_minute kind within size = record {
  adds = rw (at_mapped (λ y. after_second y is_minute) xs n i within)
      (grind (arith, nat_tests, passed kind (at xs i) is_minute));
  within = rw (length_mapped (λ y. after_second y is_minute) xs n) within;
  size = rw (at_mapped (λ y. after_second y is_minute) xs n i within) (grind (arith, nat_tests));
  says = rw (at_mapped (λ y. after_second y is_minute) xs n i within)
      (λ h. grind (arith, nat_tests, h, none_counted 20 (number kind)));
}

pub record Begun (kind : Kind) (was : Option ℕ) (call : Call) (slot : Slot) (all : Tallies) : Type 0 where
  pub adds : reported_in slot kind was call all + count kind (tally_at slot (tallies_begun was call all))
      ≡ count kind (tally_at slot all)
  pub is : IsSlot slot (tallies_begun was call all)
  pub says : HasPriority kind (tally_at slot all) → HasPriority kind (tally_at slot (tallies_begun was call all))

one_begins : (g : Group) (i : ℕ) (kind : Kind) (was : Option ℕ) (call : Call) (all : Tallies) → IsSlot (slot g i) all
    → Begun kind was call (slot g i) all
one_begins groups.upses i kind was call all is =
    let same = field_of (begins was call.state.moment) (λ x. x.upses)
    (after_second_of (length call.state.list) (begins_minute was call.state.moment) all) all in
    let one = turn all.upses i (length call.state.list) (begins was call.state.moment)
    (begins_minute was call.state.moment) kind is.within is.size in
    record { adds = rw same one.adds; is = record { within = rw same one.within; size = rw same one.size }; says = rw same one.says }
one_begins groups.users i kind was call all is =
    let same = field_of (begins was call.state.moment) (λ x. x.users.tallies)
    (after_second_of (length call.state.list) (begins_minute was call.state.moment) all) all in
    let one = turn all.users.tallies i (length all.users.addresses.items + 1) (begins was call.state.moment)
    (begins_minute was call.state.moment) kind is.within is.size in
    record { adds = rw same one.adds; is = record { within = rw same one.within; size = rw same one.size }; says = rw same one.says }
one_begins groups.clients i kind was call all is =
    let same = field_of (begins was call.state.moment) (λ x. x.clients.tallies)
    (after_second_of (length call.state.list) (begins_minute was call.state.moment) all) all in
    let one = turn all.clients.tallies i (length all.clients.addresses.items + 1) (begins was call.state.moment)
    (begins_minute was call.state.moment) kind is.within is.size in
    record { adds = rw same one.adds; is = record { within = rw same one.within; size = rw same one.size }; says = rw same one.says }

-- Calls one after another.
abbrev pub end_of : List Call → Option ℕ → Tallies → Tallies
end_of [] was all = all
end_of (call ∷ later) was all = end_of later (Some call.state.moment) (tallies_after was call all)

pub record LeftByCalls (kind : Kind) (calls : List Call) (was : Option ℕ) (slot : Slot) (all : Tallies) : Type 0 where
  pub adds : in_run (times_in (is_logged_for slot kind)) calls was all
      + (in_run (reported_in slot kind) calls was all + count kind (tally_at slot (end_of calls was all)))
      ≡ count kind (tally_at slot all) + in_run (times_in (counts_for slot kind)) calls was all
  pub says : HasPriority kind (tally_at slot all) → HasPriority kind (tally_at slot (end_of calls was all))

each_call : (g : Group) (i : ℕ) (kind : Kind) (calls : List Call) (was : Option ℕ) (all : Tallies)
    → IsSlot (slot g i) all
    → count kind (tally_at (slot g i) all) + in_run (times_in (counts_for (slot g i) kind)) calls was all < 2 ^ 64 - 1
    → LeftByCalls kind calls was (slot g i) all
each_call g i kind [] was all is few = record { adds = grind arith; says = λ h. h }
each_call g i kind (call ∷ later) was all is few =
    let second = one_begins g i kind was call all is in
    let lines = each_line g i kind (dues call) (tallies_begun was call all) second.is (grind (arith, few, second.adds)) in
    let rest = each_call g i kind later (Some call.state.moment) (tallies_after was call all) lines.is
    (grind (arith, few, second.adds, lines.adds)) in
    record { adds = grind (arith, second.adds, lines.adds, rest.adds); says = λ h. rest.says (lines.says (second.says h)) }

-- What a call leaves.
is_now : (was : Option ℕ) (now : ℕ) → option_eq nat_eq was (Some now) ≡ true → was ≡ Some now
is_now None now h = cc
is_now (Some last) now h = ap Some (grind (arith, nat_tests))

is_other : (was : Option ℕ) (now : ℕ) → option_eq nat_eq was (Some now) ≡ false → was ≢ Some now
is_other None now h = λ same. cc
is_other (Some last) now h = λ same. let equal : last ≡ now = cc in grind (arith, nat_tests)

begun_of : (same : Bool) (call : Call) (old begun : Journal)
    → Begins call.state call.doings old begun → option_eq nat_eq old.moment (Some call.state.moment) ≡ same
    → (begun.moment ≡ Some call.state.moment) × (begun.tallies ≡ (if not same
    then after_second_of (length call.state.list) (begins_minute old.moment call.state.moment) old.tallies
    else old.tallies))
begun_of true call old begun is h =
    let now = is_now old.moment call.state.moment h in
    let same = is.goes_on now in
    (ap (λ j. j.moment) same ∙ now, ap (λ j. j.tallies) same)
begun_of false call old begun is h =
    let second = is.begins (is_other old.moment call.state.moment h) in (
      ap (λ j. j.moment) second.is ∙ ap (λ j. j.moment) second.same ∙ ap (λ j. j.moment) second.lines.is,
      ap (λ j. j.tallies) second.is ∙ ap (λ j. j.tallies) second.same ∙ ap (λ j. j.tallies) second.lines.is,
    )

call_ends : (call : Call) (old new : Journal) (is : IsCall call.state call.notes call.doings old new)
    → call.drivers ≡ is.begun.drivers
    → (new.moment ≡ Some call.state.moment) × (new.tallies ≡ tallies_after old.moment call old.tallies)
call_ends call old new is drivers =
    let begun = begun_of (option_eq nat_eq old.moment (Some call.state.moment)) call old is.begun is.second refl in (
      ap (λ j. j.moment) is.same ∙ begun.0,
      ap (λ j. j.tallies) is.same
          ∙ ap (after_dues (dues_of_call call.state call.notes call.doings is.begun.drivers)) begun.1
          ∙ ap (λ drivers. after_dues (dues_of_call call.state call.notes call.doings drivers)
          (tallies_begun old.moment call old.tallies)) (sym drivers),
    )

pub run_ends : (calls : List Call) (old new : Journal) → Run calls old new
    → new.tallies ≡ end_of calls old.moment old.tallies
run_ends [] old new same = ap (λ j. j.tallies) same
run_ends (call ∷ later) old new (next, is, drivers, rest) =
    let ends = call_ends call old next is drivers in
    run_ends later next new rest ∙ ap (λ was. end_of later was next.tallies) ends.0
    ∙ ap (end_of later (Some call.state.moment)) ends.1

-- What a call brings to the buffer.
notes_come : (list : List Ups) (dues : List (Option Line)) (all : Tallies) (a b : LogBuffer)
    → DuesMore list dues all a b → Come (note_places list dues all) a b
notes_come list [] all a b same = none_come a b same
notes_come list (None ∷ later) all a b (next, same, rest) =
    subst (λ log. Come (note_places list later all) log b) same (notes_come list later all next b rest)
notes_come list (Some line ∷ later) all a b (next, one, rest) =
    come_then (record { due = due_now line.whose line.kind all; ups = ups_of list line.whose } ∷ [])
    (note_places list later (after_due (Some line) all)) a next b
    (one_comes (due_now line.whose line.kind all) (ups_of list line.whose) a next one)
    (notes_come list later (after_due (Some line) all) next b rest)

counts_come : (same : Bool) (call : Call) (old begun : Journal)
    → Begins call.state call.doings old begun → option_eq nat_eq old.moment (Some call.state.moment) ≡ same
    → Come (if not same then tally_places (begins_minute old.moment call.state.moment) call.state.list old.tallies
    else []) old.log begun.log
counts_come true call old begun is h =
    none_come old.log begun.log (ap (λ j. j.log) (is.goes_on (is_now old.moment call.state.moment h)))
counts_come false call old begun is h =
    let second = is.begins (is_other old.moment call.state.moment h) in
    let places : List Place = tally_places (begins_minute old.moment call.state.moment) call.state.list old.tallies in
    let rest = some_come second.lines.counted begun.log (then_some second.lines.counted second.seen.log begun.log
    (then_some second.lines.counted second.begun.log second.seen.log second.lines.others second.news) second.crowd) in
    come_behind places old.log second.lines.counted begun.log
    (all_come places old.log second.lines.counted second.lines.lines) rest

run_comes : (calls : List Call) (old new : Journal) → Run calls old new
    → Come (run_places calls old.moment old.tallies) old.log new.log
run_comes [] old new same = none_come old.log new.log (ap (λ j. j.log) same)
run_comes (call ∷ later) old new (next, is, drivers, rest) =
    let state = call.state in
    let ends = call_ends call old next is drivers in
    let begun = begun_of (option_eq nat_eq old.moment (Some state.moment)) call old is.begun is.second refl in
    let counts = counts_come (option_eq nat_eq old.moment (Some state.moment)) call old is.begun is.second refl in
    let notes : Come (note_places state.list (dues call) (tallies_begun old.moment call old.tallies)) is.begun.log is.logged =
    notes_come state.list (dues call) (tallies_begun old.moment call old.tallies) is.begun.log is.logged
    (subst (λ all. DuesMore state.list (dues call) all is.begun.log is.logged) begun.1
    (subst (λ drivers. DuesMore state.list (dues_of_call state call.notes call.doings drivers)
    is.begun.tallies is.begun.log is.logged) (sym drivers) is.lines)) in
    let flushed = flushes_come is.flushed.times is.logged next.log is.flushed.are in
    let lines = come_then _ _ old.log is.begun.log next.log counts
    (come_behind _ is.begun.log is.logged next.log notes flushed) in
    let more : Come (run_places later (Some state.moment) (tallies_after old.moment call old.tallies)) next.log new.log =
    subst (λ was. Come (run_places later was (tallies_after old.moment call old.tallies)) next.log new.log) ends.0
    (subst (λ all. Come (run_places later next.moment all) next.log new.log) ends.1 (run_comes later next new rest)) in
    come_then _ _ old.log next.log new.log lines more

pub logged_and_counted_are_all : LoggedAndCountedAreAll
logged_and_counted_are_all = record {
  all = λ slot kind calls old new run is few.
      rw (run_ends calls old new run) (each_call slot.group slot.place kind calls old.moment old.tallies is few).adds;
  has_line = λ slot kind calls old new run is few.
      rw (run_ends calls old new run) (each_call slot.group slot.place kind calls old.moment old.tallies is few).says;
  lines = run_comes;
}
