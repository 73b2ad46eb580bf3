-- What is written of the lines that come.
use Rattle.std.proofs.Common.{◌≡◌, ◌∙◌, ℕ, zero, suc, ◌+◌, ◌<◌, ◌^◌, List, [], ◌∷◌, ◌++◌, Bool, true, false}
use Rattle.std.proofs.Common.{Option, Some, None, append_assoc, arith, refl, ap, sym, subst}
use Rattle.std.specs.Prelude.{if◌then◌else◌}
use Rattle.std.proofs.lemmas.Bool.Decides.{nat_tests}
use Rattle.std.proofs.lemmas.Grind.{common_steps}
use Rattle.std.proofs.lemmas.List.{append-nil}
use Rattle.std.proofs.lemmas.List.Elements.{filter-append}
use Rattle.nutjournal.specs.declared.log_buffer.LogBuffer.{LogBuffer}
use Rattle.nutjournal.specs.LogBuffer.{AreFlushes, IsFlushedOnce, MoreAfter, Place, PlaceMore, PlacesMore, SomeMore}
use Rattle.nutjournal.specs.LogBuffer.{has_room, none_dropped, one_dropped}
use Rattle.nutjournal.specs.Written.{AreAmong, Come, Step, WhatIsQueuedIsWritten, after_step, after_steps, bytes_of}
use Rattle.nutjournal.specs.Written.{comes, counted, counted_by, dropped_by, due_of, number_of, places_of, queued_by}
use Rattle.nutjournal.specs.Written.{taken, whole_line, written_by}

came : (room : Bool) (priority : ℕ) (line lf : List ℕ) (log : LogBuffer)
    → (if room then record log { waiting = log.waiting ++ line ++ lf } else one_dropped priority log).waiting
    ≡ log.waiting ++ (if room then line ++ lf else [])
came true priority line lf log = append_assoc log.waiting line lf
came false priority line lf log = grind (arith, common_steps)

one_written : (step : Step) (log : LogBuffer)
    → written_by step log ++ (after_step step log).waiting ≡ log.waiting ++ queued_by step log
one_written (comes priority ups text) log = came (has_room priority (whole_line priority ups text log) log) priority
    (whole_line priority ups text log) (10 ∷ []) log
one_written counted log = grind (arith, common_steps)
one_written (taken count) log = grind (arith, common_steps)

all_written : (steps : List Step) (log : LogBuffer)
    → bytes_of written_by steps log ++ (after_steps steps log).waiting ≡ log.waiting ++ bytes_of queued_by steps log
all_written [] log = grind (arith, common_steps)
all_written (step ∷ later) log =
    append_assoc (written_by step log) _ _
    ∙ ap (λ l. written_by step log ++ l) (all_written later (after_step step log))
    ∙ sym (append_assoc (written_by step log) _ _)
    ∙ ap (λ l. l ++ bytes_of queued_by later (after_step step log)) (one_written step log)
    ∙ append_assoc log.waiting _ _

one_dropped_by : (step : Step) (log : LogBuffer) → log.dropped + dropped_by step log < 2 ^ 64
    → counted_by step log + (after_step step log).dropped ≡ log.dropped + dropped_by step log
one_dropped_by (comes priority ups text) log few = grind (arith, nat_tests)
one_dropped_by counted log few = grind arith
one_dropped_by (taken count) log few = grind arith

all_dropped : (steps : List Step) (log : LogBuffer) → log.dropped + number_of dropped_by steps log < 2 ^ 64
    → number_of counted_by steps log + (after_steps steps log).dropped ≡ log.dropped + number_of dropped_by steps log
all_dropped [] log few = grind arith
all_dropped (step ∷ later) log few =
    let first = one_dropped_by step log (grind (arith, few)) in
    let rest = all_dropped later (after_step step log) (grind (arith, few, first)) in
    grind (arith, first, rest)

pub what_is_queued_is_written : WhatIsQueuedIsWritten
what_is_queued_is_written = record { written = all_written; dropped = all_dropped }

-- The terminal that is written to changes nothing else.
abbrev over : LogBuffer → LogBuffer → LogBuffer
over of log = record log { terminal = of.terminal }

kept : (room : Bool) (of one other : LogBuffer)
    → (if room then over of one else over of other) ≡ over of (if room then one else other)
kept true of one other = refl
kept false of one other = refl

one_over : (step : Step) (of log : LogBuffer) → after_step step (over of log) ≡ over of (after_step step log)
one_over (comes priority ups text) of log = kept (has_room priority (whole_line priority ups text log) log) of _ _
one_over counted of log = refl
one_over (taken count) of log = refl

all_over : (steps : List Step) (of log : LogBuffer) → after_steps steps (over of log) ≡ over of (after_steps steps log)
all_over [] of log = refl
all_over (step ∷ later) of log = ap (after_steps later) (one_over step of log) ∙ all_over later of (after_step step log)

-- Steps behind others.
steps_both : (xs ys : List Step) (log : LogBuffer) → after_steps (xs ++ ys) log ≡ after_steps ys (after_steps xs log)
steps_both [] ys log = refl
steps_both (x ∷ xs) ys log = steps_both xs ys (after_step x log)

places_both : (xs ys : List Step) → places_of (xs ++ ys) ≡ places_of xs ++ places_of ys
places_both [] ys = refl
places_both (comes priority ups text ∷ xs) ys =
    ap (λ l. record { due = Some priority; ups = ups } ∷ l) (places_both xs ys)
places_both (counted ∷ xs) ys = places_both xs ys
places_both (taken count ∷ xs) ys = places_both xs ys

behind : (ys before those : List Place) → AreAmong ys those → AreAmong ys (before ++ those)
behind [] before those h = tt
behind (y ∷ ys) before those (front, end, is, rest) =
    (before ++ front, end, ap (λ l. before ++ l) is ∙ sym (append_assoc before front (y ∷ end)), rest)

both_among : (xs ys those others : List Place) → AreAmong xs those → AreAmong ys others
    → AreAmong (xs ++ ys) (those ++ others)
both_among [] ys those others first later = behind ys those others later
both_among (x ∷ xs) ys those others (front, end, is, rest) later = (
  front,
  end ++ others,
  ap (λ l. l ++ others) is ∙ append_assoc front (x ∷ end) others,
  both_among xs ys end others rest later,
)

pub come_then : (xs ys : List Place) (a b c : LogBuffer) → Come xs a b → Come ys b c → Come (xs ++ ys) a c
come_then xs ys a b c one two = record {
  steps = one.steps ++ two.steps;
  are = two.are ∙ ap (λ log. over c (after_steps two.steps log)) one.are
      ∙ ap (over c) (all_over two.steps b (after_steps one.steps a))
      ∙ ap (over c) (sym (steps_both one.steps two.steps a));
  among = rw (filter-append _ xs ys, places_both one.steps two.steps)
      (both_among (due_of xs) (due_of ys) (places_of one.steps) (places_of two.steps) one.among two.among);
}

pub none_come : (a b : LogBuffer) → b ≡ a → Come [] a b
none_come a b same = record { steps = []; are = subst (λ log. log ≡ over log a) (sym same) refl; among = tt }

pub one_comes : (due : Option ℕ) (ups : Option (List ℕ)) (a b : LogBuffer) → PlaceMore due ups a b
    → Come (record { due = due; ups = ups } ∷ []) a b
one_comes None ups a b same =
    record { steps = []; are = subst (λ log. log ≡ over log a) (sym same) refl; among = tt }
one_comes (Some priority) ups a b one = record {
  steps = comes priority ups one.text ∷ [];
  are = subst (λ log. log ≡ over log (after_step (comes priority ups one.text) a)) (sym one.added) refl;
  among = ([], [], refl, tt);
}

pub all_come : (places : List Place) (a b : LogBuffer) → PlacesMore places a b → Come places a b
all_come [] a b same = none_come a b same
all_come (place ∷ later) a b (next, one, rest) =
    come_then (place ∷ []) later a next b (one_comes place.due place.ups a next one) (all_come later next b rest)

-- What is of no note comes behind.
pub come_behind : (places : List Place) (a b c : LogBuffer) → Come places a b → Come [] b c → Come places a c
come_behind places a b c one two =
    subst (λ all. Come all a c) (append-nil places) (come_then places [] a b c one two)

pub some_come : (a b : LogBuffer) → SomeMore a b → Come [] a b
some_come a b more =
    let all = all_come more.places a b more.are in record { steps = all.steps; are = all.are; among = tt }

-- What waits is written.
count_comes : (is_due : Bool) (a b : LogBuffer) → MoreAfter is_due a b → Come [] a b
count_comes true a b one = record {
  steps = counted ∷ comes a.worst None one.text ∷ [];
  are = subst (λ log. log ≡ over log (after_step (comes a.worst None one.text) (none_dropped a))) (sym one.added) refl;
  among = tt;
}
count_comes false a b same = none_come a b same

flushed_once : (a b : LogBuffer) → IsFlushedOnce a b → Come [] a b
flushed_once a b once = come_then [] [] a once.counted b (count_comes _ a once.counted once.counts)
    (record { steps = taken once.taken ∷ []; are = once.is; among = tt })

pub flushes_come : (n : ℕ) (a b : LogBuffer) → AreFlushes n a b → Come [] a b
flushes_come zero a b same = none_come a b same
flushes_come (suc n) a b (next, before, once) =
    come_then [] [] a next b (flushes_come n a next before) (flushed_once next b once)
