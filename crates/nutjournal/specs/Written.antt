-- What is written of the lines that come.
use Rattle.std.specs.Prelude.{◌≡◌, ℕ, ◌+◌, ◌^◌, ◌<◌, List, [], ◌∷◌, ◌++◌, Option, Some, drop, take}
use Rattle.std.specs.Prelude.{if◌then◌else◌, is_some, ⊤}
use Rattle.std.specs.List.{filter}
use Rattle.nutjournal.specs.declared.log_buffer.LogBuffer.{LogBuffer}
use Rattle.nutjournal.specs.LogBuffer.{Place, after_line, has_room, line_about, none_dropped}

-- What happens to the lines that wait: one comes, none counts as dropped from then on, or standard
-- error takes so many bytes.
pub data Step : Type 0 where
  comes : (priority : ℕ) → (ups : Option (List ℕ)) → (text : List ℕ) → Step
  counted : Step
  taken : (count : ℕ) → Step

abbrev pub whole_line : ℕ → Option (List ℕ) → List ℕ → LogBuffer → List ℕ
whole_line priority ups text log = line_about log.has_priorities priority ups text

abbrev pub after_step : Step → LogBuffer → LogBuffer
after_step (comes priority ups text) log = after_line priority (whole_line priority ups text log) log
after_step counted log = none_dropped log
after_step (taken count) log = record log { waiting = drop count log.waiting }

abbrev pub after_steps : List Step → LogBuffer → LogBuffer
after_steps [] log = log
after_steps (step ∷ later) log = after_steps later (after_step step log)

-- The bytes of a line that has room, with its LF, and those that standard error takes.
abbrev pub queued_by : Step → LogBuffer → List ℕ
queued_by (comes priority ups text) log =
    if has_room priority (whole_line priority ups text log) log
    then whole_line priority ups text log ++ 10 ∷ [] else []
queued_by _ log = []

abbrev pub written_by : Step → LogBuffer → List ℕ
written_by (taken count) log = take count log.waiting
written_by _ log = []

abbrev pub bytes_of : (Step → LogBuffer → List ℕ) → List Step → LogBuffer → List ℕ
bytes_of each [] log = []
bytes_of each (step ∷ later) log = each step log ++ bytes_of each later (after_step step log)

-- A line that has none is dropped. How many were is reported once.
abbrev pub dropped_by : Step → LogBuffer → ℕ
dropped_by (comes priority ups text) log =
    if has_room priority (whole_line priority ups text log) log then 0 else 1
dropped_by _ log = 0

abbrev pub counted_by : Step → LogBuffer → ℕ
counted_by counted log = log.dropped
counted_by _ log = 0

abbrev pub number_of : (Step → LogBuffer → ℕ) → List Step → LogBuffer → ℕ
number_of each [] log = 0
number_of each (step ∷ later) log = each step log + number_of each later (after_step step log)

-- The lines that come, by their priorities and UPSs, and that others are among them, in their order.
abbrev pub places_of : List Step → List Place
places_of [] = []
places_of (comes priority ups text ∷ later) =
    record { due = Some priority; ups = ups } ∷ places_of later
places_of (_ ∷ later) = places_of later

abbrev pub AreAmong : List Place → List Place → Type 0
AreAmong [] those = ⊤
AreAmong (place ∷ later) those =
    (before after : List Place) × (those ≡ before ++ place ∷ after) × AreAmong later after

abbrev pub due_of : List Place → List Place
due_of places = filter (λ place. is_some place.due) places

-- Such steps lead from one to the other.
pub record Come (places : List Place) (old new : LogBuffer) : Type 0 where
  pub steps : List Step
  pub are : new ≡ record (after_steps steps old) { terminal = new.terminal }
  pub among : AreAmong (due_of places) (places_of steps)

-- What was written, and then what waits, is what waited and what was queued. Each other line is
-- dropped, and counts as that until their number is logged.
pub record WhatIsQueuedIsWritten : Type 0 where
  pub written : (steps : List Step) (log : LogBuffer)
      → bytes_of written_by steps log ++ (after_steps steps log).waiting
      ≡ log.waiting ++ bytes_of queued_by steps log
  pub dropped : (steps : List Step) (log : LogBuffer)
      → log.dropped + number_of dropped_by steps log < 2 ^ 64
      → number_of counted_by steps log + (after_steps steps log).dropped
      ≡ log.dropped + number_of dropped_by steps log
