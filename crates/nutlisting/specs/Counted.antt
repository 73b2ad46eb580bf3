-- How many lines are counted when bytes are placed in the queue.
use Rattle.std.specs.Prelude.{◌≡◌, ◌≤◌, ◌-◌, ℕ, false, List, ◌++◌, Option, length, take, drop}
use Rattle.nutlisting.specs.Counts.{is_open, lines, count_more}
use Rattle.nutlisting.specs.Counts.{what_fits}
use Rattle.nutlisting.specs.Items.{ListingState, text_of}
use Rattle.nutlisting.specs.Lines.{IsWholeLine}
use Rattle.nutlisting.specs.Owed.{Owes, owed, rest_of, IsOutbox}
use Rattle.nutlisting.specs.Items.{Position}
use Rattle.nutlisting.specs.declared.outbox.TheConstants.{OWED_LIMIT}
use Rattle.nutlisting.specs.declared.outbox.TheConstants.{QUEUE_LIMIT}

-- Of what is offered now, so many bytes were there before. The lines of those after them are
-- counted, and none of these is unfinished while a line may be executed.
pub record IsCounted (kept : ℕ) (owed : List ℕ) (made : ℕ) : Type 0 where
  pub within : kept ≤ length (take QUEUE_LIMIT owed)
  pub counted : made ≡ lines (drop kept (take QUEUE_LIMIT owed))
  pub ended : length owed ≤ OWED_LIMIT → is_open (drop kept (take QUEUE_LIMIT owed)) ≡ false

-- Where all were counted, all are.
abbrev pub KeepsCount : List ℕ → ℕ → List ℕ → ℕ → Type 0
KeepsCount owed made owed' made' =
    (kept : ℕ) → IsCounted kept owed made → IsCounted kept owed' made'

-- Nothing is counted yet; a whole line or a listing is joined to what is owed, and its lines are
-- counted as far as they are placed; bytes are taken, and the queue is filled again.
pub record WhatIsPlacedIsCounted : Type 0 where
  pub none : (bytes : List ℕ) (made : ℕ) → made ≡ 0
      → IsCounted (length (take QUEUE_LIMIT bytes)) bytes made
  pub line : (now : List ℕ) (old new : Owes) (line : List ℕ) (made more : ℕ) → owed old ≡ now
      → length now ≤ OWED_LIMIT → length line ≤ OWED_LIMIT → IsWholeLine line
      → owed new ≡ owed old ++ line → more ≡ count_more made 1
      → KeepsCount now made (owed new) more
  pub listing : (now : List ℕ) (old new : Owes) (l : ListingState) (made more : ℕ)
      → owed old ≡ now → IsOutbox old.queue old.cursor → length now ≤ OWED_LIMIT
      → owed new ≡ owed old ++ text_of l
      → more ≡ count_more made (lines (what_fits old.queue (text_of l)))
      → KeepsCount now made (owed new) more
  pub taken : (queue : List ℕ) (cursor : Option Position) (n made more : ℕ) → IsOutbox queue cursor
      → n ≤ length queue → made ≡ 0
      → more ≡ count_more made (lines (what_fits (drop n queue) (rest_of cursor)))
      → IsCounted (length queue - n) (drop n (queue ++ rest_of cursor)) more
