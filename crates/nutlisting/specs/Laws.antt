-- What holds of every listing and of every cursor.
use Rattle.std.specs.Prelude.{◌≡◌, ℕ, ◌+◌, ◌≤◌, false, List, ◌++◌, length, take, Option}
use Rattle.std.specs.List.{concat}
use Rattle.nutlisting.specs.Counts.{is_open, lines}
use Rattle.nutlisting.specs.Items.{ListingState, text_of, lines_of}
use Rattle.nutlisting.specs.Lines.{IsWholeLine}
use Rattle.nutlisting.specs.Items.{Position, rest}
use Rattle.nutlisting.specs.Owed.{rest_of, IsOutbox}
use Rattle.nutlisting.specs.declared.outbox.TheConstants.{QUEUE_LIMIT}

-- The lines of a listing, joined, are its text.
abbrev pub LinesAreTheText : Type 0
LinesAreTheText = (l : ListingState) → concat (lines_of l) ≡ text_of l

-- What a cursor has still to place is empty or ends in LF.
abbrev pub BegunLinesAreEnded : Type 0
BegunLinesAreEnded = (p : Position) → is_open (rest p) ≡ false

-- Where no line is unfinished after a text, the lines of the text that follows it are counted by
-- themselves. A whole line is one line, and no text has more lines than bytes.
pub record LinesAddUp : Type 0 where
  pub counted : (a b : List ℕ) → is_open a ≡ false → lines (a ++ b) ≡ lines a + lines b
  pub unfinished : (a b : List ℕ) → is_open a ≡ false → is_open (a ++ b) ≡ is_open b
  pub one : (text : List ℕ) → IsWholeLine text → (lines text ≡ 1) × (is_open text ≡ false)
  pub few : (text : List ℕ) → lines text ≤ length text

-- What is offered of what is owed, its first bytes, is the queue.
abbrev pub WhatIsOfferedIsTheQueue : Type 0
WhatIsOfferedIsTheQueue =
    (queue : List ℕ) (cursor : Option Position) → IsOutbox queue cursor
    → take QUEUE_LIMIT (queue ++ rest_of cursor) ≡ queue
