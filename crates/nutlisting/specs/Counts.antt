-- How many lines a text has, and how they are counted.
use Rattle.std.specs.Prelude.{ℕ, ◌+◌, ◌-◌, ◌^◌, ◌==◌, Bool, false, not, min, List, [], ◌∷◌}
use Rattle.std.specs.Prelude.{count_by, if◌then◌else◌, ◌≡◌, ◌++◌, length, take, drop}
use Rattle.std.specs.List.{list_all}
use Rattle.nutlisting.specs.declared.outbox.TheConstants.{QUEUE_LIMIT}

abbrev pub is_lf : ℕ → Bool
is_lf b = b == 10

-- Whether no byte of the text is LF.
abbrev pub has_no_lf : List ℕ → Bool
has_no_lf text = list_all (λ b. not (is_lf b)) text

-- Whether a line is unfinished at the end of the text, where `unfinished` says whether one was at
-- its beginning.
abbrev pub leaves_open : Bool → List ℕ → Bool
leaves_open unfinished [] = unfinished
leaves_open unfinished (b ∷ text) = leaves_open (not (is_lf b)) text

-- Whether the text isn't empty and doesn't end in LF.
abbrev pub is_open : List ℕ → Bool
is_open text = leaves_open false text

-- How many lines the text has, a last one without LF among them.
abbrev pub lines : List ℕ → ℕ
lines text = count_by is_lf text + (if is_open text then 1 else 0)

-- A count of 64 bits after n more, which stops at its greatest number.
abbrev pub count_more : ℕ → ℕ → ℕ
count_more made n = min (made + n) (2 ^ 64 - 1)

-- The first bytes of the rest, as many as are free in the queue.
abbrev pub what_fits : List ℕ → List ℕ → List ℕ
what_fits queue rest = take (QUEUE_LIMIT - length queue) rest

-- What is left of the rest once those are placed.
abbrev pub what_stays : List ℕ → List ℕ → List ℕ
what_stays queue rest = drop (QUEUE_LIMIT - length queue) rest

-- From one queue, rest and count to another: once all that fits is placed, the queue, the rest and
-- the count are the same.
pub record PlacesAlike (queue rest : List ℕ) (count : ℕ) (queue' rest' : List ℕ)
    (count' : ℕ) : Type 0 where
  pub placed : queue' ++ what_fits queue' rest' ≡ queue ++ what_fits queue rest
  pub stays : what_stays queue' rest' ≡ what_stays queue rest
  pub counted : count_more count' (lines (what_fits queue' rest'))
      ≡ count_more count (lines (what_fits queue rest))
