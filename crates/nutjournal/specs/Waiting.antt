-- What is still to be logged, for which the journal asks to be called in the next second.
use Rattle.std.specs.Prelude.{◌≡◌, ℕ, Bool, true, false, List, ◌∷◌, ◌||◌}
use Rattle.std.specs.Prelude.{is_none, is_some, ◌&&◌}
use Rattle.std.specs.Prelude.{take}
use Rattle.std.specs.List.{list_any}
use Rattle.nutjournal.specs.Refusals.{is_any_refusal_behind}
use Rattle.nutjournal.specs.declared.doings.Doings.{Doings}
use Rattle.nutjournal.specs.declared.journal.Journal.{Journal}
use Rattle.nutjournal.specs.declared.tally.Count.{Count}
use Rattle.nutjournal.specs.LogBuffer.{has_waiting}
use Rattle.nutjournal.specs.Tally.{has_more, is_behind}

-- Lines wait, or lines of one of the first UPSs or of a client were counted, or a driver of these
-- UPSs may be late.
abbrev pub holds : ℕ → Journal → Bool
holds count j =
    has_waiting j.log
    || (list_any has_more (take count j.tallies.upses)
    || (list_any has_more j.tallies.users.tallies
    || (list_any has_more j.tallies.clients.tallies
    || list_any (λ x. is_some x.awaited) (take count j.drivers))))

-- Then it asks for more.
abbrev pub AsksForMore : ℕ → Journal → Type 0
AsksForMore count j = holds count j ≡ true → j.has_more ≡ true

-- Nobody left or was sent away in the last turn.
abbrev pub are_none : Doings → Bool
are_none doings = is_none doings.left && is_none doings.sent_away

-- One of these counts is more than what was logged of it,
abbrev pub is_one_behind : List ℕ → List Count → Bool
is_one_behind (n ∷ ns) (was ∷ weres) = is_behind n was || is_one_behind ns weres
is_one_behind _ _ = false

-- or somebody was sent away of whom nothing was logged.
abbrev pub are_behind : Doings → Journal → Bool
are_behind doings j =
    is_one_behind doings.counts j.counts || is_any_refusal_behind j.refusals
