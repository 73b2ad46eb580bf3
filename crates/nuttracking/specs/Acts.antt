-- Ids and orders over time: what is taken in, given and reported.
use Rattle.std.specs.Prelude.{ℕ, ◌==◌, ◌&&◌, List, [], ◌∷◌, ◌++◌, Option, Some, None}
use Rattle.std.specs.Prelude.{if◌then◌else◌}
use Rattle.nuttracking.specs.declared.order.Progress.{Progress}
use Rattle.nuttracking.specs.declared.order.Progress.TheVariants.{Pending, Done}
use Rattle.nuttracking.specs.Tracking.{TrackingState, is_taken_in, next_id, with_id, with_order}
use Rattle.nuttracking.specs.Tracking.{with_report}

-- An id is handed in; an order is given to the driver of the UPS at a place; that driver reports on
-- an id with a number.
pub data Act : Type 0 where
  handed_in : (id : ℕ) → Act
  ordered : (place : ℕ) → Act
  reported : (place : ℕ) → (id : ℕ) → (number : ℕ) → Act

abbrev pub after_act : TrackingState → Act → TrackingState
after_act t (handed_in id) = with_id id t
after_act t (ordered place) = with_order place t
after_act t (reported place id number) = with_report place id number t

abbrev pub after_acts : TrackingState → List Act → TrackingState
after_acts t [] = t
after_acts t (act ∷ acts) = after_acts (after_act t act) acts

-- The ids that were taken in, in order.
abbrev pub taken_by : TrackingState → Act → List ℕ
taken_by t (handed_in id) = if is_taken_in id t then id ∷ [] else []
taken_by t (ordered place) = []
taken_by t (reported place id number) = []

abbrev pub taken_in : TrackingState → List Act → List ℕ
taken_in t [] = []
taken_in t (act ∷ acts) = taken_by t act ++ taken_in (after_act t act) acts

-- An order as it was given: to the driver of the UPS at this place, with this id.
pub record Given : Type 0 where
  pub place : ℕ
  pub id : ℕ

-- The orders for which an id was used, in order.
abbrev pub given_for : ℕ → Option ℕ → List Given
given_for place None = []
given_for place (Some id) = (record { place = place; id = id }) ∷ []

abbrev pub given_by : TrackingState → Act → List Given
given_by t (handed_in id) = []
given_by t (ordered place) = given_for place (next_id t)
given_by t (reported place id number) = []

abbrev pub given : TrackingState → List Act → List Given
given t [] = []
given t (act ∷ acts) = given_by t act ++ given (after_act t act) acts

-- What the driver of this UPS said first about the id, if it did.
abbrev pub first_report : ℕ → ℕ → List Act → Progress
first_report place id [] = Pending
first_report place id (handed_in other ∷ acts) = first_report place id acts
first_report place id (ordered other ∷ acts) = first_report place id acts
first_report place id (reported from other number ∷ acts) =
    if (id == other) && (place == from) then Done number else first_report place id acts
