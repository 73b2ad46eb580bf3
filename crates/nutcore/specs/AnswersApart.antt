-- A client can split its stream into answers in one way.
use Rattle.std.specs.Prelude.{◌≡◌, ℕ, not, List, ◌++◌, All, map, filter}
use Rattle.std.specs.List.{concat}
use Rattle.nutwords.specs.Answers.{IsAnswer}
use Rattle.nutwords.specs.Natural.{is_empty}
use Rattle.nutcore.specs.declared.event.Event.{Event}
use Rattle.nutcore.specs.declared.event.Outcome.{Outcome}
use Rattle.nutcore.specs.Addresses.{OpensLawfully}
use Rattle.nutcore.specs.DriverRuns.{IsNewServer}
use Rattle.nutcore.specs.History.{text_of, of_client, executions, answers, taken}
use Rattle.nutcore.specs.Run.{Run}
use Rattle.nutcore.specs.Server.{ServerState}

-- The answers that the run gave the client, one by one, in their order. A line without words has
-- none.
abbrev pub list_of_answers : ℕ → ServerState → List Event → List Outcome → List (List ℕ)
list_of_answers c s es os =
    filter (λ text. not (is_empty text)) (map text_of (of_client c (executions s es os)))

-- Each of them has the shape of an answer, and joined they are the text of the run's answers: no
-- other list of answers is. The answers that are cut off what the client took are the first of
-- them.
pub record AreCutInOneWay (c : ℕ) (old : ServerState) (events : List Event)
    (outcomes : List Outcome) : Type 0 where
  pub each : All IsAnswer (list_of_answers c old events outcomes)
  pub joined : concat (list_of_answers c old events outcomes) ≡ answers c old events outcomes
  pub only : (others : List (List ℕ)) → All IsAnswer others
      → concat others ≡ answers c old events outcomes
      → others ≡ list_of_answers c old events outcomes
  pub taken_first : (firsts : List (List ℕ)) (rest : List ℕ) → All IsAnswer firsts
      → concat firsts ++ rest ≡ taken c old events outcomes
      → (others : List (List ℕ)) × (firsts ++ others ≡ list_of_answers c old events outcomes)

-- Over every run from a new server whose sessions are opened from lawful addresses, of every
-- client.
abbrev pub TheAnswersOfARunAreCutInOneWay : Type 0
TheAnswersOfARunAreCutInOneWay =
    (old new : ServerState) (events : List Event) (outcomes : List Outcome) → IsNewServer old
    → Run old events outcomes new → All OpensLawfully events → (c : ℕ)
    → AreCutInOneWay c old events outcomes
