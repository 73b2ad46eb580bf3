-- Lists of a greatest length.
use Rattle.std.specs.Prelude.{ℕ, List, [], ◌∷◌, ◌++◌, Option, Some, None, take}

-- The items, and one more, if there is one and room for it.
abbrev pub with_one : {A : Type 0} → ℕ → Option A → List A → List A
with_one limit None items = items
with_one limit (Some item) items = take limit (items ++ item ∷ [])
