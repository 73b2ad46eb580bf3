-- Variables that a walk looked up ahead of a cursor.
use Rattle.std.specs.Prelude.{◌≡◌, ℕ, List, [], ◌∷◌, Option, None, Some, length, map, take}
use Rattle.nutmap.specs.Entries.{entries_after}
use Rattle.nutdriver.specs.Tree.{byte_order}
use Rattle.nutdriver.specs.Variable.{VariableState}
use Rattle.nutlisting.specs.declared.listing.Content.{Content}
use Rattle.nutlisting.specs.declared.listing.Content.TheVariants.{Variables}
use Rattle.nutlisting.specs.declared.listing.stage.Stage.TheVariants.{Names}
use Rattle.nutlisting.specs.Stages.{Reached}

module _ {E : Type 0} where
  -- The first of the entries are ahead, any number of them.
  abbrev pub AreFirst : List E → List (Option E) → Type 0
  AreFirst entries ahead = ahead ≡ map Some (take (length ahead) entries)

  -- They do, and there is one where there is an entry.
  pub record AreNext (entries : List E) (ahead : List (Option E)) : Type 0 where
    pub first : AreFirst entries ahead
    pub some : ahead ≡ [] → entries ≡ []

  -- The first one that is ahead.
  abbrev pub front : List (Option E) → Option E
  front [] = None
  front (e ∷ ahead) = e

-- No variable comes after the name, and none is ahead.
pub record IsEnd (variables : List (List ℕ × VariableState)) (last : Option (List ℕ))
    (ahead : List (Option (List ℕ × VariableState))) : Type 0 where
  pub none : entries_after byte_order variables last ≡ []
  pub empty : ahead ≡ []

-- The variable comes after the name, and those after it are ahead.
pub record IsTaken (variables : List (List ℕ × VariableState)) (last : Option (List ℕ))
    (e : List ℕ × VariableState) (ahead : List (Option (List ℕ × VariableState))) : Type 0 where
  pub walks : entries_after byte_order variables last
      ≡ e ∷ entries_after byte_order variables (Some e.0)
  pub first : AreFirst (entries_after byte_order variables (Some e.0)) ahead

-- The variables after those that are done, of a listing of all of them.
abbrev pub variables_past : Reached → Content → List (List ℕ × VariableState)
variables_past (Names, last) (Variables ups fsd tree) = entries_after byte_order tree.variables last
variables_past reached content = []

-- The next variables are ahead.
abbrev pub IsAhead : Content → Reached → List (Option (List ℕ × VariableState)) → Type 0
IsAhead content reached ahead = AreFirst (variables_past reached content) ahead
