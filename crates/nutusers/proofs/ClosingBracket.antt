-- Where the closing bracket of a section's name stands.
use Rattle.std.proofs.Common.{◌≡◌, ℕ, eqb, cond, Bool, true, false, List, [], ◌∷◌}
use Rattle.std.proofs.Common.{◌++◌, Option, None, Some, refl, ap, ◌∙◌}
use Rattle.std.specs.Option.{option_map}
use Rattle.nutusers.specs.ConfigLine.{before_bracket, name_in_brackets}

-- the last byte is the bracket, or there is none
pub before_bracket-last : (name : List ℕ) (b : ℕ) → before_bracket (name ++ b ∷ []) ≡
    cond (eqb b 93) (Some name) None
before_bracket-last [] b = refl
before_bracket-last (x ∷ []) b =
    elim (eqb b 93) as (λ v. option_map (λ name. x ∷ name) (cond v (Some []) None) ≡
    cond v (Some (x ∷ [])) None) [ true ↦ refl | false ↦ refl ]
before_bracket-last (x ∷ y ∷ name) b =
    ap (option_map (λ name. x ∷ name)) (before_bracket-last (y ∷ name) b) ∙ both (eqb b 93)
  where
    both : (v : Bool) → option_map (λ name. x ∷ name) (cond v (Some (y ∷ name)) None) ≡
        cond v (Some (x ∷ y ∷ name)) None
    both true = refl
    both false = refl

-- the name in brackets, by the word's first byte and its last
pub name_in_brackets-ends : (word rest name : List ℕ) (a b : ℕ) → word ≡ a ∷ rest →
    rest ≡ name ++ b ∷ [] → name_in_brackets word ≡ cond (eqb a 91) (cond (eqb b 93) (Some name) None) None
name_in_brackets-ends word rest name a b first last =
    rw (first, last) (ap (λ (closed : Option (List ℕ)). cond (eqb a 91) closed None) (before_bracket-last name b))
