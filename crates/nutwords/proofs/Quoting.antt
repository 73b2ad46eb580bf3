-- What is written is read again.
use Rattle.std.proofs.Common.{◌≡◌, ℕ, Bool, true, false, cond, eqb, List, [], ◌∷◌, ◌++◌, refl}
use Rattle.std.specs.Prelude.{not, ◌&&◌, ◌||◌}
use Rattle.std.specs.List.{list_all}
use Rattle.std.proofs.lemmas.Bool.{and_parts}
use Rattle.nutwords.specs.Bytes.{is_lawful, is_quotable}
use Rattle.nutwords.specs.Grammar.{Units, none, itself, escaped, quoted, Reads, ReadsToBoundary}
use Rattle.nutwords.specs.Spelling as spelling
use Rattle.nutwords.specs.Spelling.{with_backslashes}
use Rattle.nutwords.proofs.Joins.{Reads-behind, Reads-word}

-- a lawful byte that needs no backslash may stand inside quotes
plain_quotable : (b : ℕ) → is_lawful b ≡ true → (eqb b 34 || eqb b 92) ≡ false → is_quotable b ≡ true
plain_quotable b l h = go (is_lawful b) (eqb b 34) (eqb b 92) l h
  where
    go : (x y z : Bool) → x ≡ true → (y || z) ≡ false → (x && not y && not z) ≡ true
    go true false false l h = refl
    go true true z l h = cc
    go true false true l h = cc
    go false y z l h = cc

-- each byte of the word is a unit of its spelling
pub Units-with_backslashes : (word : List ℕ) → list_all is_lawful word ≡ true →
    Units is_quotable (with_backslashes word) word
Units-with_backslashes [] h = none
Units-with_backslashes (b ∷ word) h =
    let p = and_parts (is_lawful b) (list_all is_lawful word) h in
    let rest = Units-with_backslashes word p.1 in
    elim (eqb b 34 || eqb b 92) as (λ v. (eqb b 34 || eqb b 92) ≡ v →
    Units is_quotable (cond v (92 ∷ b ∷ []) (b ∷ []) ++ with_backslashes word) (b ∷ word)) [
      | true ↦ λ e. escaped p.0 rest
      | false ↦ λ e. itself (plain_quotable b p.0 e) rest
    ] refl

-- The written spelling of a word reads as the word.
pub Reads-quoted : (front word : List ℕ) (words : List (List ℕ)) → list_all is_lawful word ≡
    true → ReadsToBoundary front words → Reads (front ++ spelling.quoted word) (words ++ word ∷ [])
Reads-quoted front word words h r =
    Reads-behind front (spelling.quoted word) words (word ∷ []) r
    (Reads-word (spelling.quoted word) word (quoted (with_backslashes word, Units-with_backslashes word h, refl)))
