-- How long the meaning of a word is.
use Rattle.std.proofs.Common.{◌≡◌, ◌≤◌, ℕ, Bool, true, false, List, [], ◌∷◌}
use Rattle.std.proofs.Common.{length, arith, refl, leb}
use Rattle.std.specs.Prelude.{bytes_eq, if◌then◌else◌}
use Rattle.std.specs.List.{list_all}
use Rattle.std.proofs.lemmas.Bool.{leb-true, and_parts}
use Rattle.nutclient.specs.Meaning.{meaning, meaning_in, meanings}

abbrev is_short : List ℕ × List ℕ → Bool
is_short row = leb (length row.1) 100

short_in : (rows : List (List ℕ × List ℕ)) (word : List ℕ) → list_all is_short rows ≡ true
    → length (meaning_in rows word) ≤ 100
short_in [] word h = omega arith
short_in (row ∷ rows) word h =
    let parts = and_parts (is_short row) (list_all is_short rows) h in
    by (bytes_eq row.0 word) (leb-true (length row.1) 100 parts.0) (short_in rows word parts.1)
  where
    by : (b : Bool) → length row.1 ≤ 100 → length (meaning_in rows word) ≤ 100
        → length (if b then row.1 else meaning_in rows word) ≤ 100
    by true its of_rest = its
    by false its of_rest = of_rest

pub short : (word : List ℕ) → length (meaning word) ≤ 100
short word = short_in meanings word refl
