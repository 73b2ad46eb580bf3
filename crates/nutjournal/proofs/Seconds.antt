-- One after another of some items is mapped.
use Rattle.std.proofs.Common.{◌≡◌, ◌∙◌, ℕ, zero, suc, ◌+◌, ◌<◌, List, []}
use Rattle.std.proofs.Common.{◌∷◌, ◌++◌, map, take, drop, length, slice_index_or}
use Rattle.std.proofs.Common.{slice_set, refl, ap, sym, add-one, arith}

at_place : {A : Type 0} (f : A → A) (xs : List A) (i : ℕ) (d : A) → i < length xs
    → slice_set (map f (take i xs) ++ drop i xs) i (f (slice_index_or (map f (take i xs) ++ drop i xs) i d))
    ≡ map f (take (suc i) xs) ++ drop (suc i) xs
at_place f [] i d below = absurd (omega arith)
at_place f (y ∷ xs) zero d below = refl
at_place f (y ∷ xs) (suc i) d below = ap (λ l. f y ∷ l) (at_place f xs i d (omega arith))

pub one_more_mapped : {A : Type 0} (f : A → A) (xs items : List A) (i : ℕ) (d v : A) → i < length xs
    → items ≡ map f (take i xs) ++ drop i xs → v ≡ f (slice_index_or items i d)
    → slice_set items i v ≡ map f (take (i + 1) xs) ++ drop (i + 1) xs
one_more_mapped f xs items i d v below are is =
    ap (slice_set items i) is ∙ ap (λ l. slice_set l i (f (slice_index_or l i d))) are ∙ at_place f xs i d below
    ∙ ap (λ k. map f (take k xs) ++ drop k xs) (sym (add-one i))
