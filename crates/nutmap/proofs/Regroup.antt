-- The entries of trees that are joined in another way.
use Rattle.std.proofs.Common.{◌≡◌, List, [], ◌∷◌, ◌++◌, drop, sym, subst, append_assoc}
use Rattle.std.specs.declared.cmp.Ordering.{Ordering}
use Rattle.nutmap.specs.Entries.{HasRisingKeys}
use Rattle.nutmap.proofs.Ordered.{rising_left, rising_right, rising_tail}

module _ {K V : Type 0} where
  regroup : (a : List (K × V)) (x : K × V) (ml : List (K × V)) (m : K × V) (mr : List (K × V))
      (y : K × V) (b : List (K × V)) → (a ++ x ∷ ml) ++ m ∷ (mr ++ y ∷ b) ≡ a ++ x ∷
      ((ml ++ m ∷ mr) ++ y ∷ b)
  regroup a x ml m mr y b = simp append_assoc

  module _ (R : K → K → Ordering) where
    pub left_rises : (l m : List (K × V)) → HasRisingKeys R (l ++ m) → HasRisingKeys R l
    left_rises l m s = record { rising = rising_left R l m s.rising }

    pub left_of_three_rises : (a : List (K × V)) (x : K × V) (ml : List (K × V)) (m : K × V)
        (mr : List (K × V)) → HasRisingKeys R (a ++ x ∷ (ml ++ m ∷ mr)) → HasRisingKeys R (a ++ x ∷ ml)
    left_of_three_rises a x ml m mr s =
        left_rises (a ++ x ∷ ml) (m ∷ mr)
        (subst (λ (l : List (K × V)). HasRisingKeys R l) (sym (append_assoc a (x ∷ ml) (m ∷ mr))) s)

    pub right_rises : (l : List (K × V)) (e : K × V) (r : List (K × V)) →
        HasRisingKeys R (l ++ e ∷ r) → HasRisingKeys R r
    right_rises l e r s = record { rising = rising_tail R e r (rising_right R l (e ∷ r) s.rising) }

    pub right_of_three_rises : (a : List (K × V)) (x : K × V) (ml : List (K × V)) (m : K × V)
        (mr : List (K × V)) → HasRisingKeys R ((a ++ x ∷ ml) ++ m ∷ mr) → HasRisingKeys R (ml ++ m ∷ mr)
    right_of_three_rises a x ml m mr s =
        right_rises a x (ml ++ m ∷ mr)
        (subst (λ (l : List (K × V)). HasRisingKeys R l) (append_assoc a (x ∷ ml) (m ∷ mr)) s)

    pub rest_rises : (l m : List (K × V)) → HasRisingKeys R (l ++ m) → HasRisingKeys R (drop 1 l ++ m)
    rest_rises [] m s = s
    rest_rises (e ∷ l) m s = record { rising = rising_tail R e (l ++ m) s.rising }

    module _ (a : List (K × V)) (x : K × V) (ml : List (K × V)) (m : K × V) (mr : List (K × V))
        (y : K × V) (b : List (K × V)) (s : HasRisingKeys R (a ++ x ∷ ((ml ++ m ∷ mr) ++ y ∷ b))) where
      root_rises : HasRisingKeys R ((a ++ x ∷ ml) ++ m ∷ (mr ++ y ∷ b))
      root_rises = subst (λ (l : List (K × V)). HasRisingKeys R l) (sym (regroup a x ml m mr y b)) s

      pub left_node_rises : HasRisingKeys R (a ++ x ∷ ml)
      left_node_rises = left_rises (a ++ x ∷ ml) (m ∷ (mr ++ y ∷ b)) root_rises

      pub right_node_rises : HasRisingKeys R (mr ++ y ∷ b)
      right_node_rises = right_rises (a ++ x ∷ ml) m (mr ++ y ∷ b) root_rises
