-- The first entries of a walk.
use Rattle.std.proofs.Common.{◌≡◌, ℕ, zero, suc, false, List, [], ◌∷◌, ◌++◌, map}
use Rattle.std.proofs.Common.{take, Some, Option, refl, sym, ap, ◌∙◌}
use Rattle.std.proofs.lemmas.List.{append_assoc, map-append}
use Rattle.std.proofs.lemmas.List.Elements.{filter-append}
use Rattle.std.specs.declared.cmp.Ordering.{Ordering}
use Rattle.std.specs.declared.cmp.Ordering.TheVariants.{Less, Equal, Greater}
use Rattle.std.specs.Ordering.{is_lt}
use Rattle.std.specs.Cmp.{IsTotalOrder}
use Rattle.std.specs.List.Sorted.{IsStrictlySortedBy}
use Rattle.std.specs.Map.{keys_of}
use Rattle.nutmap.proofs.Ordered.{AllKeys, all_keys_map, IsPast, past_left, past_left_equal, before_right, rising_all}
use Rattle.nutmap.proofs.Above.{above, above_all}

module _ {A : Type 0} where
  -- the first n of what begins with the first n
  take_take : (n : ℕ) (xs ys : List A) → take n (take n xs ++ ys) ≡ take n (xs ++ ys)
  take_take zero xs ys = refl
  take_take (suc n) [] ys = refl
  take_take (suc n) (x ∷ xs) ys = ap (λ l. x ∷ l) (take_take n xs ys)

  -- what joins in three steps joins in one
  joins_three : (n : ℕ) (old a b c one two three : List A) → one ≡ take n (old ++ a) →
      two ≡ take n (one ++ b) → three ≡ take n (two ++ c) → three ≡ take n (old ++ (a ++ (b ++ c)))
  joins_three n old a b c one two three p q r =
      r ∙ ap (λ l. take n (l ++ c)) q ∙ take_take n (one ++ b) c ∙
      ap (take n) (append_assoc one b c) ∙ ap (λ l. take n (l ++ (b ++ c))) p ∙
      take_take n (old ++ a) (b ++ c) ∙ ap (take n) (append_assoc old a (b ++ c))

-- the entries of a node join as those on its left, its own, and those on its right
pub joins_node : {E : Type 0} (n : ℕ) (old one two three : List (Option E)) (l : List E) (e : E)
    (r : List E) → one ≡ take n (old ++ map Some l) → two ≡
    take n (one ++ map Some (e ∷ [])) → three ≡ take n (two ++ map Some r) → three ≡
    take n (old ++ map Some (l ++ e ∷ r))
joins_node n old one two three l e r p q s =
    joins_three n old (map Some l) (map Some (e ∷ [])) (map Some r) one two three p q s ∙
    ap (λ xs. take n (old ++ xs)) (sym (map-append Some l (e ∷ r)))

module _ {K V : Type 0} (c : K → Ordering) where
  above_none : (l m : List (K × V)) → AllKeys (λ k. is_lt (c k) ≡ false) l → above c (l ++ m) ≡ above c m
  above_none [] m a = refl
  above_none (e ∷ l) m a = rw a.0 (above_none l m a.1)

module _ {K V : Type 0} {R : K → K → Ordering} (o : IsTotalOrder R) (q : K) (l : List (K × V))
    (k : K) (w : V) (r : List (K × V)) (s : IsStrictlySortedBy R (keys_of (l ++ (k, w) ∷ r))) where
  not_lt : IsPast R q l → AllKeys (λ k. is_lt (R q k) ≡ false) l
  not_lt a = all_keys_map (λ k. R q k ≡ Greater) (λ k. is_lt (R q k) ≡ false) (λ k h. rw h refl) l a

  -- the entries of a node above a key
  pub above_less : R q k ≡ Less → above (R q) (l ++ (k, w) ∷ r) ≡ above (R q) l ++ (k, w) ∷ r
  above_less h = filter-append (λ e. is_lt (R q e.0)) l ((k, w) ∷ r) ∙
      ap (λ es. above (R q) l ++ es) (above_all (R q) ((k, w) ∷ r) (before_right o q l (k, w) r s h))

  pub above_equal : R q k ≡ Equal → above (R q) (l ++ (k, w) ∷ r) ≡ r
  above_equal h = above_none (R q) l ((k, w) ∷ r) (not_lt (past_left_equal o q l (k, w) r s h))
      ∙ rw h (above_all (R q) r (later h))
    where
      later : R q k ≡ Equal → AllKeys (λ y. R q y ≡ Less) r
      later e = all_keys_map (λ y. R k y ≡ Less) (λ y. R q y ≡ Less)
          (λ y t. o.congr q k y e ∙ t) r (rising_all R l (k, w) r s).1

  pub above_greater : R q k ≡ Greater → above (R q) (l ++ (k, w) ∷ r) ≡ above (R q) r
  above_greater h = above_none (R q) l ((k, w) ∷ r) (not_lt (past_left o q l (k, w) r s h)) ∙ rw h refl
